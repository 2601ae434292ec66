-- `pack_row` meets its contract: by the width.
use Rattle.std.proofs.Common.{ℕ, length, sym, refl, ap, ◌∙◌, inl}
use Rattle.ground.specs.Packing.{row_bytes, row_in}
use Rattle.ground.proofs.Sixes.{eight}
use Rattle.ground.proofs.cells.pack_row.Goals as goal

pub pack_sixes-requires : goal.pack_sixes-requires
pack_sixes-requires c = record { packable = record { width = inl refl; few = c.requires.packable.few }; out_len = c.requires.out_len ∙ ap (λ (n : ℕ). row_bytes (length c.args.cells.now) n) c.if-width-eq6.true }

pub pack_eights-requires : goal.pack_eights-requires
pack_eights-requires c = c.requires.out_len ∙ ap (λ (n : ℕ). row_bytes (length c.args.cells.now) n) (eight c.requires.packable.width c.if-width-eq6.false)

pub returns-then-width-eq6 : goal.returns-then-width-eq6
returns-then-width-eq6 c = c.pack_sixes.ensures ∙ ap (λ (n : ℕ). row_in n c.args.cells.now) (sym c.if-width-eq6.true)

pub returns-else-width-eq6 : goal.returns-else-width-eq6
returns-else-width-eq6 c = c.pack_eights.ensures ∙ ap (λ (n : ℕ). row_in n c.args.cells.now) (sym (eight c.requires.packable.width c.if-width-eq6.false))
