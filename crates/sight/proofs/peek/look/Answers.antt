-- `look` meets its contract, with a position and without.
use Rattle.std.proofs.Common.{ap, ◌∙◌}
use Rattle.effects.specs.Effect.{with_bus}
use Rattle.sight.specs.Answered.{Seen}
use Rattle.sight.specs.Located.{located}
use Rattle.sight.proofs.Cells.{layers-ok, layers-shown, layers-are}
use Rattle.sight.proofs.Sights.{peek_found, peek-nowhere}
use Rattle.sight.proofs.Readied.{shown-byte}
use Rattle.sight.proofs.peek.look.Goals as goal

pub unwrap-requires : goal.unwrap-requires
unwrap-requires c = let k = c.requires in
    layers-ok c.layers.result (ap (λ (x : Seen). x.number) (c.layers.ensures ∙ layers-are c.args.panel c.args.registers.now.display _ _ _ _ k.panel k.display k.lent))

pub returns-in-Some : goal.returns-in-Some
returns-in-Some c = let r = c.args.registers.now in
    ap (with_bus r) (peek_found c.args.panel c.args.rom.now r c.args.memory.now c.find.ensures (ap located c.in-Some.is)
    (layers-shown c.layers.result c.unwrap.ensures ∙ shown-byte c.requires _ _ c.layers.ensures))
