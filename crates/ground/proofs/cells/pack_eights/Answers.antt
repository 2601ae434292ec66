-- `pack_eights` meets its contract: the cells are the bytes.
use Rattle.std.proofs.Common.{◌≡◌, length, sym, ◌∙◌, arith, ext_get_or}
use Rattle.ground.specs.Lists.{build}
use Rattle.ground.specs.Packing.{row_bytes}
use Rattle.ground.proofs.Lists.{build-length, build-at}
use Rattle.ground.proofs.Packs.{byte_in, row-built}
use Rattle.ground.proofs.Sixes.{whole-cell}
use Rattle.ground.proofs.cells.pack_eights.Goals as goal

pub returns : goal.returns
returns c = let cells = c.args.cells.now in
    let n = row_bytes (length cells) 8 in
    let e : length cells ≡ n = omega arith in
    c.copy_from_slice.ensures.after
    ∙ ext_get_or 0 cells (build n (byte_in 8 cells)) (e ∙ sym (build-length n (byte_in 8 cells)))
    (λ i h. whole-cell cells i h (omega (arith, c.type_inv.cells i)) ∙ sym (build-at n (byte_in 8 cells) i 0 (omega (arith, e))))
    ∙ row-built 8 cells
