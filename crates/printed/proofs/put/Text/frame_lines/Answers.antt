-- `frame_lines` meets its contract: the rows so far, one more at each turn.
use mathlib.Core.Path.{◌≡◌, refl, ap}
use Prim.Native.Nat.{ℕ, ◌+◌, ◌*◌}
use native.Mathlib.Nat.{zero-mul}
use native.Mathlib.Omega.{arith}
use Rattle.ground.specs.Lists.{joined}
use Rattle.ground.specs.Packing.{row_bytes}
use Rattle.ground.proofs.Lists.{joined-more}
use Rattle.printed.specs.Printed.{frame_line, frame_lines}
use Rattle.printed.proofs.Puts.{starts, goes, puts_same, dot-line-length, piece_inside, piece-more}
use Rattle.printed.proofs.put.Text.frame_lines.Goals as goal

pub loop-row-init : goal.loop-row-init
unfolding joined
loop-row-init c = let s = c.args in
    (omega arith, starts _ refl (zero-mul (s.panel.columns * s.panel.width + 1)))

pub overflow_mul-row : goal.overflow_mul-row
overflow_mul-row c = let e : c.div_ceil-bytes.result ≡ row_bytes c.args.panel.columns c.args.panel.width = omega (arith, c.div_ceil-bytes.ensures) in
    rw e (omega (arith, piece_inside (row_bytes c.args.panel.columns c.args.panel.width) c.loop-row-test.true, c.requires.frame_len, c.well_formed))

pub dot_line-requires : goal.dot_line-requires
dot_line-requires c = let dots = c.args.panel.columns * c.args.panel.width in
    let h = c.loop-row-test.true in
    let e : c.div_ceil-bytes.result ≡ row_bytes c.args.panel.columns c.args.panel.width = omega (arith, c.div_ceil-bytes.ensures) in
    (omega (arith, piece_inside (dots + 1) h, c.loop-row.invariant, c.requires.room_for), rw e (omega (arith, piece_inside (row_bytes c.args.panel.columns c.args.panel.width) h, c.requires.frame_len)))

pub loop-row-preserved : goal.loop-row-preserved
loop-row-preserved c = let s = c.args in
    let k = c.loop-row in
    let bytes = row_bytes s.panel.columns s.panel.width in
    let dots = s.panel.columns * s.panel.width in
    let e : c.div_ceil-bytes.result ≡ bytes = omega (arith, c.div_ceil-bytes.ensures) in
    (omega arith, goes k.invariant.1 (rw e at c.dot_line.ensures) (joined-more k.row (frame_line s.panel s.frame.now)) (piece-more k.row (dots + 1) (dot-line-length s.frame.now (k.row * bytes) dots)))

pub returns : goal.returns
unfolding frame_lines
returns c = let s = c.args in
    let e : c.loop-row.row ≡ 8 * s.panel.lines = omega arith in
    puts_same (ap (λ (n : ℕ). joined n (frame_line s.panel s.frame.now)) e) c.loop-row.invariant.1.puts
