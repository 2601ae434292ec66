-- `dot_line` meets its contract: the dots so far, one more at each turn, then the line's end.
use mathlib.Core.Path.{◌≡◌, refl, ap, sym, ◌∙◌}
use mathlib.Core.List.{[], ◌∷◌, ◌++◌}
use Prim.Native.Nat.{ℕ}
use native.Mathlib.Omega.{arith}
use Rattle.ground.specs.Lists.{build}
use Rattle.ground.proofs.Lists.{build-more}
use Rattle.printed.specs.Text.{dot_mark, dot_mark_at, dot_line}
use Rattle.printed.proofs.Puts.{starts, goes, puts_both, puts_same}
use Rattle.printed.proofs.put.Text.dot_line.Goals as goal

pub loop-x-init : goal.loop-x-init
unfolding build
loop-x-init c = (omega arith, starts _ refl refl)

pub loop-x-preserved : goal.loop-x-preserved
loop-x-preserved c = let k = c.loop-x in
    let f = dot_mark_at c.args.frame.now c.args.from in
    let e = c.dot_mark.ensures ∙ ap dot_mark c.bit-dot.ensures in
    (omega arith, goes k.invariant.1 c.byte.ensures (build-more k.x f ∙ ap (λ (v : ℕ). build k.x f ++ (v ∷ [])) (sym e)) refl)

pub returns : goal.returns
unfolding dot_line
returns c = let s = c.args in
    let e : c.loop-x.x ≡ s.dots = omega arith in
    puts_both (puts_same (ap (λ (n : ℕ). build n (dot_mark_at s.frame.now s.from)) e) c.loop-x.invariant.1.puts) c.byte-2.ensures
