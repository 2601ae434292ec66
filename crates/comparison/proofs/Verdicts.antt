-- What each test of a comparison answers, from its parts.
use mathlib.Core.Path.{◌≡◌, refl, ap, sym, subst, ◌∙◌}
use mathlib.Core.Bool.{Bool, true, ◌&&◌}
use mathlib.Core.List.{List}
use Prim.Native.Nat.{ℕ, ◌/◌, ◌%◌}
use native.Mathlib.Omega.{arith}
use native.Mathlib.Decide.{ℕ_discrete}
use lib.Dec.{eqb}
use lib.ListN.{length, take}
use borrow.Author.Tests.{eqb-true, eq-eqb}
use Rattle.ground.specs.Lists.{zeros}
use Rattle.ground.proofs.Tests.{both, both_left, both_right, settled}
use Rattle.state.specs.State.{valid_panel, valid_display, valid_bus, valid_registers, reset_registers}
use Rattle.display.specs.Frame.{lent_lengths}
use Rattle.controller.specs.Run.{pairs_of, RanAll, stopping_of}
use Rattle.controller.proofs.Laws.{sounds, sounds-valid}
use Rattle.controller.specs.Ready.{standing}
use Rattle.controller.proofs.Splitting.{running-kept, inside}
use Rattle.entries.specs.Listed.{differences_from}
use Rattle.entries.specs.Entered.{Entered, entered_all, entered_of}
use Rattle.entries.proofs.Listings.{differences-few}
use Rattle.entries.proofs.Enterings.{bytes-are, values-are}
use Rattle.playback.proofs.Parted.{door-8}
use Rattle.comparison.specs.Types.{Panel, Registers}
use Rattle.whole.specs.Whole.{whole_of}
use Rattle.image.specs.Registered.{register_values}
use Rattle.comparison.specs.Ready.{Few, Pictured, Paints, RanReset}
use Rattle.std.proofs.Common.{Result, Ok, Err, IfErr, ◌≤◌}
use Rattle.comparison.specs.declared.compare.Compared.{Compared as Differences}
use Rattle.comparison.specs.declared.compare.Refused.{Refused}
use Rattle.comparison.specs.Verdict.{Compared, ComparedAll, compared, compared_all, memories_fit, compare_of}
use Rattle.image.proofs.Registries.{values_length}

-- a run from a valid state leaves one, and a memory of its length
module _ (p : Panel) (r : Registers) (mem rom log : List ℕ) (n : ℕ) (answers : List ℕ) (v : valid_panel p ≡ true) (w : valid_registers r ≡ true) (l : lent_lengths mem rom ≡ true) where
  long : length mem ≡ 65536
  long = eqb-true (length mem) 65536 (both_left (eqb (length mem) 65536) (eqb (length rom) 1024) l)

  stops-sound : Dec (length log % 2 ≡ 0)
      → (valid_registers (stopping_of p r mem rom log n answers).ran.registers ≡ true) × (length (stopping_of p r mem rom log n answers).memory ≡ 65536)
  stops-sound (yes e) =
      subst (λ (x : RanAll). (valid_registers x.ran.registers ≡ true) × (length x.memory ≡ 65536)) (sym (inside p r mem rom log n answers (both v w) l e))
      (let kept = running-kept p rom (take n (pairs_of log)) 0 (standing r mem answers 0) (sounds r mem w long) (omega arith) in
      (sounds-valid kept.sound, kept.sound.memory))
  stops-sound (no o) =
      subst (λ (x : RanAll). (valid_registers x.ran.registers ≡ true) × (length x.memory ≡ 65536)) (sym (door-8 p r mem rom log n answers (both v w) l o)) (w, long)

whole-paints : (p : Panel) (mem rom log : List ℕ) → valid_panel p ≡ true → lent_lengths mem rom ≡ true
    → {n : ℕ} {r : Registers} {m : List ℕ} → RanReset n (whole_of p reset_registers mem rom log) (Ok r) m → Paints p r.display m rom
unfolding whole_of
whole-paints p mem rom log v l {n} {r} {m} e =
    let s = stops-sound p reset_registers mem rom log (length log / 2) (zeros (length log / 2)) v refl l (ℕ_discrete (length log % 2) 0) in
    record {
      panel = v;
      state = both_left (valid_display r.display) (valid_bus r.bus) (ap valid_registers (sym e.answer.1) ∙ s.0);
      lent = both (eq-eqb (length m) 65536 (ap length e.memory ∙ s.1)) (both_right (eqb (length mem) 65536) (eqb (length rom) 1024) l);
    }

pictured : {p : Panel} {d e : _} {mem memory rom : List ℕ} → Paints p d mem rom → Paints p e memory rom → Pictured p d mem e memory rom
pictured a b = record { panel = a.panel; one = a.state; two = b.state; first = a.lent; second = b.lent }

-- the entries are few: both memories are 64 KiB, and the registers 17
pub few : {p : Panel} (r q : Registers) (list b : List ℕ) {mem memory rom a l : List ℕ} {x : Entered} → Pictured p r.display mem q.display memory rom
    → a ≡ register_values r → entered_all x l ≡ entered_of list (differences_from 0 mem memory) (differences_from 0 a b) → Few x
few r q list b {mem} {memory} {rom} {a} k f e =
    let m = eqb-true (length mem) 65536 (both_left (eqb (length mem) 65536) (eqb (length rom) 1024) k.first) in
    record {
      bytes = omega (arith, m, differences-few 0 mem memory, bytes-are list (differences_from 0 mem memory) (differences_from 0 a b) e);
      values = omega (arith, ap length f ∙ values_length r, differences-few 0 a b, values-are list (differences_from 0 mem memory) (differences_from 0 a b) e);
    }

-- the door
module _ (p : Panel) (one two rom former latter list : List ℕ) {v : Bool} (i : v ≡ valid_panel p) where
  module _ (e : v ≡ true) where
    compares-valid : valid_panel p ≡ true
    compares-valid = sym i ∙ e

    module _ (f : memories_fit one two rom ≡ true) where
      lengths : (eqb (length one) 65536 ≡ true) × (eqb (length two) 65536 ≡ true) × (eqb (length rom) 1024 ≡ true)
      lengths =
          let l = both_left (eqb (length one) 65536 && eqb (length two) 65536) (eqb (length rom) 1024) f in
          (both_left (eqb (length one) 65536) (eqb (length two) 65536) l, both_right (eqb (length one) 65536) (eqb (length two) 65536) l, both_right (eqb (length one) 65536 && eqb (length two) 65536) (eqb (length rom) 1024) f)

      compares-lent : lent_lengths one rom ≡ true
      compares-lent = both lengths.0 lengths.2

      -- both logs have run, the second in a copy of the first memory
      pub both-paint : {copy : List ℕ} → copy ≡ one → {r q : Registers} {m k : List ℕ} {a b : ℕ}
          → RanReset a (whole_of p reset_registers one rom former) (Ok r) m → RanReset b (whole_of p reset_registers copy rom latter) (Ok q) k
          → Pictured p r.display m q.display k rom
      both-paint {copy} same x y =
          pictured (whole-paints p one rom former compares-valid compares-lent x)
          (whole-paints p copy rom latter compares-valid (ap (λ (l : List ℕ). lent_lengths l rom) same ∙ compares-lent) y)

same_compared : (x y : Result Differences Refused) → IfErr x (λ r. 1 ≤ r.number) → IfErr y (λ r. 1 ≤ r.number) → compared x ≡ compared y → x ≡ y
same_compared (Ok d) (Ok e) i j h = λ q. Ok (record { memory = (h q).memory; registers = (h q).registers; dots = (h q).dots })
same_compared (Ok d) (Err r) i j h = let n : 0 ≡ r.number = ap (λ (k : Compared). k.number) h in absurd (let w : ⊥ = omega (arith, n, j) in w)
same_compared (Err r) (Ok d) i j h = let n : r.number ≡ 0 = ap (λ (k : Compared). k.number) h in absurd (let w : ⊥ = omega (arith, n, i) in w)
same_compared (Err r) (Err s) i j h = λ q. Err (record { number = (h q).number; place = (h q).place; log = (h q).log })

-- two replies that meet the promise are equal
pub compare-settled : {x y : Compared} {a b c d e f : List ℕ} (p : Panel) (one two rom former latter list : List ℕ)
    → compared_all x a b c ≡ compare_of p one two rom former latter list → compared_all y d e f ≡ compare_of p one two rom former latter list
    → compared_all x a b c ≡ compared_all y d e f
compare-settled p one two rom former latter list h k = settled h k

-- two results that meet it are equal, since a refusal's number is at least 1
pub compare-result-settled : {x y : Result Differences Refused} {a b c d e f : List ℕ} (p : Panel) (one two rom former latter list : List ℕ)
    → IfErr x (λ r. 1 ≤ r.number) → IfErr y (λ r. 1 ≤ r.number)
    → compared_all (compared x) a b c ≡ compare_of p one two rom former latter list → compared_all (compared y) d e f ≡ compare_of p one two rom former latter list
    → (x ≡ y) × (a ≡ d) × (b ≡ e) × (c ≡ f)
compare-result-settled {x} {y} p one two rom former latter list i j h k =
    let e = settled h k in
    (same_compared x y i j (ap (λ (o : ComparedAll). o.compared) e), ap (λ (o : ComparedAll). o.one) e, ap (λ (o : ComparedAll). o.two) e, ap (λ (o : ComparedAll). o.list) e)
