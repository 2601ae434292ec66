-- What an access and a reset come to behind the door, and that the reply of each export is settled.
use mathlib.Core.Path.{◌≡◌, ap, sym, ◌∙◌}
use mathlib.Core.Bool.{Bool, true, cond}
use mathlib.Core.List.{List}
use Prim.Native.Nat.{ℕ}
use lib.Dec.{eqb}
use lib.ListN.{length}
use borrow.Author.Tests.{eq-eqb}
use Rattle.ground.specs.Bytes.{word_of}
use Rattle.ground.proofs.Tests.{settled}
use Rattle.state.specs.State.{reset_registers}
use Rattle.controller.specs.Access.{Pair, refused, replied, access_of}
use Rattle.single.specs.Outcome.{entered_of}
use Rattle.single.proofs.Acts.{acted-entered}
use Rattle.boundary.specs.Types.{Panel, Registers, Acted, Entry, State}
use Rattle.image.specs.Image.{bytes_of, replaced}
use Rattle.image.specs.Door.{door_of, kept_of}
use Rattle.image.proofs.Images.{bytes-length, replaced-same}
use Rattle.boundary.specs.Exports.{AccessEnd, access_end, access_done, access_by, access_bytes, RunEnd, run_end, stopping_bytes, RunOnEnd, run_on_end, run_on_bytes, PaintEnd, paint_end, paint_bytes, layers_bytes, ResetEnd, reset_end, reset_bytes}

module _ (p : Panel) (b mem rom : List ℕ) (q : Pair) {x : Entry} (h : x ≡ door_of p true b) where
  access-by : {y : Entry} → x ≡ y → access_by y p b mem rom q ≡ access_bytes p b mem rom q
  unfolding access_bytes
  access-by e = ap (λ (y : Entry). access_by y p b mem rom q) (sym e ∙ h)

  pub access-done : {r : Registers} {a : Acted} {m l : List ℕ} {w : ℕ} → x ≡ State r → replied a m ≡ access_of p r mem rom q
      → l ≡ kept_of a.number a.registers b → w ≡ word_of a.number a.answer → access_end w l m ≡ access_bytes p b mem rom q
  access-done {m = m} e f k g = (λ i. access_end (g i) (k i) m) ∙ ap (access_done b) f ∙ access-by e

  -- refused behind the door: registers and memory are as they were
  pub access-err : {r s : Registers} {m l : List ℕ} {n i j w : ℕ} → x ≡ State r → (s ≡ r) × (m ≡ mem) → refused n ≡ entered_of p r mem rom q
      → i ≡ n → j ≡ n → l ≡ kept_of i s b → w ≡ word_of j 0 → access_end w l m ≡ access_bytes p b mem rom q
  access-err {r} {s} {m} {n = n} e f g u v k y =
      access-done {a = record { number = n; place = 0; registers = s; answer = 0 }} e
      ((λ t. replied (record { number = n; place = 0; registers = f.0 t; answer = 0 }) (f.1 t)) ∙ acted-entered p r mem rom q g)
      (k ∙ ap (λ (z : ℕ). kept_of z s b) u) (y ∙ ap (λ (z : ℕ). word_of z 0) v)

module _ (b : List ℕ) where
  reset_by : (v : Bool) → eqb (length b) 25 ≡ v → cond v (reset_end 0 (bytes_of reset_registers)) (reset_end 2 b) ≡ reset_bytes b
  unfolding reset_bytes
  reset_by v e = ap (λ (t : Bool). cond t (reset_end 0 (bytes_of reset_registers)) (reset_end 2 b)) (sym e)

  pub reset-done : {r : Registers} {l : List ℕ} → length b ≡ 25 → r ≡ reset_registers → l ≡ replaced (bytes_of r) b → reset_end 0 l ≡ reset_bytes b
  reset-done {r} e h k = ap (reset_end 0) (k ∙ sym (replaced-same (bytes_of r) b (e ∙ sym (bytes-length r))) ∙ ap bytes_of h) ∙ reset_by true (eq-eqb (length b) 25 e)

-- two replies that meet a promise are equal
pub access-settled : {v w : ℕ} {b c m n : List ℕ} (p : Panel) (bytes mem rom : List ℕ) (q : Pair)
    → access_end v b m ≡ access_bytes p bytes mem rom q → access_end w c n ≡ access_bytes p bytes mem rom q → (v ≡ w) × (b ≡ c) × (m ≡ n)
access-settled p bytes mem rom q h k =
    let e = settled h k in
    (ap (λ (o : AccessEnd). o.result) e, ap (λ (o : AccessEnd). o.registers) e, ap (λ (o : AccessEnd). o.memory) e)

pub stopping-settled : {v w : ℕ} {b c m n a d s t : List ℕ} (p : Panel) (bytes mem rom log : List ℕ) (limit : ℕ) (answers counts : List ℕ)
    → run_end v b m a s ≡ stopping_bytes p bytes mem rom log limit answers counts → run_end w c n d t ≡ stopping_bytes p bytes mem rom log limit answers counts
    → (v ≡ w) × (b ≡ c) × (m ≡ n) × (a ≡ d) × (s ≡ t)
stopping-settled p bytes mem rom log limit answers counts h k =
    let e = settled h k in
    (ap (λ (o : RunEnd). o.number) e, ap (λ (o : RunEnd). o.registers) e, ap (λ (o : RunEnd). o.memory) e, ap (λ (o : RunEnd). o.answers) e, ap (λ (o : RunEnd). o.counts) e)

pub run_settled : {v w : ℕ} {b c m n a d e f s t : List ℕ} (p : Panel) (bytes mem rom log : List ℕ) (limit : ℕ) (answers skips counts : List ℕ)
    → run_on_end v b m a e s ≡ run_on_bytes p bytes mem rom log limit answers skips counts → run_on_end w c n d f t ≡ run_on_bytes p bytes mem rom log limit answers skips counts
    → (v ≡ w) × (b ≡ c) × (m ≡ n) × (a ≡ d) × (e ≡ f) × (s ≡ t)
run_settled p bytes mem rom log limit answers skips counts h k =
    let e = settled h k in
    (ap (λ (o : RunOnEnd). o.number) e, ap (λ (o : RunOnEnd). o.registers) e, ap (λ (o : RunOnEnd). o.memory) e, ap (λ (o : RunOnEnd). o.answers) e, ap (λ (o : RunOnEnd). o.skips) e, ap (λ (o : RunOnEnd). o.counts) e)

pub paint-settled : {v w : ℕ} {f g : List ℕ} (p : Panel) (bytes mem rom frame : List ℕ)
    → paint_end v f ≡ paint_bytes p bytes mem rom frame → paint_end w g ≡ paint_bytes p bytes mem rom frame → (v ≡ w) × (f ≡ g)
paint-settled p bytes mem rom frame h k =
    let e = settled h k in (ap (λ (o : PaintEnd). o.number) e, ap (λ (o : PaintEnd). o.frame) e)

pub reset-settled : {v w : ℕ} {b c : List ℕ} (bytes : List ℕ) → reset_end v b ≡ reset_bytes bytes → reset_end w c ≡ reset_bytes bytes → (v ≡ w) × (b ≡ c)
reset-settled bytes h k =
    let e = settled h k in (ap (λ (o : ResetEnd). o.number) e, ap (λ (o : ResetEnd). o.registers) e)

pub layers-settled : {v w : ℕ} (p : Panel) (bytes mem rom : List ℕ) (row column : ℕ)
    → v ≡ layers_bytes p bytes mem rom row column → w ≡ layers_bytes p bytes mem rom row column → v ≡ w
layers-settled p bytes mem rom row column h k = settled h k
