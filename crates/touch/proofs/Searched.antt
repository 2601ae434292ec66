-- The search through a line's codes: none so far is met.
use Rattle.std.proofs.Common.{◌≡◌, ℕ, ◌+◌, ◌/◌, ◌%◌, ◌<◌, ◌≤◌, Bool, true, false, ◌||◌, List, get_or, sym, ap, ◌∙◌, arith}
use Rattle.state.specs.Address.{address_of}
use Rattle.display.specs.Displayed.{text_code}
use Rattle.touch.specs.Types.{Panel, Display}
use Rattle.touch.specs.Touch.{any_of}
use Rattle.touch.specs.Ready.{code_meets, line_meets}
use Rattle.touch.proofs.Anys.{any-has, any-more, any-zero}

abbrev pub cell_meets : Display → List ℕ → ℕ → ℕ → ℕ → ℕ → Bool
cell_meets d mem r at n c = code_meets d (text_code d mem (r / 8) c) (r % 8) at n

pub record Unmet (d : Display) (mem : List ℕ) (r at n c : ℕ) : Type 0 where
  pub none : any_of c (λ i. cell_meets d mem r at n i) ≡ false

pub unmet : (d : Display) (mem : List ℕ) (r at n : ℕ) → Unmet d mem r at n 0
unmet d mem r at n = record { none = any-zero (λ i. cell_meets d mem r at n i) }

module _ (d : Display) (mem : List ℕ) (r at n c : ℕ) {start from : ℕ} (s : start ≡ address_of d.text (r / 8) 0) (f : from ≡ (start + c) % 65536) where
  pub code_is : get_or mem from 0 ≡ text_code d mem (r / 8) c
  unfolding text_code
  code_is = ap (λ (a : ℕ). get_or mem a 0) (f ∙ ap (λ (m : ℕ). (m + c) % 65536) s ∙ (omega arith))

  pub cell-is : {h : Bool} → h ≡ code_meets d (get_or mem from 0) (r % 8) at n → h ≡ cell_meets d mem r at n c
  cell-is e = e ∙ ap (λ (m : ℕ). code_meets d m (r % 8) at n) code_is

pub unmet-on : (d : Display) (mem : List ℕ) (r at n : ℕ) {c start from : ℕ} {h : Bool} → Unmet d mem r at n c
    → start ≡ address_of d.text (r / 8) 0 → from ≡ (start + c) % 65536 → h ≡ code_meets d (get_or mem from 0) (r % 8) at n → h ≡ false → Unmet d mem r at n (c + 1)
unmet-on d mem r at n {c} k s f e z =
    record { none = any-more c (λ i. cell_meets d mem r at n i) ∙ (λ i. k.none i || (sym (cell-is d mem r at n c s f e) ∙ z) i) }

pub unmet-hit : (p : Panel) (d : Display) (mem : List ℕ) (r at n : ℕ) {c start from : ℕ} {h : Bool} → Unmet d mem r at n c → c < p.columns
    → start ≡ address_of d.text (r / 8) 0 → from ≡ (start + c) % 65536 → h ≡ code_meets d (get_or mem from 0) (r % 8) at n → h ≡ true → true ≡ line_meets p d mem r at n
unfolding line_meets
unmet-hit p d mem r at n {c} k l s f e z =
    sym (any-has p.columns (λ i. cell_meets d mem r at n i) c l (sym (cell-is d mem r at n c s f e) ∙ z))

pub unmet-all : (p : Panel) (d : Display) (mem : List ℕ) (r at n : ℕ) {c : ℕ} → Unmet d mem r at n c → c ≤ p.columns → p.columns ≤ c → false ≡ line_meets p d mem r at n
unfolding line_meets
unmet-all p d mem r at n {c} k a b =
    let e : p.columns ≡ c = omega arith in
    sym (ap (λ (m : ℕ). any_of m (λ i. cell_meets d mem r at n i)) e ∙ k.none)
