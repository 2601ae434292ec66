-- The door: what holds past it, and what a refusal by 1 or 2 leaves.
use mathlib.Core.Path.{◌≡◌, refl, ap, sym, ◌∙◌}
use mathlib.Core.Bool.{Bool, true, false, cond, ◌&&◌, false≢true}
use mathlib.Core.List.{List}
use Prim.Native.Nat.{ℕ}
use lib.Dec.{eqb}
use lib.ListN.{length}
use borrow.Author.Tests.{eqb-true}
use Rattle.ground.proofs.Tests.{both_left}
use Rattle.state.specs.State.{valid_panel, valid_registers, reset_registers}
use Rattle.image.specs.Types.{Panel, Registers, Entry, State, Refused}
use Rattle.image.specs.Image.{replaced, readable, state_of}
use Rattle.image.specs.Door.{door_of, closes, written_of}

answer_of : List ℕ → Bool → Bool → Bool → Bool → Entry
answer_of b panel fits stands lent = cond panel (cond fits (cond stands (cond lent (State (state_of b)) (Refused 2)) (Refused 1)) (Refused 2)) (Refused 1)

is_state : Entry → Bool
is_state (State r) = true
is_state (Refused n) = false

held : Entry → Registers
held (State r) = r
held (Refused n) = reset_registers

module _ (p : Panel) (lent : Bool) (b : List ℕ) where
  -- the bytes are registers, and valid ones
  abbrev stands : Bool
  stands = readable b && valid_registers (state_of b)

  entry-is : {v w x y : Bool} → valid_panel p ≡ v → eqb (length b) 25 ≡ w → stands ≡ x → lent ≡ y → door_of p lent b ≡ answer_of b v w x y
  unfolding door_of answer_of
  entry-is i j k l = λ t. answer_of b (i t) (j t) (k t) (l t)

  -- past the door the bytes have their length, and are the registers that go on
  record Past (w x : Bool) (r : Registers) : Type 0 where
    fits : w ≡ true
    read : x ≡ true
    state : state_of b ≡ r

  past : (v w x y : Bool) {r : Registers} → answer_of b v w x y ≡ State r → Past w x r
  unfolding answer_of is_state held
  past true true true true h = record { fits = refl; read = refl; state = ap held h }
  past true true true false h = absurd (false≢true (ap is_state h))
  past true true false y h = absurd (false≢true (ap is_state h))
  past true false x y h = absurd (false≢true (ap is_state h))
  past false w x y h = absurd (false≢true (ap is_state h))

  module _ {x : Entry} {r : Registers} (h : x ≡ door_of p lent b) (k : x ≡ State r) where
    entered : Past (eqb (length b) 25) stands r
    entered = past (valid_panel p) (eqb (length b) 25) stands lent (sym (entry-is refl refl refl refl) ∙ sym h ∙ k)

    pub entered-length : length b ≡ 25
    entered-length = eqb-true (length b) 25 entered.fits

    pub entered-readable : readable b ≡ true
    entered-readable = both_left (readable b) (valid_registers (state_of b)) entered.read

    pub entered-state : state_of b ≡ r
    entered-state = entered.state

-- written back, or not
module _ (n : ℕ) (new old : List ℕ) where
  pub written-closed : closes n ≡ true → old ≡ written_of n new old
  written-closed e = sym (ap (λ (t : Bool). cond t old (replaced new old)) e)
