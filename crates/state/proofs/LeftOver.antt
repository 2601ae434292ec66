-- Request 04 changed five rows of the table: document 01's rule stands here, to be compared with, and nowhere else.
use Rattle.std.proofs.Common.{◌≡◌, ℕ, ◌<◌, Bool, true, false, cond, ◌||◌, eqb, List, get_or, sym, refl, ap, ◌∙◌}
use Rattle.ground.specs.Lists.{build}
use Rattle.ground.proofs.Lists.{build-at}
use Rattle.state.specs.Types.{Normal, Reverse, Inhibit, Look}
use Rattle.state.specs.Attribute.{look_of}

-- 0 normal, 5 reverse, 3 inhibit; 8, 13, 11 the same with blink; the other ten normal, steady
abbrev pub steady_of : ℕ → Look
steady_of n =
    record {
      shown = cond (eqb n 5 || eqb n 13) Reverse (cond (eqb n 3 || eqb n 11) Inhibit Normal);
      blinks = eqb n 8 || eqb n 13 || eqb n 11;
    }

-- the codes in which the two rules differ
abbrev pub is_changed : ℕ → Bool
is_changed n = eqb n 9 || eqb n 10 || eqb n 12 || eqb n 14 || eqb n 15

module _ (f g : ℕ → Look) (e : build 16 f ≡ build 16 g) where
  -- two rules with one table
  each : (n : ℕ) → n < 16 → f n ≡ g n
  each n h =
      sym (build-at 16 f n (f 0) h) ∙ ap (λ (l : List Look). get_or l n (f 0)) e ∙ build-at 16 g n (f 0) h

-- in the five a normal look blinks that was steady, and all others are as they were
pub only-five : (n : ℕ) → n < 16 → look_of n ≡ cond (is_changed n) (record { shown = Normal; blinks = true }) (steady_of n)
unfolding build look_of
only-five n h = each look_of (λ n. cond (is_changed n) (record { shown = Normal; blinks = true }) (steady_of n)) refl n h

pub five-steady : (n : ℕ) → n < 16 → steady_of n ≡ cond (is_changed n) (record { shown = Normal; blinks = false }) (steady_of n)
unfolding build
five-steady n h = each steady_of (λ n. cond (is_changed n) (record { shown = Normal; blinks = false }) (steady_of n)) refl n h
