-- The laws of bytes stored one after the other, and of stores into two lists joined.
use Rattle.std.proofs.Common.{◌≡◌, ℕ, suc, ◌+◌, ◌%◌, ◌≤◌, List, [], ◌∷◌, ◌++◌, length, set, refl, ap, ◌∙◌, append-nil, add-suc, arith, length-set, drop_of_length-le}
use lib.Seq.{sets, sets-eq, set-append_left}
use Rattle.ground.specs.Lists.{stored}

pub stored-length : (m : List ℕ) (at : ℕ) (bs : List ℕ) → length (stored m at bs) ≡ length m
unfolding stored
stored-length m at [] = refl
stored-length m at (b ∷ bs) = stored-length (set m at b) ((at + 1) % 65536) bs ∙ length-set m at b

-- where they don't go round, they are the stores of a list
pub stored-sets : (bs m : List ℕ) (at : ℕ) → at + length bs ≤ 65536 → stored m at bs ≡ sets m at bs
unfolding stored
stored-sets [] m at h = refl
stored-sets (b ∷ []) m at h = refl
stored-sets (b ∷ (c ∷ bs)) m at h =
    let e : (at + 1) % 65536 ≡ suc at = omega arith in
    ap (λ (n : ℕ). stored (set m at b) n (c ∷ bs)) e ∙ stored-sets (c ∷ bs) (set m at b) (suc at) (omega arith)

pub set-behind : (xs ys : List ℕ) (i b : ℕ) → set (xs ++ ys) (length xs + i) b ≡ xs ++ set ys i b
set-behind [] ys i b = ap (λ (n : ℕ). set ys n b) (let e : 0 + i ≡ i = omega arith in e)
set-behind (x ∷ xs) ys i b =
    ap (λ (n : ℕ). set (x ∷ (xs ++ ys)) n b) (let e : suc (length xs) + i ≡ suc (length xs + i) = omega arith in e) ∙ ap (λ (l : List ℕ). x ∷ l) (set-behind xs ys i b)

pub sets-before : (vs xs ys : List ℕ) (i : ℕ) → i + length vs ≤ length xs → sets (xs ++ ys) i vs ≡ sets xs i vs ++ ys
sets-before [] xs ys i h = refl
sets-before (v ∷ vs) xs ys i h =
    ap (λ (l : List ℕ). sets l (suc i) vs) (set-append_left xs ys i v (omega arith))
    ∙ sets-before vs (set xs i v) ys (suc i) (simp length-set (omega arith))

pub sets_behind : (vs xs ys : List ℕ) (i : ℕ) → sets (xs ++ ys) (length xs + i) vs ≡ xs ++ sets ys i vs
sets_behind [] xs ys i = refl
sets_behind (v ∷ vs) xs ys i =
    ap (λ (l : List ℕ). sets l (suc (length xs + i)) vs) (set-behind xs ys i v)
    ∙ rw (← add-suc) (sets_behind vs xs (set ys i v) (suc i))

-- all of a list written over
pub sets-all : (xs vs : List ℕ) → length vs ≡ length xs → sets xs 0 vs ≡ vs
sets-all xs vs h =
    sets-eq vs xs 0 (omega arith) ∙ ap (λ (l : List ℕ). vs ++ l) (drop_of_length-le xs {i = 0 + length vs} (omega arith)) ∙ append-nil vs
