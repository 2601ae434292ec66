-- A stretch of a list written at once.
use Rattle.std.proofs.Common.{◌≡◌, ℕ, ◌+◌, ◌-◌, ◌≤◌, List, ◌++◌, length, take, drop, append_assoc, sym, ap, ◌∙◌, arith}
use Rattle.std.proofs.lemmas.List.Edits.{sets, sets-eq}
use borrow.Rule.Slice.PartMut.{put_mid, post_of}
use borrow.Rule.Slice.PartMut as part

pub mid-sets : (a n : ℕ) (l ys : List ℕ) {zs : List ℕ} → zs ≡ ys → length ys ≡ n → a + n ≤ length l → put_mid a (a + n - a) l zs ≡ sets l a ys
mid-sets a n l ys {zs} f e h =
    (λ i. take a l ++ (f i ++ post_of a (a + n - a) l)) ∙ ap (λ (t : List ℕ). take a l ++ (ys ++ t)) (part.Post-is a (a + n) l (omega arith) ∙ ap (λ (m : ℕ). drop m l) (omega (arith, e))) ∙ sym (append_assoc (take a l) ys (drop (a + length ys) l)) ∙ sym (sets-eq ys l a (omega (arith, e)))
