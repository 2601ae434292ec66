-- Data pending after data writes: enough for a command that needs as many.
use Rattle.std.proofs.Common.{◌≡◌, ℕ, ◌+◌, ◌≤◌, Bool, true, false, cond, ltb, leb, refl, arith, le-leb}
use Rattle.effects.specs.Types.{Pending}
use Rattle.effects.specs.Effect.{pushed}

count-after : (n : ℕ) (t : Bool) → ltb n 2 ≡ t → (1 ≤ cond t (n + 1) 2) × ((k : ℕ) → k ≤ n → k ≤ 1 → k + 1 ≤ cond t (n + 1) 2)
count-after n true e = (omega arith, λ k h l. omega arith)
count-after n false e = (omega arith, λ k h l. omega arith)

pub pushed-one : (q : Pending) (b : ℕ) → leb 1 (pushed q b).count ≡ true
pushed-one q b = le-leb 1 (pushed q b).count (count-after q.count (ltb q.count 2) refl).0

pub pushed-two : (q : Pending) (a b : ℕ) → leb 2 (pushed (pushed q a) b).count ≡ true
pushed-two q a b =
    le-leb 2 (pushed (pushed q a) b).count
    ((count-after (pushed q a).count (ltb (pushed q a).count 2) refl).1 1 (count-after q.count (ltb q.count 2) refl).0 (omega arith))
