-- Pairs spread from the last one on stand behind a status read each.
use mathlib.Core.Path.{◌≡◌, refl, sym, ap, ◌∙◌}
use mathlib.Core.List.{List, [], ◌∷◌}
use mathlib.Core.Logic.{◌⊎◌, inl, inr}
use Prim.Native.Nat.{ℕ, zero, suc, ◌+◌, ◌-◌, ◌*◌, ◌/◌, ◌<◌, ◌≤◌}
use native.Mathlib.Decide.{ℕ_discrete, dec_lt}
use native.Mathlib.Omega.{arith}
use lib.ListN.{length, get_or, set, drop, length-set, get_or-append}
use lib.Seq.{sets, length-sets, sets-eq, get_or-set_same, get_or-set_other, ext_get_or}
use Rattle.controller.specs.Access.{Pair}
use Rattle.controller.specs.Run.{log_of}
use Rattle.controller.proofs.Logs.{log-length}
use Rattle.asking.specs.Asking.{asked_pairs}
use Rattle.asking.specs.Spread.{asked_at, spread_of}

pub asked-pairs-length : (qs : List Pair) → length (asked_pairs qs) ≡ 2 * length qs
unfolding asked_pairs
asked-pairs-length [] = refl
asked-pairs-length (q ∷ qs) = omega (arith, asked-pairs-length qs)

-- one pair stored
pub asked-at-long : (l : List ℕ) (i k b : ℕ) → length (asked_at l i k b) ≡ length l
asked-at-long l i k b =
    length-set (set (set (set l i 3) (i + 1) 0) (i + 2) k) (i + 3) b ∙ length-set (set (set l i 3) (i + 1) 0) (i + 2) k
    ∙ length-set (set l i 3) (i + 1) 0 ∙ length-set l i 3

module _ (l : List ℕ) (i k b : ℕ) where
  abbrev one : List ℕ
  one = set l i 3

  abbrev two : List ℕ
  two = set one (i + 1) 0

  abbrev three : List ℕ
  three = set two (i + 2) k

  asked-other : (j : ℕ) → (j < i) ⊎ (i + 4 ≤ j) → get_or (asked_at l i k b) j 0 ≡ get_or l j 0
  asked-other j h =
      get_or-set_other three (i + 3) j b 0 (λ e. no h 3 (omega arith) e)
      ∙ get_or-set_other two (i + 2) j k 0 (λ e. no h 2 (omega arith) e)
      ∙ get_or-set_other one (i + 1) j 0 0 (λ e. no h 1 (omega arith) e)
      ∙ get_or-set_other l i j 3 0 (λ e. no h 0 (omega arith) (let f : j ≡ i + 0 = omega arith in f))
    where
      no : (j < i) ⊎ (i + 4 ≤ j) → (c : ℕ) → c < 4 → j ≡ i + c → ⊥
      no (inl a) c m e = omega arith
      no (inr a) c m e = omega arith

  module _ (fits : i + 4 ≤ length l) where
    asked-0 : get_or (asked_at l i k b) i 0 ≡ 3
    asked-0 =
        get_or-set_other three (i + 3) i b 0 (λ e. omega arith)
        ∙ get_or-set_other two (i + 2) i k 0 (λ e. omega arith)
        ∙ get_or-set_other one (i + 1) i 0 0 (λ e. omega arith)
        ∙ get_or-set_same l i 3 0 (omega arith)

    asked-1 : get_or (asked_at l i k b) (i + 1) 0 ≡ 0
    asked-1 =
        get_or-set_other three (i + 3) (i + 1) b 0 (λ e. omega arith)
        ∙ get_or-set_other two (i + 2) (i + 1) k 0 (λ e. omega arith)
        ∙ get_or-set_same one (i + 1) 0 0 (omega (arith, length-set l i 3))

    asked-2 : get_or (asked_at l i k b) (i + 2) 0 ≡ k
    asked-2 =
        get_or-set_other three (i + 3) (i + 2) b 0 (λ e. omega arith)
        ∙ get_or-set_same two (i + 2) k 0 (omega (arith, length-set l i 3, length-set one (i + 1) 0))

    asked-3 : get_or (asked_at l i k b) (i + 3) 0 ≡ b
    asked-3 = get_or-set_same three (i + 3) b 0 (omega (arith, length-set l i 3, length-set one (i + 1) 0, length-set two (i + 2) k))

-- n pairs spread, byte by byte
pub record Spreads (l : List ℕ) (n : ℕ) (b : List ℕ) : Type 0 where
  pub long : length b ≡ length l
  pub status : (j : ℕ) → j < n → get_or b (4 * j) 0 ≡ 3
  pub nought : (j : ℕ) → j < n → get_or b (4 * j + 1) 0 ≡ 0
  pub kind : (j : ℕ) → j < n → get_or b (4 * j + 2) 0 ≡ get_or l (2 * j) 0
  pub byte : (j : ℕ) → j < n → get_or b (4 * j + 3) 0 ≡ get_or l (2 * j + 1) 0
  pub rest : (i : ℕ) → 4 * n ≤ i → get_or b i 0 ≡ get_or l i 0

-- the last of them spread, then the others
spread-last : (n : ℕ) (l c : List ℕ) (k b : ℕ) → 4 * suc n ≤ length l → k ≡ get_or l (2 * n) 0 → b ≡ get_or l (2 * n + 1) 0
    → Spreads (asked_at l (4 * n) k b) n c → Spreads l (suc n) c
spread-last n l c k b h u v x =
    record {
      long = x.long ∙ asked-at-long l (4 * n) k b;
      status = λ j m. first j m (ℕ_discrete j n);
      nought = λ j m. second j m (ℕ_discrete j n);
      kind = λ j m. third j m (ℕ_discrete j n);
      byte = λ j m. fourth j m (ℕ_discrete j n);
      rest = λ i m. x.rest i (omega arith) ∙ asked-other l (4 * n) k b i (inr (omega arith));
    }
  where
    fits : 4 * n + 4 ≤ length l
    fits = omega arith

    first : (j : ℕ) → j < suc n → Dec (j ≡ n) → get_or c (4 * j) 0 ≡ 3
    first j m (yes e) = ap (λ (j : ℕ). get_or c (4 * j) 0) e ∙ x.rest (4 * n) (omega arith) ∙ asked-0 l (4 * n) k b fits
    first j m (no e) = x.status j (omega arith)

    second : (j : ℕ) → j < suc n → Dec (j ≡ n) → get_or c (4 * j + 1) 0 ≡ 0
    second j m (yes e) = ap (λ (j : ℕ). get_or c (4 * j + 1) 0) e ∙ x.rest (4 * n + 1) (omega arith) ∙ asked-1 l (4 * n) k b fits
    second j m (no e) = x.nought j (omega arith)

    third : (j : ℕ) → j < suc n → Dec (j ≡ n) → get_or c (4 * j + 2) 0 ≡ get_or l (2 * j) 0
    third j m (yes e) =
        ap (λ (j : ℕ). get_or c (4 * j + 2) 0) e ∙ x.rest (4 * n + 2) (omega arith) ∙ asked-2 l (4 * n) k b fits ∙ u
        ∙ ap (λ (j : ℕ). get_or l (2 * j) 0) (sym e)
    third j m (no e) = x.kind j (omega arith) ∙ asked-other l (4 * n) k b (2 * j) (inl (omega arith))

    fourth : (j : ℕ) → j < suc n → Dec (j ≡ n) → get_or c (4 * j + 3) 0 ≡ get_or l (2 * j + 1) 0
    fourth j m (yes e) =
        ap (λ (j : ℕ). get_or c (4 * j + 3) 0) e ∙ x.rest (4 * n + 3) (omega arith) ∙ asked-3 l (4 * n) k b fits ∙ v
        ∙ ap (λ (j : ℕ). get_or l (2 * j + 1) 0) (sym e)
    fourth j m (no e) = x.byte j (omega arith) ∙ asked-other l (4 * n) k b (2 * j + 1) (inl (omega arith))

pub spread-is : (n : ℕ) (l : List ℕ) → 4 * n ≤ length l → Spreads l n (spread_of n l)
unfolding spread_of
spread-is zero l h =
    record {
      long = refl;
      status = λ j m. absurd (let y : ⊥ = omega arith in y);
      nought = λ j m. absurd (let y : ⊥ = omega arith in y);
      kind = λ j m. absurd (let y : ⊥ = omega arith in y);
      byte = λ j m. absurd (let y : ⊥ = omega arith in y);
      rest = λ i m. refl;
    }
spread-is (suc n) l h =
    spread-last n l _ (get_or l (2 * n) 0) (get_or l (2 * n + 1) 0) h refl refl
    (spread-is n (asked_at l (4 * n) (get_or l (2 * n) 0) (get_or l (2 * n + 1) 0))
    (omega (arith, asked-at-long l (4 * n) (get_or l (2 * n) 0) (get_or l (2 * n + 1) 0))))

-- the log of asked pairs, byte by byte
at-four : (l : List ℕ) (j c : ℕ) (a b d e : ℕ) → get_or (a ∷ b ∷ d ∷ e ∷ l) (4 * suc j + c) 0 ≡ get_or l (4 * j + c) 0
at-four l j c a b d e =
    let f : 4 * suc j + c ≡ suc (suc (suc (suc (4 * j + c)))) = omega arith in ap (λ (i : ℕ). get_or (a ∷ b ∷ d ∷ e ∷ l) i 0) f

at-two : (l : List ℕ) (j c : ℕ) (a b : ℕ) → get_or (a ∷ b ∷ l) (2 * suc j + c) 0 ≡ get_or l (2 * j + c) 0
at-two l j c a b = let f : 2 * suc j + c ≡ suc (suc (2 * j + c)) = omega arith in ap (λ (i : ℕ). get_or (a ∷ b ∷ l) i 0) f

log-status : (qs : List Pair) (j : ℕ) → j < length qs → get_or (log_of (asked_pairs qs)) (4 * j + 0) 0 ≡ 3
unfolding asked_pairs log_of
log-status [] j h = absurd (let y : ⊥ = omega arith in y)
log-status (q ∷ qs) zero h = refl
log-status (q ∷ qs) (suc j) h = at-four (log_of (asked_pairs qs)) j 0 3 0 q.kind q.byte ∙ log-status qs j (omega arith)

log-nought : (qs : List Pair) (j : ℕ) → j < length qs → get_or (log_of (asked_pairs qs)) (4 * j + 1) 0 ≡ 0
unfolding asked_pairs log_of
log-nought [] j h = absurd (let y : ⊥ = omega arith in y)
log-nought (q ∷ qs) zero h = refl
log-nought (q ∷ qs) (suc j) h = at-four (log_of (asked_pairs qs)) j 1 3 0 q.kind q.byte ∙ log-nought qs j (omega arith)

log-kind : (qs : List Pair) (j : ℕ) → j < length qs → get_or (log_of (asked_pairs qs)) (4 * j + 2) 0 ≡ get_or (log_of qs) (2 * j + 0) 0
unfolding asked_pairs log_of
log-kind [] j h = absurd (let y : ⊥ = omega arith in y)
log-kind (q ∷ qs) zero h = refl
log-kind (q ∷ qs) (suc j) h =
    at-four (log_of (asked_pairs qs)) j 2 3 0 q.kind q.byte ∙ log-kind qs j (omega arith) ∙ sym (at-two (log_of qs) j 0 q.kind q.byte)

log-byte : (qs : List Pair) (j : ℕ) → j < length qs → get_or (log_of (asked_pairs qs)) (4 * j + 3) 0 ≡ get_or (log_of qs) (2 * j + 1) 0
unfolding asked_pairs log_of
log-byte [] j h = absurd (let y : ⊥ = omega arith in y)
log-byte (q ∷ qs) zero h = refl
log-byte (q ∷ qs) (suc j) h =
    at-four (log_of (asked_pairs qs)) j 3 3 0 q.kind q.byte ∙ log-byte qs j (omega arith) ∙ sym (at-two (log_of qs) j 1 q.kind q.byte)

-- a room's start, and what is behind it
sets-in : (xs l : List ℕ) (i : ℕ) → length xs ≤ length l → i < length xs → get_or (sets l 0 xs) i 0 ≡ get_or xs i 0
sets-in xs l i h m = ap (λ (a : List ℕ). get_or a i 0) (sets-eq xs l 0 (omega arith)) ∙ get_or-append xs (drop (0 + length xs) l) 0 i m

sets_behind : (xs l : List ℕ) (k i : ℕ) → k + length xs ≤ i → get_or (sets l k xs) i 0 ≡ get_or l i 0
sets_behind [] l k i h = refl
sets_behind (x ∷ xs) l k i h = sets_behind xs (set l k x) (suc k) i (omega arith) ∙ get_or-set_other l k i x 0 (λ e. omega arith)

-- the pairs of a room's start, spread, are its asked pairs
pub spread-asks : (l : List ℕ) (qs : List Pair) → 4 * length qs ≤ length l → spread_of (length qs) (sets l 0 (log_of qs)) ≡ sets l 0 (log_of (asked_pairs qs))
spread-asks l qs h = ext_get_or 0 _ _ (x.long ∙ length-sets l 0 (log_of qs) ∙ sym (length-sets l 0 (log_of (asked_pairs qs)))) (λ i m. at i (dec_lt i (4 * length qs)))
  where
    plain : length (log_of qs) ≡ 2 * length qs
    plain = log-length qs

    doubled : length (log_of (asked_pairs qs)) ≡ 4 * length qs
    doubled = log-length (asked_pairs qs) ∙ (let e : 2 * length (asked_pairs qs) ≡ 4 * length qs = omega (arith, asked-pairs-length qs) in e)

    x : Spreads (sets l 0 (log_of qs)) (length qs) (spread_of (length qs) (sets l 0 (log_of qs)))
    x = spread-is (length qs) (sets l 0 (log_of qs)) (omega (arith, length-sets l 0 (log_of qs)))

    within : (i : ℕ) → i < 4 * length qs → get_or (sets l 0 (log_of (asked_pairs qs))) i 0 ≡ get_or (log_of (asked_pairs qs)) i 0
    within i m = sets-in (log_of (asked_pairs qs)) l i (omega (arith, doubled)) (omega (arith, doubled))

    was : (i : ℕ) → i < 2 * length qs → get_or (sets l 0 (log_of qs)) i 0 ≡ get_or (log_of qs) i 0
    was i m = sets-in (log_of qs) l i (omega (arith, plain)) (omega (arith, plain))

    same : (i j c : ℕ) → i ≡ 4 * j + c → i < 4 * length qs → get_or (spread_of (length qs) (sets l 0 (log_of qs))) (4 * j + c) 0 ≡ get_or (log_of (asked_pairs qs)) (4 * j + c) 0
        → get_or (spread_of (length qs) (sets l 0 (log_of qs))) i 0 ≡ get_or (sets l 0 (log_of (asked_pairs qs))) i 0
    same i j c e m f =
        ap (λ (i : ℕ). get_or (spread_of (length qs) (sets l 0 (log_of qs))) i 0) e ∙ f
        ∙ ap (λ (i : ℕ). get_or (log_of (asked_pairs qs)) i 0) (sym e) ∙ sym (within i m)

    by : (i j : ℕ) → i < 4 * length qs → 4 * j ≤ i → i < 4 * j + 4 → Dec (i ≡ 4 * j + 0) → Dec (i ≡ 4 * j + 1) → Dec (i ≡ 4 * j + 2)
        → get_or (spread_of (length qs) (sets l 0 (log_of qs))) i 0 ≡ get_or (sets l 0 (log_of (asked_pairs qs))) i 0
    by i j m low high (yes e) _ _ =
        same i j 0 e m
        (ap (λ (i : ℕ). get_or (spread_of (length qs) (sets l 0 (log_of qs))) i 0) (let f : 4 * j + 0 ≡ 4 * j = omega arith in f)
        ∙ x.status j (omega arith) ∙ sym (log-status qs j (omega arith)))
    by i j m low high (no a) (yes e) _ = same i j 1 e m (x.nought j (omega arith) ∙ sym (log-nought qs j (omega arith)))
    by i j m low high (no a) (no b) (yes e) =
        same i j 2 e m
        (x.kind j (omega arith) ∙ was (2 * j) (omega arith)
        ∙ ap (λ (i : ℕ). get_or (log_of qs) i 0) (let f : 2 * j ≡ 2 * j + 0 = omega arith in f) ∙ sym (log-kind qs j (omega arith)))
    by i j m low high (no a) (no b) (no d) =
        same i j 3 (omega arith) m (x.byte j (omega arith) ∙ was (2 * j + 1) (omega arith) ∙ sym (log-byte qs j (omega arith)))

    at : (i : ℕ) → Dec (i < 4 * length qs) → get_or (spread_of (length qs) (sets l 0 (log_of qs))) i 0 ≡ get_or (sets l 0 (log_of (asked_pairs qs))) i 0
    at i (yes m) =
        by i (i / 4) m (omega arith) (omega arith) (ℕ_discrete i (4 * (i / 4) + 0)) (ℕ_discrete i (4 * (i / 4) + 1)) (ℕ_discrete i (4 * (i / 4) + 2))
    at i (no m) =
        x.rest i (omega arith) ∙ sets_behind (log_of qs) l 0 i (omega (arith, plain)) ∙ sym (sets_behind (log_of (asked_pairs qs)) l 0 i (omega (arith, doubled)))

-- the last pair moved
pub spread-next : (j : ℕ) (l : List ℕ) → 0 < j → spread_of (j - 1) (asked_at l (4 * (j - 1)) (get_or l (2 * (j - 1)) 0) (get_or l (2 * (j - 1) + 1) 0)) ≡ spread_of j l
unfolding spread_of
spread-next j l h =
    let e : suc (j - 1) ≡ j = omega arith in
    ap (λ (k : ℕ). spread_of k l) e

pub spread-none : (j : ℕ) (l : List ℕ) → j ≡ 0 → spread_of j l ≡ l
unfolding spread_of
spread-none j l e = ap (λ (k : ℕ). spread_of k l) e
