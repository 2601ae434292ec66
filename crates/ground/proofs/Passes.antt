-- A list given to another, or filled while an address goes on, round.
use Rattle.std.proofs.Common.{◌≡◌, ℕ, zero, suc, ◌+◌, ◌*◌, ◌%◌, ◌^◌, ◌<◌, ◌≤◌, min, Bool, true, false, cond, ◌&&◌, eqb, ltb, List, [], ◌∷◌, ◌++◌, length, get_or, drop, set, sym, refl, ap, ◌∙◌, arith, ext_get_or, eq-eqb, ne_eqb}
use lib.ListN.{get_or-eq_default, replicate, length-replicate, get_or-replicate}
use Rattle.ground.specs.Lists.{build, round_byte, read_round, looked_up, given_to}
use Rattle.ground.proofs.Lists.{build-length, build-at, build-cong}
use Rattle.ground.proofs.Filling.{Filled, none_yet, one_more, unwritten, rest-same}

-- what stands in a list is read whatever else were to be read behind its end
inside : (l : List ℕ) (j d e : ℕ) → j < length l → get_or l j d ≡ get_or l j e
inside [] j d e h = absurd (omega arith)
inside (x ∷ l) zero d e h = refl
inside (x ∷ l) (suc j) d e h = inside l j d e (omega arith)

module _ (from to : List ℕ) where
  -- byte by byte, up to the shorter one's end
  pub given : {l : List ℕ} {n m : ℕ} → m ≡ min (length from) (length to) → Filled (λ j. get_or from j (get_or to j 0)) to l n → m ≤ n → l ≡ given_to from to
  unfolding given_to
  given {l} {n} e k h = rest-same (λ j. get_or from j (get_or to j 0)) to k (λ i a b. get_or-eq_default from (get_or to i 0) (omega (arith, e)))

  -- the shorter one's length written over the front
  pub given-over : {l : List ℕ} {m : ℕ} → m ≡ min (length from) (length to) → l ≡ build m (λ j. get_or from j 0) → l ++ drop m to ≡ given_to from to
  given-over {l} {m} e k =
      given e
      (record {
        inside = omega (arith, e);
        holds = ap (λ (x : List ℕ). x ++ drop m to)
            (k ∙ build-cong m (λ j. get_or from j 0) (λ j. get_or from j (get_or to j 0)) (λ i h. inside from i 0 (get_or to i 0) (omega (arith, h, e))));
      })
      (omega arith)

  pub given-byte : {n : ℕ} → n < length from → get_or from n 0 ≡ get_or from n (get_or to n 0)
  given-byte {n} h = inside from n 0 (get_or to n 0) h

  pub given-long : length (given_to from to) ≡ length to
  unfolding given_to
  given-long = build-length (length to) (λ j. get_or from j (get_or to j 0))

  -- a byte that was given, and one that was left
  module _ (i : ℕ) (h : i < length to) where
    pub given-at : i < length from → get_or (given_to from to) i 0 ≡ get_or from i 0
    unfolding given_to
    given-at k = build-at (length to) (λ j. get_or from j (get_or to j 0)) i 0 h ∙ inside from i (get_or to i 0) 0 k

    pub left_at : length from ≤ i → get_or (given_to from to) i 0 ≡ get_or to i 0
    unfolding given_to
    left_at k = build-at (length to) (λ j. get_or from j (get_or to j 0)) i 0 h ∙ get_or-eq_default from (get_or to i 0) k

  -- to one that is not longer
  pub given-front : length to ≤ length from → given_to from to ≡ build (length to) (λ j. get_or from j 0)
  unfolding given_to
  given-front h = build-cong (length to) _ _ (λ j k. inside from j (get_or to j 0) 0 (omega arith))

  -- to one of its own length
  pub given-whole : length from ≡ length to → given_to from to ≡ from
  given-whole e =
      given-front (omega arith)
      ∙ ext_get_or 0 (build (length to) (λ j. get_or from j 0)) from (build-length (length to) (λ j. get_or from j 0) ∙ sym e)
      (λ i h. build-at (length to) (λ j. get_or from j 0) i 0 (omega (arith, build-length (length to) (λ j. get_or from j 0))))

-- filled up to n by a rule, the address at byte n
pub record Passing (f : ℕ → ℕ) (start : ℕ) (l₀ l : List ℕ) (at n : ℕ) : Type 0 where
  pub filled : Filled f l₀ l n
  pub place : at ≡ (start + n) % 65536

module _ (f : ℕ → ℕ) (start : ℕ) (l₀ : List ℕ) where
  pub passes-from : {at : ℕ} → at ≡ (start + 0) % 65536 → Passing f start l₀ l₀ at 0
  passes-from e = record { filled = none_yet f l₀; place = e }

  module _ {l : List ℕ} {at n : ℕ} (k : Passing f start l₀ l at n) (h : n < length l₀) where
    pub passes_on : {next v : ℕ} → v ≡ f n → next ≡ (at + 1) % 2 ^ 16 → Passing f start l₀ (set l n v) next (n + 1)
    passes_on e i = record { filled = one_more f l₀ k.filled h e; place = omega (arith, i, k.place) }

    -- what is read where the next is written is as it was
    pub still : get_or l n 0 ≡ get_or l₀ n 0
    still = unwritten f l₀ k.filled

-- codes looked up
module _ (w : ℕ) (table : List ℕ) (v : ℕ) (codes : List ℕ) {t : Bool} (e : t ≡ (eqb (length table) 2048 && ltb v 8)) where
  pub code-found : t ≡ true → looked_up w table v codes ≡ build (length codes) (λ j. get_or table (8 * get_or codes j 0 + v) 0 % 2 ^ w)
  unfolding looked_up
  code-found h = ap (λ (t : Bool). cond t (build (length codes) (λ j. get_or table (8 * get_or codes j 0 + v) 0 % 2 ^ w)) codes) (sym e ∙ h)

  pub code-left : t ≡ false → looked_up w table v codes ≡ codes
  unfolding looked_up
  code-left h = ap (λ (t : Bool). cond t (build (length codes) (λ j. get_or table (8 * get_or codes j 0 + v) 0 % 2 ^ w)) codes) (sym e ∙ h)

-- bytes read round
module _ (w : ℕ) (mem : List ℕ) (start : ℕ) (out : List ℕ) where
  pub round-read : length mem ≡ 65536 → read_round w mem start out ≡ build (length out) (round_byte w mem start)
  unfolding read_round
  round-read e = ap (λ (t : Bool). cond t (build (length out) (round_byte w mem start)) out) (eq-eqb (length mem) 65536 e)

  pub round-unread : (length mem ≡ 65536 → ⊥) → read_round w mem start out ≡ out
  unfolding read_round
  round-unread e = ap (λ (t : Bool). cond t (build (length out) (round_byte w mem start)) out) (ne_eqb (length mem) 65536 e)

-- one byte throughout
pub replicate-built : (n v : ℕ) → replicate n v ≡ build n (λ j. v)
replicate-built n v =
    ext_get_or 0 (replicate n v) (build n (λ j. v)) (length-replicate n v ∙ sym (build-length n (λ j. v)))
    (λ i h. let k : i < n = omega (arith, length-replicate n v) in get_or-replicate n i v 0 k ∙ sym (build-at n (λ j. v) i 0 k))
