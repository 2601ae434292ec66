-- The pairs of a log from a place on, and a block of data among them.
use Rattle.std.proofs.Common.{◌≡◌, ℕ, zero, suc, ◌+◌, ◌-◌, ◌*◌, ◌/◌, ◌%◌, ◌<◌, ◌≤◌, min, Bool, true, false, cond, ◌&&◌, eqb, leb, List, [], ◌∷◌, ◌++◌, length, get_or, take, drop, set, sym, refl, ap, ◌∙◌, subst, true≢false, append_assoc, append-nil, add-one, arith, length-append, eq-eqb, ne_eqb, eqb-true, le-leb, leb-true}
use native.Mathlib.Decide.{dec_lt}
use lib.Bits.{bit_or, or_add_and, and_le_l, and_le_r}
use lib.Seq.{append_snoc}
use Rattle.ground.specs.Lists.{build, stored}
use Rattle.ground.proofs.Lists.{build-length, build-cong, build-more}
use Rattle.ground.proofs.Stores.{stored-length}
use Rattle.ground.proofs.Tests.{both, both_left, both_right}
use Rattle.sight.specs.Steps.{Pair}
use Rattle.turns.specs.Pairs.{pairs_of}
use Rattle.turns.specs.Blocked.{pairs_from, data_of, bytes_from, AllData, Scanning, Scanned, Begun, Blocked}

-- the pair at a place of a log
abbrev pub pair_at : List ℕ → ℕ → Pair
pair_at log i = record { kind = get_or log (2 * i) 0; byte = get_or log (2 * i + 1) 0 }

pub pair-next : (log : List ℕ) (i : ℕ) → 2 * i + 1 < length log
    → drop i (pairs_of log) ≡ pair_at log i ∷ drop (suc i) (pairs_of log)
unfolding pairs_of
pair-next [] i h = absurd (omega arith)
pair-next (k ∷ []) i h = absurd (omega arith)
pair-next (k ∷ (b ∷ log)) zero h = refl
pair-next (k ∷ (b ∷ log)) (suc i) h =
    let e : 2 * suc i ≡ suc (suc (2 * i)) = omega arith in
    let f : 2 * suc i + 1 ≡ suc (suc (2 * i + 1)) = omega arith in
    pair-next log i (omega arith)
    ∙ (λ t. record { kind = get_or (k ∷ (b ∷ log)) (sym e t) 0; byte = get_or (k ∷ (b ∷ log)) (sym f t) 0 } ∷ drop (suc i) (pairs_of log))

pub pairs-here : (log : List ℕ) (total i : ℕ) → i < total → 2 * total ≤ length log → pairs_from log i total ≡ pair_at log i ∷ pairs_from log (i + 1) total
pairs-here log total i h l =
    let e : total - i ≡ suc (total - (i + 1)) = omega arith in
    (λ t. take (e t) (pair-next log i (omega arith) t)) ∙ (λ t. pair_at log i ∷ take (total - (i + 1)) (drop (sym (add-one i) t) (pairs_of log)))

pub data-first : (q : Pair) (qs : List Pair) → q.kind ≡ 0 → data_of (q ∷ qs) ≡ q.byte ∷ data_of qs
unfolding data_of
data-first q qs e = ap (λ (t : Bool). cond t (q.byte ∷ data_of qs) []) (eq-eqb q.kind 0 e)

pub data-none : (q : Pair) (qs : List Pair) → (q.kind ≡ 0 → ⊥) → data_of (q ∷ qs) ≡ []
unfolding data_of
data-none q qs e = ap (λ (t : Bool). cond t (q.byte ∷ data_of qs) []) (ne_eqb q.kind 0 e)

pub scan-starts : (log : List ℕ) (from total : ℕ) → from ≤ total → Scanning log from total from
scan-starts log from total h = record { onward = omega arith; inside = h; kinds = λ j l. absurd (omega arith) }

-- data seen, one by one or many at once
module _ {log : List ℕ} {from total i : ℕ} (k : Scanning log from total i) where
  pub scan-on : (n : ℕ) → i + n ≤ total → AllData log i n → Scanning log from total (i + n)
  scan-on n h z = record { onward = omega (arith, k.onward); inside = h; kinds = λ j l. go j l (dec_lt j (i - from)) }
    where
      go : (j : ℕ) → j < i + n - from → Dec (j < i - from) → get_or log (2 * (from + j)) 0 ≡ 0
      go j l (yes m) = k.kinds j m
      go j l (no m) =
          let e : from + j ≡ i + (from + j - i) = omega (arith, k.onward) in
          ap (λ (x : ℕ). get_or log (2 * x) 0) e ∙ z (from + j - i) (omega (arith, k.onward))

  pub scan-one : i < total → get_or log (2 * i) 0 ≡ 0 → Scanning log from total (i + 1)
  scan-one h z = scan-on 1 (omega arith) (λ j l. let e : i + j ≡ i = omega arith in ap (λ (x : ℕ). get_or log (2 * x) 0) e ∙ z)

  -- all of them seen
  pub scan-over : total ≤ i → Scanned log from total total
  scan-over h =
      let e : i ≡ total = omega (arith, k.inside) in
      record { seen = subst (Scanning log from total) e k; stops = λ l. absurd (omega arith) }

or-none : (a b : ℕ) → bit_or a b ≡ 0 → (a ≡ 0) × (b ≡ 0)
or-none a b e = (omega (arith, e, or_add_and a b, and_le_r a b), omega (arith, e, or_add_and a b, and_le_l a b))

-- one kind more or-ed to those of some pairs
pub kinds-on : (log : List ℕ) (from j any : ℕ) → (any ≡ 0 → AllData log from j) → bit_or any (get_or log (2 * (from + j)) 0) ≡ 0 → AllData log from (j + 1)
kinds-on log from j any z e i h = go (dec_lt i j)
  where
    both-none : (any ≡ 0) × (get_or log (2 * (from + j)) 0 ≡ 0)
    both-none = or-none any (get_or log (2 * (from + j)) 0) e

    go : Dec (i < j) → get_or log (2 * (from + i)) 0 ≡ 0
    go (yes l) = z both-none.0 i l
    go (no l) = let f : i ≡ j = omega arith in ap (λ (x : ℕ). get_or log (2 * (from + x)) 0) f ∙ both-none.1

pub bytes-length : (log : List ℕ) (from n : ℕ) → length (bytes_from log from n) ≡ n
bytes-length log from n = build-length n (λ j. get_or log (2 * (from + j) + 1) 0)

-- the data that pairs begin with are their bytes
pub data-front : (log : List ℕ) (total i n : ℕ) → i + n ≤ total → 2 * total ≤ length log → AllData log i n
    → data_of (pairs_from log i total) ≡ bytes_from log i n ++ data_of (pairs_from log (i + n) total)
unfolding build
data-front log total i zero h l z = ap (λ (x : ℕ). data_of (pairs_from log x total)) (let e : i ≡ i + 0 = omega arith in e)
data-front log total i (suc n) h l z =
    let e : i + n + 1 ≡ i + suc n = omega arith in
    data-front log total i n (omega arith) l (λ j m. z j (omega arith))
    ∙ ap (λ (xs : List ℕ). bytes_from log i n ++ xs)
    (ap data_of (pairs-here log total (i + n) (omega arith) l) ∙ data-first (pair_at log (i + n)) (pairs_from log (i + n + 1) total) (z n (omega arith)))
    ∙ sym (append_snoc (bytes_from log i n) (get_or log (2 * (i + n) + 1) 0) (data_of (pairs_from log (i + n + 1) total)))
    ∙ ap (λ (x : ℕ). bytes_from log i (suc n) ++ data_of (pairs_from log x total)) e

pub none_left : (log : List ℕ) (total i : ℕ) → total ≤ i → data_of (pairs_from log i total) ≡ []
unfolding data_of
none_left log total i h = ap (λ (n : ℕ). data_of (take n (drop i (pairs_of log)))) (let e : total - i ≡ 0 = omega arith in e)

-- those of a block that was scanned
data-scanned : {log : List ℕ} {from total end : ℕ} → Scanned log from total end → 2 * total ≤ length log → data_of (pairs_from log from total) ≡ bytes_from log from (end - from)
data-scanned {log} {from} {total} {end} k l =
    let e : from + (end - from) ≡ end = omega (arith, k.seen.onward) in
    data-front log total from (end - from) (omega (arith, k.seen.onward, k.seen.inside)) l k.seen.kinds
    ∙ (λ t. bytes_from log from (end - from) ++ (ap (λ (x : ℕ). data_of (pairs_from log x total)) e ∙ rest (dec_lt end total)) t)
    ∙ append-nil (bytes_from log from (end - from))
  where
    rest : Dec (end < total) → data_of (pairs_from log end total) ≡ []
    rest (yes h) = ap data_of (pairs-here log total end h l) ∙ data-none (pair_at log end) (pairs_from log (end + 1) total) (k.stops h)
    rest (no h) = none_left log total end (omega arith)

-- bytes stored, then more behind them
pub stored-join : (xs ys m : List ℕ) (at : ℕ) → at < 65536 → stored m at (xs ++ ys) ≡ stored (stored m at xs) ((at + length xs) % 65536) ys
unfolding stored
stored-join [] ys m at h = ap (λ (n : ℕ). stored m n ys) (let e : at ≡ (at + 0) % 65536 = omega arith in e)
stored-join (x ∷ xs) ys m at h =
    stored-join xs ys (set m at x) ((at + 1) % 65536) (omega arith)
    ∙ ap (λ (n : ℕ). stored (stored (set m at x) ((at + 1) % 65536) xs) n ys)
    (let e : ((at + 1) % 65536 + length xs) % 65536 ≡ (at + suc (length xs)) % 65536 = omega arith in e)

build-join : (f : ℕ → ℕ) (k n : ℕ) → build (k + n) f ≡ build k f ++ build n (λ j. f (k + j))
unfolding build
build-join f k zero = ap (λ (x : ℕ). build x f) (let e : k + 0 ≡ k = omega arith in e) ∙ sym (append-nil (build k f))
build-join f k (suc n) =
    ap (λ (x : ℕ). build x f) (let e : k + suc n ≡ suc (k + n) = omega arith in e) ∙ ap (λ (xs : List ℕ). xs ++ (f (k + n) ∷ [])) (build-join f k n)
    ∙ append_assoc (build k f) (build n (λ j. f (k + j))) (f (k + n) ∷ [])

-- before pair i, one by one
pub record Beginning (m₀ : List ℕ) (start : ℕ) (log : List ℕ) (from total : ℕ) (m : List ℕ) (at i : ℕ) : Type 0 where
  pub first : start < 65536
  pub seen : Scanning log from total i
  pub low : at < 65536
  pub place : at ≡ (start + (i - from)) % 65536
  pub holds : m ≡ stored m₀ start (bytes_from log from (i - from))

pub begins : (m₀ : List ℕ) (start : ℕ) (log : List ℕ) (from total : ℕ) → start < 65536 → from ≤ total → Beginning m₀ start log from total m₀ start from
unfolding build stored
begins m₀ start log from total h l =
    record {
      first = h;
      seen = record { onward = omega arith; inside = l; kinds = λ j m. absurd (omega arith) };
      low = h;
      place = omega arith;
      holds = ap (λ (n : ℕ). stored m₀ start (bytes_from log from n)) (let e : 0 ≡ from - from = omega arith in e);
    }

module _ {m₀ : List ℕ} {start : ℕ} {log : List ℕ} {from total : ℕ} {m : List ℕ} {at i : ℕ} (k : Beginning m₀ start log from total m at i) where
  pub begin-long : length m ≡ length m₀
  begin-long = ap length k.holds ∙ stored-length m₀ start (bytes_from log from (i - from))

  pub begin-on : i < total → {b next : ℕ} → get_or log (2 * i) 0 ≡ 0 → b ≡ get_or log (2 * i + 1) 0 → next ≡ (at + 1) % 65536
      → Beginning m₀ start log from total (set m at b) next (i + 1)
  unfolding stored
  begin-on h {b} z e n =
      let c : ℕ = i - from in
      let here : at ≡ (start + length (bytes_from log from c)) % 65536 = omega (arith, k.place, bytes-length log from c) in
      let byte : b ≡ get_or log (2 * (from + c) + 1) 0 = e ∙ ap (λ (x : ℕ). get_or log (2 * x + 1) 0) (let f : i ≡ from + c = omega (arith, k.seen.onward) in f) in
      record {
        first = k.first;
        seen = scan-one k.seen h z;
        low = omega arith;
        place = omega (arith, n, k.place, k.seen.onward);
        holds = (λ t. set (k.holds t) (here t) (byte t))
            ∙ sym (stored-join (bytes_from log from c) (get_or log (2 * (from + c) + 1) 0 ∷ []) m₀ start k.first)
            ∙ ap (stored m₀ start) (sym (build-more c (λ j. get_or log (2 * (from + j) + 1) 0)))
            ∙ ap (λ (x : ℕ). stored m₀ start (bytes_from log from x)) (let f : c + 1 ≡ i + 1 - from = omega (arith, k.seen.onward) in f);
      }

  pub begin-stops : (get_or log (2 * i) 0 ≡ 0 → ⊥) → Begun m₀ start log from total m i
  begin-stops z = record { low = k.first; scanned = record { seen = k.seen; stops = λ h. z }; holds = k.holds }

  pub begin-ends : total ≤ i → Begun m₀ start log from total m total
  begin-ends h =
      let e : i ≡ total = omega (arith, k.seen.inside) in
      record { low = k.first; scanned = scan-over k.seen h; holds = k.holds ∙ ap (λ (x : ℕ). stored m₀ start (bytes_from log from (x - from))) e }

-- stopped among the first, or gone on behind them
module _ {mem : List ℕ} {start : ℕ} {log : List ℕ} {from near total : ℕ} {mid : List ℕ} {first : ℕ} (b : Begun mem start log from near mid first) (few : near ≤ total) (l : 2 * total ≤ length log) where
  pub begun-stops : first < near → Blocked mem start log from total mid first
  begun-stops h =
      let s : Scanned log from total first =
      record { seen = record { onward = b.scanned.seen.onward; inside = omega arith; kinds = b.scanned.seen.kinds }; stops = λ m. b.scanned.stops h } in
      let d = data-scanned s l in
      record {
        low = b.low;
        inside = omega arith;
        holds = b.holds ∙ sym (ap (stored mem start) d);
        reaches = let a = ap length d ∙ bytes-length log from (first - from) in omega (arith, a, b.scanned.seen.onward);
      }

  pub begun-on : near ≤ first → {next : ℕ} → next ≡ (start + (first - from)) % 65536 → {after : List ℕ} {end : ℕ} → Blocked mid next log first total after end
      → Blocked mem start log from total after end
  begun-on h {next} e {after} {end} k =
      let n : ℕ = first - from in
      let i : from + n ≡ first = omega (arith, b.scanned.seen.onward) in
      let d = data-front log total from n (omega (arith, b.scanned.seen.onward, b.scanned.seen.inside, few)) l b.scanned.seen.kinds
      ∙ ap (λ (x : ℕ). bytes_from log from n ++ data_of (pairs_from log x total)) i in
      let there : next ≡ (start + length (bytes_from log from n)) % 65536 = omega (arith, e, bytes-length log from n) in
      record {
        low = b.low;
        inside = k.inside;
        holds = k.holds ∙ (λ t. stored (b.holds t) (there t) (data_of (pairs_from log first total)))
            ∙ sym (stored-join (bytes_from log from n) (data_of (pairs_from log first total)) mem start b.low) ∙ ap (stored mem start) (sym d);
        reaches = let a = ap length d ∙ length-append (bytes_from log from n) (data_of (pairs_from log first total)) in omega (arith, a, bytes-length log from n, i, k.reaches);
      }

-- before the stretch from pair i on: the data before it are stored, so many are left
pub record Blocking (m₀ : List ℕ) (start : ℕ) (log : List ℕ) (from end : ℕ) (m : List ℕ) (at i left : ℕ) : Type 0 where
  pub first : start < 65536
  pub onward : from ≤ i
  pub inside : i + left ≡ end
  pub low : at < 65536
  pub holds : m ≡ stored m₀ start (bytes_from log from (i - from))
  pub place : 0 < left → at ≡ (start + (i - from)) % 65536

pub block-starts : (m₀ : List ℕ) (start : ℕ) (log : List ℕ) (from end : ℕ) → start < 65536 → from ≤ end → Blocking m₀ start log from end m₀ start from (end - from)
unfolding build stored
block-starts m₀ start log from end h l =
    record {
      first = h;
      onward = omega arith;
      inside = omega arith;
      low = h;
      holds = ap (λ (n : ℕ). stored m₀ start (bytes_from log from n)) (let e : 0 ≡ from - from = omega arith in e);
      place = λ i. omega arith;
    }

module _ {m₀ : List ℕ} {start : ℕ} {log : List ℕ} {from end : ℕ} {m : List ℕ} {at i left : ℕ} (k : Blocking m₀ start log from end m at i left) where
  pub block-long : length m ≡ length m₀
  block-long = ap length k.holds ∙ stored-length m₀ start (bytes_from log from (i - from))

  -- the stretch goes to the memory's end, or it is the last
  pub block_on : 0 < left → {n : ℕ} → n ≡ min left (65536 - at) → {after : List ℕ} → after ≡ stored m at (bytes_from log i n)
      → Blocking m₀ start log from end after 0 (i + n) (left - n)
  block_on h {n} e {after} f =
      record {
        first = k.first;
        onward = omega (arith, k.onward);
        inside = omega (arith, e, k.inside);
        low = omega arith;
        holds = f ∙ (λ t. stored (k.holds t) (here t) (bytes_from log i n))
            ∙ sym (stored-join (bytes_from log from (i - from)) (bytes_from log i n) m₀ start k.first)
            ∙ ap (stored m₀ start) (sym joins);
        place = λ l. omega (arith, e, k.place h, k.onward, k.low);
      }
    where
      here : at ≡ (start + length (bytes_from log from (i - from))) % 65536
      here = omega (arith, k.place h, bytes-length log from (i - from))

      joins : bytes_from log from (i + n - from) ≡ bytes_from log from (i - from) ++ bytes_from log i n
      joins =
          let a : i + n - from ≡ i - from + n = omega (arith, k.onward) in
          ap (bytes_from log from) a ∙ build-join (λ j. get_or log (2 * (from + j) + 1) 0) (i - from) n
          ∙ ap (λ (xs : List ℕ). bytes_from log from (i - from) ++ xs)
          (build-cong n (λ j. get_or log (2 * (from + (i - from + j)) + 1) 0) (λ j. get_or log (2 * (i + j) + 1) 0)
          (λ j l. let b : from + (i - from + j) ≡ i + j = omega (arith, k.onward) in ap (λ (x : ℕ). get_or log (2 * x + 1) 0) b))

  pub block-ends : {total : ℕ} → Scanned log from total end → 2 * total ≤ length log → left ≤ 0 → Blocked m₀ start log from total m end
  block-ends {total} s l h =
      let e : i ≡ end = omega (arith, k.inside) in
      let d = data-scanned s l in
      record {
        low = k.first;
        inside = s.seen.inside;
        holds = k.holds ∙ ap (λ (x : ℕ). stored m₀ start (bytes_from log from (x - from))) e ∙ sym (ap (stored m₀ start) d);
        reaches = let a = ap length d ∙ bytes-length log from (end - from) in omega (arith, a, s.seen.onward);
      }

-- a block that begins with a datum has it
pub block-moves : {mem : List ℕ} {start : ℕ} {log : List ℕ} {from total : ℕ} {after : List ℕ} {end : ℕ} → Blocked mem start log from total after end
    → from < total → 2 * total ≤ length log → get_or log (2 * from) 0 ≡ 0 → from < end
block-moves {mem} {start} {log} {from} {total} {after} {end} k h l z =
    let long = ap length (ap data_of (pairs-here log total from h l) ∙ data-first (pair_at log from) (pairs_from log (from + 1) total) z) in
    omega (arith, k.reaches, long)

-- the door: all of memory lent, and those pairs in the log
module _ (m t l f : ℕ) where
  pub lent-right : ((eqb m 65536 && leb t (l / 2)) && leb f t) ≡ true → (m ≡ 65536) × ((2 * t ≤ l) × (f ≤ t))
  lent-right e =
      let h = both_left (eqb m 65536 && leb t (l / 2)) (leb f t) e in
      let i : t ≤ l / 2 = leb-true t (l / 2) (both_right (eqb m 65536) (leb t (l / 2)) h) in
      (eqb-true m 65536 (both_left (eqb m 65536) (leb t (l / 2)) h), (omega (arith, i), leb-true f t (both_right (eqb m 65536 && leb t (l / 2)) (leb f t) e)))

  pub lent-left : ((eqb m 65536 && leb t (l / 2)) && leb f t) ≡ false → m ≡ 65536 → 2 * t ≤ l → f ≤ t → ⊥
  lent-left e a b c = true≢false (sym (both (both (eq-eqb m 65536 a) (le-leb t (l / 2) (omega (arith, b)))) (le-leb f t c)) ∙ e)
