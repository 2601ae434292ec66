-- Data in auto write that follow one another, stored and noted at once.
use Rattle.std.specs.Prelude.{◌≡◌, ℕ, zero, suc, ◌+◌, ◌-◌, ◌*◌, ◌<◌, ◌≤◌, true, List, length, slice_index, slice_set}
use Rattle.stores.specs.Stores.{from_address}
use Rattle.noting.specs.Stretch.{Store, store, in_stretch}
use Rattle.noting.specs.Noted.{Noting, noting, noted_each}

-- so many addresses from one on lie as it does, in the stretch or outside; in it none goes past FFFFH
pub record Spans (first last at n : ℕ) : Type 0 where
  pub some : 0 < n
  pub few : n ≤ 65536
  pub alike : (j : ℕ) → j < n → in_stretch first last (from_address at j) ≡ in_stretch first last at
  pub below : in_stretch first last at ≡ true → at + n ≤ 65536

-- the memory behind n data from a pair on, stored from an address on
unfoldable pub laid : List ℕ → ℕ → ℕ → List ℕ → ℕ → List ℕ
laid log from at mem zero = mem
laid log from at mem (suc n) = slice_set (laid log from at mem n) (from_address at n) (slice_index log (2 * (from + n) + 1))

-- what datum j of them stores
abbrev pub datum_at : List ℕ → ℕ → ℕ → List ℕ → ℕ → Store
datum_at log from at mem j =
    store (from + j) (from_address at j) (slice_index (laid log from at mem j) (from_address at j)) (slice_index log (2 * (from + j) + 1))

-- k data, of at most n from a pair on, stored from an address on
pub record Puts (log : List ℕ) (from n at : ℕ) (mem after : List ℕ) (k : ℕ) : Type 0 where
  pub low : at < 65536
  pub few : k ≤ n
  pub some : 0 < n → slice_index log (2 * from) ≡ 0 → 0 < k
  pub kinds : (j : ℕ) → j < k → slice_index log (2 * (from + j)) ≡ 0
  pub stores : after ≡ laid log from at mem k

-- and entered: they are in the stretch, with room
pub record Fills (log : List ℕ) (from n at : ℕ) (mem after : List ℕ) (before : Noting) (list : List ℕ) (k : ℕ) : Type 0 where
  pub blocks : Puts log from n at mem after k
  pub notes : (first last : ℕ) → ((j : ℕ) → j < k → in_stretch first last (from_address at j) ≡ true)
      → noting (before.count + k) list ≡ noted_each first last (datum_at log from at mem) k before

-- and noted
pub record Lays (first last : ℕ) (log : List ℕ) (from n at : ℕ) (mem after : List ℕ) (before noted : Noting) (k : ℕ) : Type 0 where
  pub blocks : Puts log from n at mem after k
  pub notes : noted ≡ noted_each first last (datum_at log from at mem) k before

-- that, where all of memory is lent and the log has those pairs
abbrev pub LaysFrom : ℕ → ℕ → List ℕ → ℕ → ℕ → ℕ → List ℕ → List ℕ → Noting → Noting → ℕ → Type 0
LaysFrom first last log from total at mem after before noted k =
    length mem ≡ 65536 → 2 * total ≤ length log → from ≤ total → Lays first last log from (total - from) at mem after before noted k
