-- What inner routines rest on, tested once at the door, and what each of them gives.
use Rattle.std.specs.Prelude.{◌≡◌, ℕ, ◌<◌, cond, List, nat_le, slice_index}
use Rattle.effects.specs.Machine.{Machine}
use Rattle.controller.specs.Access.{Pair, Step, done, answered, refused}
use Rattle.stores.specs.Stores.{stores_of, from_address}
use Rattle.noting.specs.Stretch.{Store, store, store_at}
use Rattle.noting.specs.Noted.{Noting, noted_each}
use Rattle.writers.specs.Types.{Panel, Registers, Listed}

-- n bytes from an address on
pub record Held (mem : List ℕ) (at n : ℕ) (bytes : List ℕ) : Type 0 where
  pub holds : (j : ℕ) → j < n → slice_index bytes j ≡ slice_index mem (from_address at j)

-- the stores of a pair, from the bytes before and the memory after
abbrev pub stores_by : ℕ → ℕ → List ℕ → List ℕ → ℕ → Store
stores_by pair at before mem j = store pair (from_address at j) (slice_index before j) (slice_index mem (from_address at j))

-- the controller behind a pair, and the list
pub record Behind : Type 0 where
  pub machine : Machine
  pub notes : Noting

abbrev pub behind : Machine → Noting → Behind
behind m n = record { machine = m; notes = n }

-- what an accepted pair stores is noted; where it is refused all is as it was
abbrev pub behind_by : Panel → ℕ → ℕ → ℕ → Machine → Pair → Noting → Step Machine → Behind
behind_by p first last pair s q n (done t) = behind t (noted_each first last (store_at pair s t) (stores_of p s.registers q) n)
behind_by p first last pair s q n (answered t b) = behind t (noted_each first last (store_at pair s t) (stores_of p s.registers q) n)
behind_by p first last pair s q n (refused e) = behind s n

-- all entries needed, or 15 where there is no room for them
abbrev pub ended_of : Registers → ℕ → ℕ → Listed
ended_of r room count =
    cond (nat_le count room)
    (record { registers = r; number = 0; place = 0; count = count })
    (record { registers = r; number = 15; place = count; count = room })
