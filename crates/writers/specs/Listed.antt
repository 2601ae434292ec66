-- Who wrote there: what listing the stores into a stretch answers.
use Rattle.std.specs.Prelude.{ℕ, ◌/◌, ◌%◌, cond, ◌&&◌, List, length, take, ◌==◌, nat_le}
use Rattle.std.proofs.lemmas.List.Edits.{sets}
use Rattle.state.specs.State.{valid_panel, valid_registers}
use Rattle.display.specs.Frame.{lent_lengths}
use Rattle.controller.specs.Run.{pairs_of, run_from}
use Rattle.noting.specs.Stretch.{store_numbers}
use Rattle.noting.specs.Noted.{room_of, capped}
use Rattle.writers.specs.Types.{Panel, Registers, Listed}
use Rattle.writers.specs.Listing.{Listing, list_step, begun_list}

-- a reply, the display memory and the list then
pub record ListedAll : Type 0 where
  pub listed : Listed
  pub memory : List ℕ
  pub list : List ℕ

abbrev pub listed_all : Listed → List ℕ → List ℕ → ListedAll
listed_all listed memory list = record { listed = listed; memory = memory; list = list }

-- nothing is run, nothing listed
abbrev pub unlisted : ℕ → ℕ → Registers → Listed
unlisted n place r = record { registers = r; number = n; place = place; count = 0 }

-- every store, at the list's start; 15 where they don't fit, with the entries needed, and then the first ones, as many as there is room for
abbrev pub listed_of : List ℕ → Listing → ListedAll
listed_of list s =
    cond (nat_le (length s.stores) (room_of list))
    (listed_all (record { registers = s.machine.registers; number = 0; place = 0; count = length s.stores }) s.machine.memory (sets list 0 (store_numbers s.stores)))
    (listed_all (record { registers = s.machine.registers; number = 15; place = capped (length s.stores); count = room_of list }) s.machine.memory (sets list 0 (store_numbers (take (room_of list) s.stores))))

-- 1 panel or state not valid; 2 a lent fixed length wrong; 8 log of odd length; then all pairs, 15 last
unfoldable pub list_of : Panel → Registers → List ℕ → List ℕ → List ℕ → ℕ → ℕ → List ℕ → ListedAll
list_of p r mem rom log first last list =
    cond (valid_panel p && valid_registers r)
    (cond (lent_lengths mem rom)
    (cond (length log % 2 == 0)
    (listed_of list (run_from (list_step p rom first last) 0 (pairs_of log) (begun_list r mem)).standing.machine)
    (listed_all (unlisted 8 (length log / 2) r) mem list))
    (listed_all (unlisted 2 0 r) mem list))
    (listed_all (unlisted 1 0 r) mem list)
