-- 02, Req 06: what differs, listed where there is room for all of it.
use Rattle.std.specs.Prelude.{ℕ, Bool, Result, Ok, Err, ◌+◌, ◌*◌, cond, true, false, List, ◌++◌, ltb, length}
use Rattle.std.proofs.lemmas.List.Edits.{sets}
use Rattle.entries.specs.declared.enter.Entries.{Entries}
use Rattle.entries.specs.declared.enter.NoRoom.{NoRoom}
use Rattle.entries.specs.Listed.{Difference, numbers_of}

-- the entries of each, and whether there was room for them
pub record Entered : Type 0 where
  pub bytes : ℕ
  pub values : ℕ
  pub listed : Bool

-- what an answer of `enter` stands for
abbrev pub entered : Result Entries NoRoom → Entered
entered (Ok e) = record { bytes = e.bytes; values = e.values; listed = true }
entered (Err n) = record { bytes = n.0.bytes; values = n.0.values; listed = false }

-- a reply, and the list then
pub record EnteredAll : Type 0 where
  pub entered : Entered
  pub list : List ℕ

abbrev pub entered_all : Entered → List ℕ → EnteredAll
entered_all e list = record { entered = e; list = list }

-- the bytes' entries, then the values', at the list's start; a list that is too short stays as it was
unfoldable pub entered_of : List ℕ → List Difference → List Difference → EnteredAll
entered_of list bytes values =
    cond (ltb (length list) (3 * (length bytes + length values)))
    (entered_all (record { bytes = length bytes; values = length values; listed = false }) list)
    (entered_all (record { bytes = length bytes; values = length values; listed = true }) (sets list 0 (numbers_of (bytes ++ values))))
