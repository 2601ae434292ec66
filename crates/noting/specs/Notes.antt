-- Stores noted in a lent list, and the list then.
use Rattle.std.specs.Prelude.{◌≡◌, ℕ, ◌*◌, length}
use Rattle.std.proofs.lemmas.List.Edits.{sets}
use Rattle.noting.specs.Types.{Notes}
use Rattle.noting.specs.Stretch.{Store}
use Rattle.noting.specs.Noted.{Noting, noting, entry_of}

abbrev pub noting_of : Notes → Noting
noting_of n = noting n.count n.list.now

-- the stretch, and the list that is lent, are those before, and the list is as long
pub record Stays (a b : Notes) : Type 0 where
  pub stretch : b.stretch ≡ a.stretch
  pub same_list : b.list.ghost_name ≡ a.list.ghost_name
  pub long : length b.list.now ≡ length a.list.now

-- an entry at a place, all else as it was
pub record Put (a : Notes) (place : ℕ) (x : Store) (b : Notes) : Type 0 where
  pub holds : b.list.now ≡ sets a.list.now (4 * place) (entry_of x)
  pub count : b.count ≡ a.count
  pub stays : Stays a b
