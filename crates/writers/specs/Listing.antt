-- The ordinary run (02, Req 09) with the stores into a stretch beside it: its step over a machine that keeps their list.
use Rattle.std.specs.Prelude.{ℕ, ◌+◌, List, [], ◌++◌}
use Rattle.effects.specs.Machine.{Machine, machine}
use Rattle.controller.specs.Access.{Pair, Step, done, answered, refused, step_of}
use Rattle.controller.specs.Run.{Standing}
use Rattle.stores.specs.Stores.{stores_of}
use Rattle.noting.specs.Stretch.{Store, store_at, stores_in}
use Rattle.writers.specs.Types.{Panel, Registers}

-- the controller, the stores listed so far, the pair to come
pub record Listing : Type 0 where
  pub machine : Machine
  pub stores : List Store
  pub place : ℕ

abbrev pub listing : Machine → List Store → ℕ → Listing
listing m stores place = record { machine = m; stores = stores; place = place }

-- an accepted pair: the bytes it stores, behind those so far
abbrev pub listed_by : Panel → ℕ → ℕ → Listing → Pair → Machine → Listing
listed_by p first last s q t =
    listing t (s.stores ++ stores_in first last (store_at s.place s.machine t) (stores_of p s.machine.registers q)) (s.place + 1)

-- answers are dropped; a refused pair is skipped and stores nothing
abbrev pub list_by : Panel → ℕ → ℕ → Listing → Pair → Step Machine → Step Listing
list_by p first last s q (done t) = done (listed_by p first last s q t)
list_by p first last s q (answered t b) = done (listed_by p first last s q t)
list_by p first last s q (refused n) = done (listing s.machine s.stores (s.place + 1))

abbrev pub list_step : Panel → List ℕ → ℕ → ℕ → Listing → Pair → Step Listing
list_step p rom first last s q = list_by p first last s q (step_of p rom s.machine q)

-- before the first pair; no answer is written anywhere
abbrev pub begun_list : Registers → List ℕ → Standing Listing
begun_list r mem = record { machine = listing (machine r mem) [] 0; answers = []; given = 0 }
