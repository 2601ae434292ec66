-- `mirrors` meets its contract: the whole table is `mirrored`, by one computation.
use mathlib.Core.Path.{refl}
use Rattle.ground.specs.Lists.{build}
use Rattle.ground.specs.Packing.{packed}
use Rattle.mirror.specs.Order.{mirrored}
use Rattle.mirror.proofs.table.mirrors.Goals as goal

pub returns : goal.returns
unfolding build packed mirrored
returns c = refl
