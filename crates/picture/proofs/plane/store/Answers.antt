-- `store` meets its contract.
use Rattle.std.proofs.Common.{length, refl}
use Rattle.ground.proofs.Mids.{mid-sets}
use Rattle.picture.proofs.plane.store.Goals as goal

pub returns : goal.returns
returns c = let a = c.args in mid-sets a.at (length a.bytes.now) a.plane.now a.bytes.now c.copy_from_slice.ensures.after refl c.requires
