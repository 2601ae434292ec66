-- `bytes` meets its contract: one stretch copied.
use mathlib.Core.Path.{refl}
use lib.ListN.{length}
use Rattle.std.proofs.Common.{rules}
use Rattle.ground.proofs.Mids.{mid-sets}
use Rattle.printed.proofs.put.Text.bytes.Goals as goal

pub returns : goal.returns
returns c = let a = c.args in
    record { put = record { holds = mid-sets a.self.now.at (length a.bytes.now) a.self.now.room.now a.bytes.now c.copy_from_slice.ensures.after refl c.requires; ends = refl }; kept = search rules; same_room = refl }
