-- `put` meets its contract: one stretch copied.
use mathlib.Core.Path.{refl}
use lib.ListN.{length}
use Rattle.std.proofs.Common.{rules}
use Rattle.ground.proofs.Mids.{mid-sets}
use Rattle.layout.proofs.put.Output.put.Goals as goal

pub returns : goal.returns
returns c = let a = c.args in
    record { holds = mid-sets a.self.now.at (length a.bytes.now) a.self.now.out.now a.bytes.now c.copy_from_slice.ensures.after refl c.requires; ends = refl; kept = search rules; same_out = refl }
