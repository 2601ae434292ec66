-- `put` meets its contract: two stores.
use mathlib.Core.Path.{◌≡◌, refl}
use Prim.Native.Nat.{suc, ◌+◌}
use lib.ListN.{length-set}
use Rattle.controller.specs.Run.{log_of}
use native.Mathlib.Omega.{arith}
use Rattle.writer.proofs.put.Stream.put.Goals as goal

pub returns : goal.returns
unfolding log_of
returns c =
    let e : c.args.self.now.at + 1 ≡ suc c.args.self.now.at = omega arith in
    record { holds = rw (c.number.ensures, e); ends = omega arith; kept = simp length-set; same_room = refl }
