-- `put_set_up` meets its contract: its parts, one after the other.
use Rattle.writer.specs.Stream.{set_up}
use Rattle.writer.proofs.Puts.{put_both}
use Rattle.writer.proofs.opening.put_set_up.Goals as goal

pub returns : goal.returns
unfolding set_up
returns c = put_both c.command.ensures (put_both c.put_planes.ensures (put_both c.command_with.ensures (put_both c.command-2.ensures c.command-3.ensures)))
