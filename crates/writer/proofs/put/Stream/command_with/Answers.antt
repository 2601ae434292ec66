-- `command_with` meets its contract: its three pairs, one after the other.
use Rattle.writer.proofs.Puts.{put_both}
use Rattle.writer.proofs.put.Stream.command_with.Goals as goal

pub returns : goal.returns
returns c = put_both (put_both c.put.ensures c.put-2.ensures) c.command.ensures
