-- `run` meets its contract: pointer set, B0H, the byte n times, B2H.
use Rattle.writer.proofs.Puts.{put-block}
use Rattle.writer.proofs.put.Stream.run.Goals as goal

pub returns : goal.returns
returns c = put-block c.args.address _ c.command_with_word.ensures c.command.ensures c.repeated.ensures c.command-2.ensures
