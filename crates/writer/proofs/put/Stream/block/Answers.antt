-- `block` meets its contract: pointer set, B0H, the bytes, B2H.
use Rattle.writer.proofs.Puts.{put-block}
use Rattle.writer.proofs.put.Stream.block.Goals as goal

pub returns : goal.returns
returns c = put-block c.args.address c.args.bytes.now c.command_with_word.ensures c.command.ensures c.data.ensures c.command-2.ensures
