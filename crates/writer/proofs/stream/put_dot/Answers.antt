-- `put_dot` meets its contract: the pointer, then the code.
use Rattle.writer.specs.Stream.{point_to, operation_pairs}
use Rattle.writer.proofs.Puts.{put_both, put_as}
use Rattle.writer.proofs.stream.put_dot.Goals as goal

pub returns : goal.returns
unfolding point_to operation_pairs
returns c = put_both c.command_with_word.ensures (put_as c.dot_code.ensures c.command.ensures)
