-- `put_planes` meets its contract: four commands with their data.
use Rattle.writer.proofs.Puts.{put_both, put-word-as}
use Rattle.writer.proofs.opening.put_planes.Goals as goal

pub returns : goal.returns
returns c = put_both (put-word-as c.text_home.ensures c.command_with_word.ensures) (put_both c.command_with.ensures (put_both c.command_with_word-2.ensures c.command_with-2.ensures))
