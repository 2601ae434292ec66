-- `put_short` meets its contract: one plane after the other, then the end.
use Rattle.difference.proofs.Shorts.{short-first, short-second, short-third, short-fourth, short-all}
use Rattle.difference.proofs.changes.put_short.Goals as goal

pub put_changes-requires : goal.put_changes-requires
put_changes-requires c = short-first c.requires

pub put_changes-requires-2 : goal.put_changes-requires-2
put_changes-requires-2 c = short-second c.requires c.put_changes.ensures c.text_home.ensures

pub put_changes-requires-3 : goal.put_changes-requires-3
put_changes-requires-3 c = short-third c.requires c.put_changes.ensures c.text_home.ensures c.put_changes-2.ensures

pub put_end-requires : goal.put_end-requires
put_end-requires c = short-fourth c.requires c.put_changes.ensures c.text_home.ensures c.put_changes-2.ensures c.put_changes-3.ensures

pub returns : goal.returns
returns c = short-all c.requires c.put_changes.ensures c.text_home.ensures c.put_changes-2.ensures c.put_changes-3.ensures c.put_end.ensures
