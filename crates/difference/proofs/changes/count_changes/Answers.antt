-- `count_changes` meets its contract: those before byte i are counted.
use Rattle.difference.proofs.Comparing.{counting-on, counting-over}
use Rattle.difference.proofs.changes.count_changes.Goals as goal

pub loop-i-preserved : goal.loop-i-preserved
loop-i-preserved c = counting-on c.args.old.now c.args.new.now c.requires c.loop-i.invariant c.loop-i-test.true c.from-count.ensures

pub returns : goal.returns
returns c = counting-over c.args.old.now c.args.new.now c.requires c.loop-i.invariant c.loop-i-test.false
