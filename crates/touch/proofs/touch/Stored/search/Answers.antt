-- `search` meets its contract: cell by cell, none of them so far.
use Rattle.std.proofs.Common.{refl, arith}
use Rattle.touch.proofs.Searched.{unmet, unmet-on, unmet-hit, unmet-all}
use Rattle.touch.proofs.touch.Stored.search.Goals as goal

pub loop-column-init : goal.loop-column-init
loop-column-init c = unmet _ _ _ _ _

pub returns-then-hits : goal.returns-then-hits
returns-then-hits c = unmet-hit c.args.self.now.panel _ _ _ _ _ c.loop-column.invariant c.loop-column-test.true c.address-start.ensures refl c.hits.ensures c.if-hits.true

pub loop-column-preserved : goal.loop-column-preserved
loop-column-preserved c = unmet-on _ _ _ _ _ c.loop-column.invariant c.address-start.ensures refl c.hits.ensures c.if-hits.false

pub returns : goal.returns
returns c = unmet-all c.args.self.now.panel _ _ _ _ _ c.loop-column.invariant (omega arith) c.loop-column-test.false
