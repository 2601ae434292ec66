-- `store` meets its contract: what is left to store always comes to the whole.
use Rattle.std.proofs.Common.{refl}
use Rattle.sight.proofs.Lines.{store-on, store-over}
use Rattle.sight.proofs.line.store.Goals as goal

pub loop-byte-preserved : goal.loop-byte-preserved
loop-byte-preserved c = store-on c.loop-byte.invariant c.loop-byte-test.true refl refl

pub returns : goal.returns
returns c = store-over c.loop-byte.invariant c.loop-byte-test.false
