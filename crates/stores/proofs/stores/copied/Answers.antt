-- `copied` meets its contract: nowhere, left, or the row's rest.
use Rattle.std.proofs.Common.{ap, arith}
use Rattle.sight.specs.Located.{located}
use Rattle.stores.proofs.Counts.{copy-inside, copy-nowhere, copy_at}
use Rattle.stores.proofs.stores.copied.Goals as goal

pub overflow_sub-result : goal.overflow_sub-result
overflow_sub-result c = omega (arith, copy-inside c.args.panel c.args.registers c.requires c.locate.ensures (ap located c.in-Some.is))
