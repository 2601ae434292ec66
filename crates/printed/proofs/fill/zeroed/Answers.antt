-- `zeroed` meets its contract.
use Rattle.printed.proofs.Prints.{zeros-are}
use Rattle.printed.proofs.fill.zeroed.Goals as goal

pub returns-clause-value : goal.returns-clause-value
returns-clause-value g c = zeros-are g.row.N
