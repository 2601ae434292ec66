-- `hold` meets its contract: read into the front of the bytes.
use Rattle.writers.proofs.Holding.{held}
use Rattle.writers.proofs.held.hold.Goals as goal

pub returns-clause-held : goal.returns-clause-held
returns-clause-held c = held c.args.memory.now c.args.at c.args.n _ c.requires.0 (λ i. (c.type_inv.memory i).fits) c.requires.1 c.read_round.ensures
