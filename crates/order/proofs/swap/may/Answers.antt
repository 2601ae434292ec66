-- `may` meets its contract: by the kinds of the two.
use Rattle.order.proofs.Seeks.{kinds-numbers}
use Rattle.order.proofs.swap.may.Goals as goal

pub returns : goal.returns
returns c =
    rw (c.ne-unlike.ensures, c.uses_plane.ensures, c.shares-shared.ensures, c.of-kind.ensures, c.of.ensures, c.of-2.ensures, c.of-3.ensures)
    (kinds-numbers c.args.first c.args.second _)
