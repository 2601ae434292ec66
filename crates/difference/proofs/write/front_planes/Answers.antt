-- `front_planes` meets its contract: the planes of the screen, or its refusal.
use Rattle.difference.proofs.Screens.{front-sized, planned-draws}
use Rattle.difference.proofs.write.front_planes.Goals as goal

pub returns : goal.returns
returns c = let a = c.args in
    let k = front-sized c.requires c.cell_count-size.ensures.value c.cell_count-size.ensures.upper_bound in
    planned-draws a.panel a.book.now a.key c.requires.valid k c.planes.result c.planes.ensures.planned c.planes.ensures.lent _ _
