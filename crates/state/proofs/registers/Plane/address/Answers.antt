-- `Plane::address` meets its contract: each term is taken modulo 65,536 before it is added.
use Rattle.ground.proofs.Rounds.{round}
use Rattle.state.proofs.registers.Plane.address.Goals as goal

pub returns : goal.returns
returns c = let a = c.args in
    round a.self.home a.row a.self.area a.column 65536
