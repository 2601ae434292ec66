-- `add_decimal` meets its contract: a number has at most 20 digits.
use native.Mathlib.Omega.{arith}
use borrow.Author.Rules.{rules}
use Rattle.printed.specs.Put.{RoomFor}
use Rattle.printed.proofs.Decimals.{decimal-few}
use Rattle.printed.proofs.put.Text.add_decimal.Goals as goal

pub decimal-requires : goal.decimal-requires
decimal-requires c =
    let room : RoomFor 20 c.args.self.now = search rules in
    omega (arith, room, decimal-few c.args.n (search rules))
