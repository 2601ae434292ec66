-- What comes back of two neighbours, read from the results.
use Rattle.std.specs.Prelude.{ℕ, Result, Ok, Err}
use Rattle.state.specs.Refusals.{number_of}
use Rattle.state.specs.declared.refusal.Refused.{Refused as Turned}
use Rattle.order.specs.declared.swap.Swap.{Swap as Neighbours}
use Rattle.order.specs.declared.swap.Swap.TheVariants.{May as Neighbours-May, Stays as Neighbours-Stay, NoTwo as Neighbours-None}

-- they may, they may not, there are no such two operations, or number and place
pub data Swap : Type 0 where
  May : Swap
  Stays : Swap
  NoTwo : Swap
  Refused : ℕ → ℕ → Swap

abbrev pub swap : Neighbours → Swap
swap Neighbours-May = May
swap Neighbours-Stay = Stays
swap Neighbours-None = NoTwo

abbrev pub swapped : Result Neighbours Turned → Swap
swapped (Ok s) = swap s
swapped (Err e) = Refused (number_of e.refusal) e.place
