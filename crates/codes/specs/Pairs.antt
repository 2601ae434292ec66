-- The kinds of a pair, and the bytes that stand for them.
use Rattle.std.specs.Prelude.{◌≡◌, ℕ, ◌<◌, Result, MatchResult}
use Rattle.state.specs.declared.refusal.Refusal.{Refusal}
use Rattle.state.specs.declared.refusal.Refusal.TheVariants.{UnknownKind}
use Rattle.codes.specs.declared.pair.Kind.{Kind}
use Rattle.codes.specs.declared.pair.Kind.TheVariants.{Data, Command, Read, Status, Tick}

-- 0 data write, 1 command, 2 data read, 3 status read, 4 blink tick
abbrev pub kind_number : Kind → ℕ
kind_number Data = 0
kind_number Command = 1
kind_number Read = 2
kind_number Status = 3
kind_number Tick = 4

-- the kind that a byte stands for; one above 4 is refused
abbrev pub Kinds : ℕ → Result Kind Refusal → Type 0
Kinds n r = MatchResult r (λ kind. kind_number kind ≡ n) (λ e. (e ≡ UnknownKind) × (4 < n))
