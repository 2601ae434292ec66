-- The numbers of refusals; 0 is acceptance.
use Rattle.std.specs.Prelude.{◌≡◌, ℕ, ◌<◌, ◌≤◌, Result, MatchResult}
use Rattle.state.specs.declared.refusal.NoRefusal.{NoRefusal}
use Rattle.state.specs.declared.refusal.Refusal.{Refusal}
use Rattle.state.specs.declared.refusal.Refusal.TheVariants.{Invalid, WrongLength, UnknownKind, UndefinedCode, InAuto, DataMissing, WrongWay, OddLength, WrongBook, NoSuchScreen, WrongOperation, NoRoomForStream, NoRoomForAnswer, AnswersUneven, NoRoomInList, NoRoomForSkipped, OtherIdentities, TooLarge, UsesAnd}

abbrev pub number_of : Refusal → ℕ
number_of Invalid = 1
number_of WrongLength = 2
number_of UnknownKind = 3
number_of UndefinedCode = 4
number_of InAuto = 5
number_of DataMissing = 6
number_of WrongWay = 7
number_of OddLength = 8
number_of WrongBook = 9
number_of NoSuchScreen = 10
number_of WrongOperation = 11
number_of NoRoomForStream = 12
number_of NoRoomForAnswer = 13
number_of AnswersUneven = 14
number_of NoRoomInList = 15
number_of NoRoomForSkipped = 16
number_of OtherIdentities = 17
number_of TooLarge = 18
number_of UsesAnd = 19

-- the refusal with this number, or that no refusal has it
abbrev pub Numbers : ℕ → Result Refusal NoRefusal → Type 0
Numbers n r = MatchResult r (λ refusal. number_of refusal ≡ n) (λ e. (e.0 ≡ n) × (1 ≤ n → 19 < n))
