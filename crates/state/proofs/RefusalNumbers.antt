-- No two refusals have one number, and none has that of acceptance.
use Rattle.std.proofs.Common.{◌≡◌, ℕ, refl, ap, sym, ◌∙◌, arith, Result, Ok, Err, ◌==◌, if◌then◌else◌}
use Rattle.state.specs.Refusals.{number_of}
use Rattle.state.specs.Replies.{Reply, reply, placed_reply}
use Rattle.state.specs.declared.refusal.Refused.{Refused}
use Rattle.state.specs.declared.refusal.Refusal.{Refusal}
use Rattle.state.specs.declared.refusal.Refusal.TheVariants.{Invalid, WrongLength, UnknownKind, UndefinedCode, InAuto, DataMissing, WrongWay, OddLength, WrongBook, NoSuchScreen, WrongOperation, NoRoomForStream, NoRoomForAnswer, AnswersUneven, NoRoomInList, NoRoomForSkipped, OtherIdentities, TooLarge, UsesAnd}

numbered : ℕ → Refusal
numbered n =
    if n == 1 then Invalid else
    if n == 2 then WrongLength else
    if n == 3 then UnknownKind else
    if n == 4 then UndefinedCode else
    if n == 5 then InAuto else
    if n == 6 then DataMissing else
    if n == 7 then WrongWay else
    if n == 8 then OddLength else
    if n == 9 then WrongBook else
    if n == 10 then NoSuchScreen else
    if n == 11 then WrongOperation else
    if n == 12 then NoRoomForStream else
    if n == 13 then NoRoomForAnswer else
    if n == 14 then AnswersUneven else
    if n == 15 then NoRoomInList else
    if n == 16 then NoRoomForSkipped else
    if n == 17 then OtherIdentities else
    if n == 18 then TooLarge else
    UsesAnd

numbered-is : (e : Refusal) → numbered (number_of e) ≡ e
unfolding numbered
numbered-is Invalid = refl
numbered-is WrongLength = refl
numbered-is UnknownKind = refl
numbered-is UndefinedCode = refl
numbered-is InAuto = refl
numbered-is DataMissing = refl
numbered-is WrongWay = refl
numbered-is OddLength = refl
numbered-is WrongBook = refl
numbered-is NoSuchScreen = refl
numbered-is WrongOperation = refl
numbered-is NoRoomForStream = refl
numbered-is NoRoomForAnswer = refl
numbered-is AnswersUneven = refl
numbered-is NoRoomInList = refl
numbered-is NoRoomForSkipped = refl
numbered-is OtherIdentities = refl
numbered-is TooLarge = refl
numbered-is UsesAnd = refl

-- none has the number of acceptance
pub not_zero : (e : Refusal) → number_of e ≡ 0 → ⊥
unfolding numbered
not_zero e h = let k : UsesAnd ≡ e = ap numbered (sym h) ∙ numbered-is e in let n : 19 ≡ number_of e = ap number_of k in omega (arith, n, h)

pub same_number : (d e : Refusal) → number_of d ≡ number_of e → d ≡ e
same_number d e h = sym (numbered-is d) ∙ ap numbered h ∙ numbered-is e

-- an answer that names no place
pub no_place : (x : Result Unit Refusal) → (reply x).place ≡ 0
no_place (Ok u) = refl
no_place (Err e) = refl

-- two answers that stand for one reply are equal
pub same_reply : (x y : Result Unit Refusal) → reply x ≡ reply y → x ≡ y
same_reply (Ok u) (Ok v) h = refl
same_reply (Ok u) (Err e) h = absurd (not_zero e (ap (λ (r : Reply). r.number) (sym h)))
same_reply (Err d) (Ok v) h = absurd (not_zero d (ap (λ (r : Reply). r.number) h))
same_reply (Err d) (Err e) h = ap Err (same_number d e (ap (λ (r : Reply). r.number) h))

pub same_placed_reply : (x y : Result Unit Refused) → placed_reply x ≡ placed_reply y → x ≡ y
same_placed_reply (Ok u) (Ok v) h = refl
same_placed_reply (Ok u) (Err e) h = absurd (not_zero e.refusal (ap (λ (r : Reply). r.number) (sym h)))
same_placed_reply (Err d) (Ok v) h = absurd (not_zero d.refusal (ap (λ (r : Reply). r.number) h))
same_placed_reply (Err d) (Err e) h =
    let n = same_number d.refusal e.refusal (ap (λ (r : Reply). r.number) h) in
    let p = ap (λ (r : Reply). r.place) h in
    λ i. Err (record { refusal = n i; place = p i })
