-- What comes back of a book's contents, read from the results: the screens of a book, and a body asked for.
use Rattle.std.specs.Prelude.{ℕ, Bool, false, ◌≡◌, List, map, take, Result, Ok, Err}
use Rattle.ground.specs.Lists.{zeros}
use Rattle.state.specs.Refusals.{number_of}
use Rattle.state.specs.declared.refusal.Refusal.TheVariants.{WrongBook}
use Rattle.state.specs.declared.refusal.Refused.{Refused as Placed-Refusal}
use Rattle.contents.specs.Contents.{Body as Screen, Contents, sound, wrong}
use Rattle.contents.specs.declared.spans.Span.{Span}
use Rattle.contents.specs.declared.spans.Spans.{Spans as Opened}

-- a number and place; the form, and of each screen what it is asked for by, its first byte and the byte behind it. 64 of each, 0
-- behind the count; all of it 0 where it was refused
pub record Spans : Type 0 where
  pub number : ℕ
  pub place : ℕ
  pub two : Bool
  pub count : ℕ
  pub keys : List ℕ
  pub starts : List ℕ
  pub ends : List ℕ

-- a screen as the contents name it
abbrev pub body : Span → Screen
body s = record { key = s.key; start = s.start; end = s.end }

abbrev pub bodies : List Span → List Screen
bodies ss = map body ss

-- the screens, or a refusal with its place
abbrev pub opened : Result Opened Placed-Refusal → Spans
opened (Ok s) =
    record {
      number = 0;
      place = 0;
      two = s.two;
      count = s.count;
      keys = map (λ (x : Span). x.key) s.spans;
      starts = map (λ (x : Span). x.start) s.spans;
      ends = map (λ (x : Span). x.end) s.spans;
    }
opened (Err e) =
    record { number = number_of e.refusal; place = e.place; two = false; count = 0; keys = zeros 64; starts = zeros 64; ends = zeros 64 }

-- sound contents with the screens that stand, or the byte of the first wrong entry
abbrev pub Opens : Bool → Contents → Result Opened Placed-Refusal → Type 0
Opens two x (Ok s) = (s.two ≡ two) × (x ≡ sound (bodies (take s.count s.spans)))
Opens two x (Err e) = (e.refusal ≡ WrongBook) × (x ≡ wrong e.place)

-- a screen's body, its first byte and the byte behind it; or a refusal's number with its place
pub data Asked : Type 0 where
  Body : ℕ → ℕ → Asked
  Refused : ℕ → ℕ → Asked

abbrev pub asked : Result Span Placed-Refusal → Asked
asked (Ok s) = Body s.start s.end
asked (Err e) = Refused (number_of e.refusal) e.place
