-- 02, Req 10: a book's contents by value: keys, starts and ends of its bodies, each at the front of 64 zeros.
use Rattle.std.specs.Prelude.{ℕ, ◌+◌, Bool, false, List, [], ◌∷◌, length}
use Rattle.std.proofs.lemmas.List.Edits.{sets}
use Rattle.ground.specs.Lists.{zeros}
use Rattle.contents.specs.Replies.{Spans}
use Rattle.contents.specs.Contents.{Body, Contents, sound, wrong}

abbrev pub keys_of : List Body → List ℕ
keys_of [] = []
keys_of (b ∷ bs) = b.key ∷ keys_of bs

abbrev pub starts_of : List Body → List ℕ
starts_of [] = []
starts_of (b ∷ bs) = b.start ∷ starts_of bs

abbrev pub ends_of : List Body → List ℕ
ends_of [] = []
ends_of (b ∷ bs) = b.end ∷ ends_of bs

-- a refusal with its place
abbrev pub shut_spans : ℕ → ℕ → Spans
shut_spans n place = record { number = n; place = place; two = false; count = 0; keys = zeros 64; starts = zeros 64; ends = zeros 64 }

-- the bodies behind i others
abbrev pub spans_on : Bool → ℕ → List ℕ → List ℕ → List ℕ → Contents → Spans
spans_on two i keys starts ends (sound bs) =
    record {
      number = 0;
      place = 0;
      two = two;
      count = i + length bs;
      keys = sets keys i (keys_of bs);
      starts = sets starts i (starts_of bs);
      ends = sets ends i (ends_of bs);
    }
spans_on two i keys starts ends (wrong place) = shut_spans 9 place

-- the form, and the bodies; 9 with its place
abbrev pub spans_of : Bool → Contents → Spans
spans_of two x = spans_on two 0 (zeros 64) (zeros 64) (zeros 64) x
