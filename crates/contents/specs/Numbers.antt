-- 01, Numbers returned: the number and place of a screen asked for.
use Rattle.std.specs.Prelude.{ℕ, Bool, false, cond, ◌||◌, List, [], ◌∷◌, eqb}
use Rattle.contents.specs.Replies.{Asked, Body as Asked-Body, Refused}
use Rattle.contents.specs.Contents.{Body, Contents, sound, wrong}

-- one of the screens has that number or identity
abbrev pub present : List Body → ℕ → Bool
present [] key = false
present (b ∷ bs) key = eqb b.key key || present bs key

-- 9 contents wrong, 10 screen number n or more, or identity not present
abbrev pub contents_number : Contents → ℕ → ℕ
contents_number (sound bodies) key = cond (present bodies key) 0 10
contents_number (wrong place) key = 9

-- the first wrong entry's byte, else 0
abbrev pub contents_place : Contents → ℕ
contents_place (sound bodies) = 0
contents_place (wrong place) = place

-- the number and place of an answer
abbrev pub asked_number : Asked → ℕ
asked_number (Asked-Body start end) = 0
asked_number (Refused n place) = n

abbrev pub asked_place : Asked → ℕ
asked_place (Asked-Body start end) = 0
asked_place (Refused n place) = place
