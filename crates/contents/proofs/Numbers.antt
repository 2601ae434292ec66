-- The number and place of a screen asked for.
use mathlib.Core.Path.{◌≡◌, refl, ap, ◌∙◌}
use mathlib.Core.Bool.{Bool, true, false, cond, ◌||◌}
use mathlib.Core.List.{List, [], ◌∷◌}
use Prim.Native.Nat.{ℕ}
use lib.Dec.{eqb}
use Rattle.contents.specs.Replies.{Asked, Body as Asked-Body}
use Rattle.contents.specs.Contents.{Body, Contents, sound, wrong, contents_of}
use Rattle.contents.specs.Asked.{body_at, body_in, asked_of}
use Rattle.contents.specs.Numbers.{present, contents_number, contents_place, asked_number, asked_place}

-- a body where there is one, else 10
body-number : (bs : List Body) (key : ℕ) → asked_number (body_at bs key) ≡ contents_number (sound bs) key
body-number [] key = refl
body-number (b ∷ bs) key = told (eqb b.key key) (body-number bs key)
  where
    told : (v : Bool) → asked_number (body_at bs key) ≡ cond (present bs key) 0 10
        → asked_number (cond v (Asked-Body b.start b.end) (body_at bs key)) ≡ cond (v || present bs key) 0 10
    told true ih = refl
    told false ih = ih

body-place : (bs : List Body) (key : ℕ) → asked_place (body_at bs key) ≡ 0
body-place [] key = refl
body-place (b ∷ bs) key = told (eqb b.key key) (body-place bs key)
  where
    told : (v : Bool) → asked_place (body_at bs key) ≡ 0 → asked_place (cond v (Asked-Body b.start b.end) (body_at bs key)) ≡ 0
    told true ih = refl
    told false ih = ih

in-number : (x : Contents) (key : ℕ) → asked_number (body_in x key) ≡ contents_number x key
in-number (sound bs) key = body-number bs key
in-number (wrong place) key = refl

in_place : (x : Contents) (key : ℕ) → asked_place (body_in x key) ≡ contents_place x
in_place (sound bs) key = body-place bs key
in_place (wrong place) key = refl

-- a screen asked for, with its number and place
pub asked-numbered : (book : List ℕ) (key : ℕ) {r : Asked} → r ≡ asked_of book key
    → (r ≡ asked_of book key) × ((asked_number r ≡ contents_number (contents_of book) key) × (asked_place r ≡ contents_place (contents_of book)))
unfolding asked_of
asked-numbered book key h =
    (h, (ap asked_number h ∙ in-number (contents_of book) key, ap asked_place h ∙ in_place (contents_of book) key))
