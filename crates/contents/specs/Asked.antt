-- 01, Screens, 02, Req 10, and Numbers returned: a screen's body asked for by its number or identity.
use Rattle.std.specs.Prelude.{ℕ, cond, List, [], ◌∷◌, eqb}
use Rattle.contents.specs.Replies.{Asked, Body as Asked-Body, Refused}
use Rattle.contents.specs.Contents.{Body, Contents, sound, wrong, contents_of}

-- 10 no screen has it
abbrev pub body_at : List Body → ℕ → Asked
body_at [] key = Refused 10 0
body_at (b ∷ bs) key = cond (eqb b.key key) (Asked-Body b.start b.end) (body_at bs key)

abbrev pub body_in : Contents → ℕ → Asked
body_in (sound bodies) key = body_at bodies key
body_in (wrong place) key = Refused 9 place

-- 9, then 10, else the body
unfoldable pub asked_of : List ℕ → ℕ → Asked
asked_of book key = body_in (contents_of book) key
