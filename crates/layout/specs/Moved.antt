-- 02, Req 10 and 11: a book moved from form one up to form two, or down again.
use Rattle.std.specs.Prelude.{ℕ, ◌+◌, Bool, true, false, cond, ◌&&◌, List, [], ◌∷◌, ◌++◌, leb, eqb, length, drop}
use Rattle.state.specs.declared.panel.Panel.{Panel}
use Rattle.state.specs.State.{valid_panel}
use Rattle.contents.specs.Contents.{Body, Contents, sound, wrong, is_two, contents_of}
use Rattle.layout.specs.BodiesRead.{BodiesRead}
use Rattle.layout.specs.BodiesRead.{Plain, And, Faulty}
use Rattle.layout.specs.Uses.{bodies_read}
use Rattle.layout.specs.Laid.{laid_out, screens_of}

-- a number and place, and the bytes of the moved book, 0 where it was refused
pub record Moved : Type 0 where
  pub number : ℕ
  pub place : ℕ
  pub size : ℕ

-- a reply, and the output
pub record MovedBook : Type 0 where
  pub reply : Moved
  pub out : List ℕ

abbrev pub moved_all : Moved → List ℕ → MovedBook
moved_all r out = record { reply = r; out = out }

-- a refusal with its place leaves the output as it was
abbrev pub not_moved : ℕ → ℕ → List ℕ → MovedBook
not_moved n place out = moved_all (record { number = n; place = place; size = 0 }) out

-- the book at the output's start, the rest as it was; 12 with the bytes needed where the output is shorter
abbrev pub fitted : List ℕ → List ℕ → MovedBook
fitted laid out =
    cond (leb (length laid) (length out))
    (moved_all (record { number = 0; place = 0; size = length laid }) (laid ++ drop (length laid) out))
    (not_moved 12 (length laid) out)

-- 18 with the size where it passes 32,768 bytes
abbrev pub fitted_up : List ℕ → List ℕ → MovedBook
fitted_up laid out = cond (leb (length laid) 32768) (fitted laid out) (not_moved 18 (length laid) out)

-- 11 with the operation's byte, 19 with the number of the first screen that uses AND
abbrev pub up_read : BodiesRead → MovedBook → List ℕ → MovedBook
up_read Plain moved out = moved
up_read (And screen) moved out = not_moved 19 screen out
up_read (Faulty place) moved out = not_moved 11 place out

-- the keys of form one are 0 to n-1
abbrev pub up_in : Panel → List ℕ → Contents → List ℕ → MovedBook
up_in p book (sound bs) out = up_read (bodies_read p book 0 bs) (fitted_up (laid_out true (screens_of book bs)) out) out
up_in p book (wrong place) out = not_moved 9 place out

-- 1; 9 for form two, place 0; 9; 11; 19; 18; 12
unfoldable pub up_of : Panel → List ℕ → List ℕ → MovedBook
up_of p book out =
    cond (valid_panel p) (cond (is_two book) (not_moved 9 0 out) (up_in p book (contents_of book) out)) (not_moved 1 0 out)

-- identities i, i + 1 and so on
abbrev pub numbered_from : ℕ → List Body → Bool
numbered_from i [] = true
numbered_from i (b ∷ bs) = eqb b.key i && numbered_from (i + 1) bs

-- 17 for identities other than 0 to n-1
abbrev pub down_in : List ℕ → Contents → List ℕ → MovedBook
down_in book (sound bs) out = cond (numbered_from 0 bs) (fitted (laid_out false (screens_of book bs)) out) (not_moved 17 0 out)
down_in book (wrong place) out = not_moved 9 place out

-- 9 for form one, place 0; 9; 17; 12
unfoldable pub down_of : List ℕ → List ℕ → MovedBook
down_of book out = cond (is_two book) (down_in book (contents_of book) out) (not_moved 9 0 out)
