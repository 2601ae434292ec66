-- 01, Numbers returned: the number and place of what is read, and of a whole screen.
use Rattle.std.specs.Prelude.{ℕ}
use Rattle.book.specs.Replies.{Found, Operation as Found-Operation, End, Faulty}
use Rattle.book.specs.Screen.{Screen, screen, refused}

-- a screen's refusal
abbrev pub screen_number : Screen → ℕ
screen_number (screen os) = 0
screen_number (refused n place) = n

abbrev pub screen_place : Screen → ℕ
screen_place (screen os) = 0
screen_place (refused n place) = place

-- 11 unknown, cut or out-of-range operation
abbrev pub found_number : Found → ℕ
found_number (Found-Operation o next) = 0
found_number End = 0
found_number Faulty = 11

-- its byte in the book
abbrev pub found_place : ℕ → Found → ℕ
found_place at (Found-Operation o next) = 0
found_place at End = 0
found_place at Faulty = at
