-- 01, Numbers returned: what checking a whole screen answers.
use Rattle.std.specs.Prelude.{ℕ, ◌-◌, cond, List}
use Rattle.state.specs.declared.panel.Panel.{Panel}
use Rattle.state.specs.State.{valid_panel}
use Rattle.book.specs.Replies.{Checked}
use Rattle.contents.specs.Replies.{Asked, Body, Refused}
use Rattle.book.specs.Operation.{body_count}
use Rattle.book.specs.Screen.{Screen, screen, refused, operations_from}
use Rattle.contents.specs.Asked.{asked_of}

abbrev pub refused_with : ℕ → ℕ → Checked
refused_with n place = record { number = n; place = place; start = 0; end = 0; pairs = 0 }

-- the pairs of its operations added up, or 11
abbrev pub counted_of : ℕ → ℕ → Screen → Checked
counted_of start end (screen os) = record { number = 0; place = 0; start = start; end = end; pairs = body_count os }
counted_of start end (refused n place) = refused_with n place

abbrev pub checked_in : Panel → List ℕ → Asked → Checked
checked_in p book (Body start end) = counted_of start end (operations_from (end - start) p book start end)
checked_in p book (Refused n place) = refused_with n place

-- 1 panel not valid, then 9, 10, 11
unfoldable pub checked_of : Panel → List ℕ → ℕ → Checked
checked_of p book number = cond (valid_panel p) (checked_in p book (asked_of book number)) (refused_with 1 0)
