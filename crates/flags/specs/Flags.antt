-- 02, Req 05: a flag for each dot row beside the memory, 0 where it is clear, and what a pair makes of them.
use Rattle.std.specs.Prelude.{ℕ, Bool, not, ◌&&◌, ◌||◌, List, eqb}
use Rattle.ground.specs.Lists.{build}
use Rattle.effects.specs.Machine.{Machine, display, pointer}
use Rattle.controller.specs.Access.{Pair, Step, done, answered, refused, step_of}
use Rattle.stores.specs.Stores.{stores_of}
use Rattle.flags.specs.Types.{Panel, Plane, Cursor, DisplayBits, Combination, Or, Exor, And, Attribute, Display}
use Rattle.touch.specs.Touch.{touched}
use Rattle.touch.specs.Marked.{set_where}

-- all set
abbrev pub all_set : ℕ → List ℕ
all_set n = build n (λ r. 1)

-- all clear
abbrev pub all_clear : ℕ → List ℕ
all_clear n = build n (λ r. 0)

abbrev pub same_flag : Bool → Bool → Bool
same_flag a b = (a && b) || (not a && not b)

abbrev pub same_plane : Plane → Plane → Bool
same_plane a b = eqb a.home b.home && eqb a.area b.area

abbrev pub same_cursor : Cursor → Cursor → Bool
same_cursor a b = eqb a.x b.x && eqb a.y b.y && eqb a.height b.height

abbrev pub same_bits : DisplayBits → DisplayBits → Bool
same_bits a b =
    same_flag a.graphic b.graphic && same_flag a.text b.text && same_flag a.cursor b.cursor && same_flag a.blink b.blink

abbrev pub mode_number : Combination → ℕ
mode_number Or = 0
mode_number Exor = 1
mode_number And = 3
mode_number Attribute = 4

-- the stored home, area, offset, combination, external flag, display bits, cursor position and height, and phase
unfoldable pub same_display : Display → Display → Bool
same_display a b =
    same_plane a.text b.text && same_plane a.graphic b.graphic && eqb a.offset b.offset
    && eqb (mode_number a.combination) (mode_number b.combination) && same_flag a.external b.external
    && same_bits a.bits b.bits && same_cursor a.cursor b.cursor && same_flag a.phase b.phase

-- an accepted pair that alters one of those flags all rows, else the addresses that it stores flag theirs
unfoldable pub flags_after : Panel → Machine → Pair → Machine → List ℕ → List ℕ
flags_after p s q t flags =
    set_where p
    (λ r. not (same_display (display s) (display t)) || touched p (display s) s.memory t.memory (pointer s) (stores_of p s.registers q) r)
    flags

-- a machine with its flags
pub record Flagged : Type 0 where
  pub machine : Machine
  pub flags : List ℕ

abbrev pub with_flags : Machine → List ℕ → Flagged
with_flags m flags = record { machine = m; flags = flags }

-- flags follow accepted pairs only
abbrev pub flag_by : Panel → Flagged → Pair → Step Machine → Step Flagged
flag_by p f q (done t) = done (with_flags t (flags_after p f.machine q t f.flags))
flag_by p f q (answered t b) = answered (with_flags t (flags_after p f.machine q t f.flags)) b
flag_by p f q (refused n) = refused n

abbrev pub flag_step : Panel → List ℕ → Flagged → Pair → Step Flagged
flag_step p rom f q = flag_by p f q (step_of p rom f.machine q)
