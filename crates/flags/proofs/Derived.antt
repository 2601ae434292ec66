-- The derived equality of two display groups is the test that the flags go by.
use Rattle.std.proofs.Common.{◌≡◌, Bool, true, false, ◌&&◌, eqb, sym, refl, ◌∙◌}
use Rattle.std.proofs.Math.Bool.{and_assoc}
use Rattle.flags.specs.Types.{Cursor, DisplayBits, Combination, Or, Exor, And, Attribute, Display}
use Rattle.flags.specs.Flags.{same_flag, same_plane, same_cursor, same_bits, mode_number, same_display}
use Rattle.state.specs.contracts.registers.DisplayPartialEq.TheImpl.{ghosts}
use Rattle.state.specs.contracts.registers.DisplayBitsPartialEq.TheImpl.{ghosts as bits_eq}
use Rattle.state.specs.contracts.registers.CursorPartialEq.TheImpl.{ghosts as cursor_eq}
use Rattle.state.specs.contracts.registers.CombinationPartialEq.TheImpl.{ghosts as mode_eq}
use mathlib.Core.Bool.{beq}

flag-is : (a b : Bool) → beq a b ≡ same_flag a b
flag-is true true = refl
flag-is true false = refl
flag-is false true = refl
flag-is false false = refl

mode-is : (a b : Combination) → mode_eq.eq a b ≡ eqb (mode_number a) (mode_number b)
mode-is Or Or = refl
mode-is Or Exor = refl
mode-is Or And = refl
mode-is Or Attribute = refl
mode-is Exor Or = refl
mode-is Exor Exor = refl
mode-is Exor And = refl
mode-is Exor Attribute = refl
mode-is And Or = refl
mode-is And Exor = refl
mode-is And And = refl
mode-is And Attribute = refl
mode-is Attribute Or = refl
mode-is Attribute Exor = refl
mode-is Attribute And = refl
mode-is Attribute Attribute = refl

cursor-is : (a b : Cursor) → cursor_eq.eq a b ≡ same_cursor a b
cursor-is a b = sym (and_assoc (eqb a.x b.x) (eqb a.y b.y) (eqb a.height b.height))

four : (a b c d : Bool) → (a && (b && (c && d))) ≡ (((a && b) && c) && d)
four a b c d = sym (and_assoc (a && b) c d ∙ and_assoc a b (c && d))

bits-is : (a b : DisplayBits) → bits_eq.eq a b ≡ same_bits a b
bits-is a b =
    (λ i. flag-is a.graphic b.graphic i && (flag-is a.text b.text i && (flag-is a.cursor b.cursor i && flag-is a.blink b.blink i)))
    ∙ four (same_flag a.graphic b.graphic) (same_flag a.text b.text) (same_flag a.cursor b.cursor) (same_flag a.blink b.blink)

eight : (t g o m x s k h : Bool) → (t && (g && (o && (m && (x && (s && (k && h))))))) ≡ (((((((t && g) && o) && m) && x) && s) && k) && h)
eight t g o m x s k h = four t g o (m && (x && (s && (k && h)))) ∙ four ((t && g) && o) m x (s && (k && h)) ∙ four ((((t && g) && o) && m) && x) s k h

pub display-is : (a b : Display) → ghosts.eq a b ≡ same_display a b
unfolding same_display
display-is a b =
    (λ i. same_plane a.text b.text && (same_plane a.graphic b.graphic && (eqb a.offset b.offset && (mode-is a.combination b.combination i
    && (flag-is a.external b.external i && (bits-is a.bits b.bits i && (cursor-is a.cursor b.cursor i && flag-is a.phase b.phase i)))))))
    ∙ eight (same_plane a.text b.text) (same_plane a.graphic b.graphic) (eqb a.offset b.offset) (eqb (mode_number a.combination) (mode_number b.combination))
    (same_flag a.external b.external) (same_bits a.bits b.bits) (same_cursor a.cursor b.cursor) (same_flag a.phase b.phase)
