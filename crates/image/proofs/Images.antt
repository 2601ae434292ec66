-- The registers and their bytes: either is had back from the other.
use mathlib.Core.Path.{◌≡◌, refl, ap, sym, ◌∙◌}
use mathlib.Core.Bool.{Bool, true, false, cond, ◌&&◌}
use mathlib.Core.List.{List, ◌∷◌, []}
use Prim.Native.Nat.{ℕ, zero, suc, ◌/◌, ◌%◌, ◌<◌}
use native.Mathlib.Omega.{arith}
use lib.Dec.{leb, eqb}
use lib.ListN.{length, get_or}
use lib.Seq.{ext_get_or}
use mir.Val.{bool_byte}
use borrow.Author.Tests.{leb-true, eq-eqb, ne_eqb}
use Rattle.ground.specs.Bytes.{word_of}
use Rattle.ground.specs.Lists.{build}
use Rattle.ground.proofs.Lists.{build-length, build-at}
use Rattle.ground.proofs.Tests.{both_left, both_right}
use Rattle.image.specs.Types.{Combination, Or, Exor, And, Attribute, Auto, Off, Write, Read, Registers}
use Rattle.image.specs.Image.{flag_byte, combination_byte, combination_in, auto_byte, auto_of, bytes_of, replaced, readable, display_of, bus_of, state_of}

-- std's byte of a flag
pub flagged : {n : ℕ} (b : Bool) → n ≡ bool_byte b → n ≡ flag_byte b
flagged true e = e
flagged false e = e

-- a list is built of its elements
listed : (n : ℕ) (l : List ℕ) → length l ≡ n → build n (λ i. get_or l i 0) ≡ l
listed n l e =
    let k : length (build n (λ i. get_or l i 0)) ≡ n = build-length n _ in
    ext_get_or 0 (build n (λ i. get_or l i 0)) l (k ∙ sym e) (λ i h. build-at n _ i 0 (omega arith))

pub bytes-length : (r : Registers) → length (bytes_of r) ≡ 25
unfolding bytes_of
bytes-length r = refl

-- the bytes that the code works out, each what it stands for
pub bytes-are : (r : Registers) {pointer_low pointer_high text_low text_high graphic_low graphic_high combination external graphic text cursor blink auto error phase : ℕ}
    → pointer_low ≡ r.bus.pointer % 256 → pointer_high ≡ r.bus.pointer / 256
    → text_low ≡ r.display.text.home % 256 → text_high ≡ r.display.text.home / 256
    → graphic_low ≡ r.display.graphic.home % 256 → graphic_high ≡ r.display.graphic.home / 256
    → combination ≡ combination_byte r.display.combination → external ≡ flag_byte r.display.external
    → graphic ≡ flag_byte r.display.bits.graphic → text ≡ flag_byte r.display.bits.text
    → cursor ≡ flag_byte r.display.bits.cursor → blink ≡ flag_byte r.display.bits.blink
    → auto ≡ auto_byte r.bus.auto → error ≡ flag_byte r.bus.error → phase ≡ flag_byte r.display.phase
    → (r.display.cursor.x ∷ r.display.cursor.y ∷ r.display.offset ∷ pointer_low ∷ pointer_high
    ∷ text_low ∷ text_high ∷ graphic_low ∷ graphic_high
    ∷ r.display.text.area ∷ r.display.graphic.area ∷ combination ∷ external ∷ graphic ∷ text ∷ cursor ∷ blink
    ∷ r.display.cursor.height ∷ auto ∷ r.bus.pending.count ∷ r.bus.pending.older ∷ r.bus.pending.newest
    ∷ r.bus.latch ∷ error ∷ phase ∷ [])
    ≡ bytes_of r
unfolding bytes_of
bytes-are r pl ph tl th gl gh a b c d e f g h i =
    λ t. r.display.cursor.x ∷ r.display.cursor.y ∷ r.display.offset ∷ pl t ∷ ph t
    ∷ tl t ∷ th t ∷ gl t ∷ gh t
    ∷ r.display.text.area ∷ r.display.graphic.area ∷ a t ∷ b t ∷ c t ∷ d t ∷ e t ∷ f t
    ∷ r.display.cursor.height ∷ g t ∷ r.bus.pending.count ∷ r.bus.pending.older ∷ r.bus.pending.newest
    ∷ r.bus.latch ∷ h t ∷ i t ∷ []

-- a buffer of the length gets the contents, another stays
pub replaced-same : (new old : List ℕ) → length old ≡ length new → new ≡ replaced new old
replaced-same new old e = sym (ap (λ (t : Bool). cond t new old) (eq-eqb (length old) (length new) e))

pub replaced-other : (new old : List ℕ) → (length old ≡ length new → ⊥) → old ≡ replaced new old
replaced-other new old e = sym (ap (λ (t : Bool). cond t new old) (ne_eqb (length old) (length new) e))

-- written, or not
module _ (r : Registers) (old : List ℕ) where
  pub not_written : (length old ≡ 25 → ⊥) → old ≡ replaced (bytes_of r) old
  not_written e = replaced-other (bytes_of r) old (λ h. e (h ∙ bytes-length r))

pub combination-back : (k : Combination) → combination_in (combination_byte k) ≡ k
combination-back Or = refl
combination-back Exor = refl
combination-back And = refl
combination-back Attribute = refl

pub auto-back : (a : Auto) → auto_of (auto_byte a) ≡ a
auto-back Off = refl
auto-back Write = refl
auto-back Read = refl

pub flag-back : (b : Bool) → eqb (flag_byte b) 1 ≡ b
flag-back true = refl
flag-back false = refl

word_back : (n : ℕ) → word_of (n % 256) (n / 256) ≡ n
word_back n = omega arith

-- the registers are had back from their bytes
pub state-back : (r : Registers) → state_of (bytes_of r) ≡ r
unfolding bytes_of display_of bus_of
state-back r =
    λ i. record {
      display = record {
        text = record { home = word_back r.display.text.home i; area = r.display.text.area };
        graphic = record { home = word_back r.display.graphic.home i; area = r.display.graphic.area };
        offset = r.display.offset;
        combination = combination-back r.display.combination i;
        external = flag-back r.display.external i;
        bits = record {
          graphic = flag-back r.display.bits.graphic i;
          text = flag-back r.display.bits.text i;
          cursor = flag-back r.display.bits.cursor i;
          blink = flag-back r.display.bits.blink i;
        };
        cursor = r.display.cursor;
        phase = flag-back r.display.phase i;
      };
      bus = record {
        pointer = word_back r.bus.pointer i;
        auto = auto-back r.bus.auto i;
        pending = r.bus.pending;
        latch = r.bus.latch;
        error = flag-back r.bus.error i;
      };
    }

combination-readable : (k : Combination) → leb (combination_byte k) 3 ≡ true
combination-readable Or = refl
combination-readable Exor = refl
combination-readable And = refl
combination-readable Attribute = refl

auto-readable : (a : Auto) → leb (auto_byte a) 2 ≡ true
auto-readable Off = refl
auto-readable Write = refl
auto-readable Read = refl

flag-readable : (b : Bool) → leb (flag_byte b) 1 ≡ true
flag-readable true = refl
flag-readable false = refl

-- and their bytes can be read
pub bytes-readable : (r : Registers) → readable (bytes_of r) ≡ true
unfolding bytes_of
bytes-readable r =
    λ i. combination-readable r.display.combination i && flag-readable r.display.external i
    && flag-readable r.display.bits.graphic i && flag-readable r.display.bits.text i
    && flag-readable r.display.bits.cursor i && flag-readable r.display.bits.blink i
    && auto-readable r.bus.auto i && flag-readable r.bus.error i && flag-readable r.display.phase i

combination-forth : (n : ℕ) → leb n 3 ≡ true → combination_byte (combination_in n) ≡ n
combination-forth zero e = refl
combination-forth (suc zero) e = refl
combination-forth (suc (suc zero)) e = refl
combination-forth (suc (suc (suc zero))) e = refl
combination-forth (suc (suc (suc (suc n)))) e = absurd (omega (arith, leb-true (suc (suc (suc (suc n)))) 3 e))

auto-forth : (n : ℕ) → leb n 2 ≡ true → auto_byte (auto_of n) ≡ n
auto-forth zero e = refl
auto-forth (suc zero) e = refl
auto-forth (suc (suc zero)) e = refl
auto-forth (suc (suc (suc n))) e = absurd (omega (arith, leb-true (suc (suc (suc n))) 2 e))

flag-forth : (n : ℕ) → leb n 1 ≡ true → flag_byte (eqb n 1) ≡ n
flag-forth zero e = refl
flag-forth (suc zero) e = refl
flag-forth (suc (suc n)) e = absurd (omega (arith, leb-true (suc (suc n)) 1 e))

low-forth : (l h : ℕ) → l < 256 → word_of l h % 256 ≡ l
low-forth l h k = omega arith

high-forth : (l h : ℕ) → l < 256 → word_of l h / 256 ≡ h
high-forth l h k = omega arith

-- nine tests in a row, each by itself
record Nine (a b c d e f g h k : Bool) : Type 0 where
  t1 : a ≡ true
  t2 : b ≡ true
  t3 : c ≡ true
  t4 : d ≡ true
  t5 : e ≡ true
  t6 : f ≡ true
  t7 : g ≡ true
  t8 : h ≡ true
  t9 : k ≡ true

nine : (a b c d e f g h k : Bool) → (a && b && c && d && e && f && g && h && k) ≡ true → Nine a b c d e f g h k
nine a b c d e f g h k p9 =
    let p8 = both_left (a && b && c && d && e && f && g && h) k p9 in
    let p7 = both_left (a && b && c && d && e && f && g) h p8 in
    let p6 = both_left (a && b && c && d && e && f) g p7 in
    let p5 = both_left (a && b && c && d && e) f p6 in
    let p4 = both_left (a && b && c && d) e p5 in
    let p3 = both_left (a && b && c) d p4 in
    let p2 = both_left (a && b) c p3 in
    record {
      t1 = both_left a b p2;
      t2 = both_right a b p2;
      t3 = both_right (a && b) c p3;
      t4 = both_right (a && b && c) d p4;
      t5 = both_right (a && b && c && d) e p5;
      t6 = both_right (a && b && c && d && e) f p6;
      t7 = both_right (a && b && c && d && e && f) g p7;
      t8 = both_right (a && b && c && d && e && f && g) h p8;
      t9 = both_right (a && b && c && d && e && f && g && h) k p9;
    }

-- 25 bytes that can be read are had back from the registers that they stand for
pub bytes_back : (b : List ℕ) → length b ≡ 25 → readable b ≡ true → ((i : ℕ) → get_or b i 0 < 256) → bytes_of (state_of b) ≡ b
unfolding bytes_of display_of bus_of build
bytes_back b l e h =
    let k = nine (leb (get_or b 11 0) 3) (leb (get_or b 12 0) 1) (leb (get_or b 13 0) 1) (leb (get_or b 14 0) 1) (leb (get_or b 15 0) 1) (leb (get_or b 16 0) 1) (leb (get_or b 18 0) 2) (leb (get_or b 23 0) 1) (leb (get_or b 24 0) 1) e in
    (λ i. get_or b 0 0 ∷ get_or b 1 0 ∷ get_or b 2 0
    ∷ low-forth (get_or b 3 0) (get_or b 4 0) (h 3) i ∷ high-forth (get_or b 3 0) (get_or b 4 0) (h 3) i
    ∷ low-forth (get_or b 5 0) (get_or b 6 0) (h 5) i ∷ high-forth (get_or b 5 0) (get_or b 6 0) (h 5) i
    ∷ low-forth (get_or b 7 0) (get_or b 8 0) (h 7) i ∷ high-forth (get_or b 7 0) (get_or b 8 0) (h 7) i
    ∷ get_or b 9 0 ∷ get_or b 10 0
    ∷ combination-forth (get_or b 11 0) k.t1 i ∷ flag-forth (get_or b 12 0) k.t2 i
    ∷ flag-forth (get_or b 13 0) k.t3 i ∷ flag-forth (get_or b 14 0) k.t4 i
    ∷ flag-forth (get_or b 15 0) k.t5 i ∷ flag-forth (get_or b 16 0) k.t6 i
    ∷ get_or b 17 0 ∷ auto-forth (get_or b 18 0) k.t7 i
    ∷ get_or b 19 0 ∷ get_or b 20 0 ∷ get_or b 21 0
    ∷ get_or b 22 0 ∷ flag-forth (get_or b 23 0) k.t8 i ∷ flag-forth (get_or b 24 0) k.t9 i ∷ [])
    ∙ listed 25 b l
