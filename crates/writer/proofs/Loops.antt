-- Loops that put pairs, so many in each turn: bytes of a book, one byte many times, the rows of a rectangle.
use mathlib.Core.Path.{◌≡◌}
use mathlib.Core.List.{List, [], ◌∷◌, ◌++◌, map}
use Prim.Native.Nat.{ℕ, suc, ◌+◌, ◌-◌, ◌*◌, ◌<◌}
use native.Mathlib.Nat.{mul-le-mul_right}
use native.Mathlib.Omega.{arith}
use lib.ListN.{length, get_or, drop, replicate}
use lib.Seq.{drop-cons, drop-length}
use Rattle.state.specs.declared.panel.Panel.{Panel}
use Rattle.controller.specs.Access.{Pair}
use Rattle.writer.specs.Stream.{datum, block, graphic_home, row_blocks}
use Rattle.codes.specs.declared.pair.Pair.{Pair as Kinded}
use Rattle.single.specs.Outcome.{pair_of}
use Rattle.writer.specs.declared.put.Stream.{Stream}
use Rattle.writer.specs.Put.{Puts, RoomFor}
use Rattle.writer.proofs.Puts.{Putting, putting, put_on, put-over}

-- before turn i of n, of k pairs each, with the pairs of `left i` still to be put
pub record Looping (a : Stream) (n k : ℕ) (left : ℕ → List Pair) (b : Stream) (i : ℕ) : Type 0 where
  pub paced : b.at ≡ a.at + 2 * (i * k)
  pub puts : Putting a (left 0) b (left i)

pub looping : (a : Stream) (n k : ℕ) (left : ℕ → List Pair) → Looping a n k left a 0
looping a n k left = record { paced = omega arith; puts = putting a (left 0) }

module _ {a b : Stream} {n k : ℕ} {left : ℕ → List Pair} {i : ℕ} (x : Looping a n k left b i) where
  pub loop-room : i < n → RoomFor (n * k) a → RoomFor k b
  loop-room h r = omega (arith, mul-le-mul_right k h, x.puts.kept, x.paced)

  pub loop-on : {c : Stream} {qs : List Pair} → left i ≡ qs ++ left (i + 1) → length qs ≡ k → Puts b qs c → Looping a n k left c (i + 1)
  loop-on l m y =
      record {
        paced = omega (arith, x.paced, y.ends, m);
        puts = put_on (rw l at x.puts) y;
      }

  pub loop-over : {ps : List Pair} → i ≡ n → left n ≡ [] → left 0 ≡ ps → Puts a ps b
  loop-over e l m = put-over (rw (m, e, l) at x.puts)

-- bytes from a list
abbrev pub bytes_left : List ℕ → ℕ → List Pair
bytes_left bytes i = map datum (drop i bytes)

pub bytes_next : (bytes : List ℕ) (i : ℕ) → i < length bytes → bytes_left bytes i ≡ (datum (get_or bytes i 0) ∷ []) ++ bytes_left bytes (i + 1)
bytes_next bytes i l = let e : i + 1 ≡ suc i = omega arith in rw (e, drop-cons bytes i 0 l)

pub bytes-none : (bytes : List ℕ) → bytes_left bytes (length bytes) ≡ []
bytes-none bytes = rw (drop-length bytes)

-- pairs from a list
abbrev pub pairs_left : List Kinded → ℕ → List Pair
pairs_left pairs i = map pair_of (drop i pairs)

pub pairs_next : (pairs : List Kinded) (i : ℕ) (q : Kinded) → i < length pairs → pairs_left pairs i ≡ (pair_of (get_or pairs i q) ∷ []) ++ pairs_left pairs (i + 1)
pairs_next pairs i q l = let e : i + 1 ≡ suc i = omega arith in rw (e, drop-cons pairs i q l)

pub pairs-none : (pairs : List Kinded) → pairs_left pairs (length pairs) ≡ []
pairs-none pairs = rw (drop-length pairs)

-- one byte n times
abbrev pub fill_left : ℕ → ℕ → ℕ → List Pair
fill_left byte n i = map datum (replicate (n - i) byte)

pub fill-next : (byte n i : ℕ) → i < n → fill_left byte n i ≡ (datum byte ∷ []) ++ fill_left byte n (i + 1)
fill-next byte n i l = let a : n - i ≡ suc (n - (i + 1)) = omega arith in rw a

pub fill_none : (byte n : ℕ) → fill_left byte n n ≡ []
fill_none byte n = let a : n - n ≡ 0 = omega arith in rw a

pub fill-all : (byte n : ℕ) → fill_left byte n 0 ≡ map datum (replicate n byte)
fill-all byte n = let a : n - 0 ≡ n = omega arith in rw a

-- the rows of a rectangle
abbrev pub rows_left : Panel → ℕ → ℕ → ℕ → ℕ → ℕ → ℕ → List Pair
rows_left p top column height width value i = row_blocks p (top + i) column (height - i) width value

module _ (p : Panel) (top column height width value : ℕ) where
  pub rows_next : (i : ℕ) → i < height
      → rows_left p top column height width value i
      ≡ block (graphic_home + ((top + i) * p.columns + column)) (replicate width value) ++ rows_left p top column height width value (i + 1)
  unfolding row_blocks
  rows_next i l =
      let a : height - i ≡ suc (height - (i + 1)) = omega arith in
      let b : suc (top + i) ≡ top + (i + 1) = omega arith in
      rw (a, b)

  pub rows_none : rows_left p top column height width value height ≡ []
  unfolding row_blocks
  rows_none = let a : height - height ≡ 0 = omega arith in rw a

  pub rows_all : rows_left p top column height width value 0 ≡ row_blocks p top column height width value
  rows_all =
      let a : height - 0 ≡ height = omega arith in
      let b : top + 0 ≡ top = omega arith in
      rw (a, b)
