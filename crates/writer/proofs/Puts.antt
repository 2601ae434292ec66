-- The laws of pairs put into a room: one after the other, and by a loop.
use mathlib.Core.Path.{◌≡◌, refl, sym, ap, ap₂, ◌∙◌}
use mathlib.Core.List.{List, [], ◌∷◌, ◌++◌, map}
use Prim.Native.Nat.{ℕ, suc, ◌+◌, ◌*◌, ◌/◌, ◌%◌}
use native.Mathlib.Nat.{add-suc, suc-add, add-zero, mul_assoc}
use native.Mathlib.Omega.{arith}
use lib.ListN.{length, set, replicate, length-append}
use lib.Seq.{sets}
use Rattle.controller.specs.Access.{Pair}
use Rattle.controller.specs.Run.{log_of}
use Rattle.controller.proofs.Logs.{log-append, log-length}
use Rattle.ground.specs.Lists.{zeros}
use Rattle.state.specs.declared.panel.Panel.{Panel}
use Rattle.writer.specs.Stream.{datum, code, point_to, block, graphic_home, text_home, glyph_home, set_up, opening}
use Rattle.writer.specs.declared.put.Stream.{Stream}
use Rattle.writer.specs.Put.{Puts}

sets-append : (xs ys l : List ℕ) (i : ℕ) → sets (sets l i xs) (i + length xs) ys ≡ sets l i (xs ++ ys)
sets-append [] ys l i = rw add-zero
sets-append (x ∷ xs) ys l i = rw (add-suc, ← suc-add) (sets-append xs ys (set l i x) (suc i))

pub put_both : {a b c : Stream} {ps qs : List Pair} → Puts a ps b → Puts b qs c → Puts a (ps ++ qs) c
put_both {a} {b} {c} {ps} {qs} x y =
    let k : b.at ≡ a.at + length (log_of ps) = x.ends ∙ ap (λ (n : ℕ). a.at + n) (sym (log-length ps)) in
    record {
      holds = y.holds
          ∙ ap₂ (λ l n. sets l n (log_of qs)) x.holds k
          ∙ sets-append (log_of ps) (log_of qs) a.room.now a.at
          ∙ ap (λ (l : List ℕ). sets a.room.now a.at l) (sym (log-append ps qs));
      ends = simp length-append (omega (arith, x.ends, y.ends));
      kept = y.kept ∙ x.kept;
      same_room = y.same_room ∙ x.same_room;
    }

-- pointer set, B0H, the bytes, B2H
pub put-block : {a b c d e : Stream} (at : ℕ) (bytes : List ℕ) → Puts a (datum (at % 256) ∷ datum (at / 256) ∷ code 0x24 ∷ []) b
    → Puts b (code 0xb0 ∷ []) c → Puts c (map datum bytes) d → Puts d (code 0xb2 ∷ []) e → Puts a (block at bytes) e
unfolding block point_to
put-block at bytes x y z w = put_both x (put_both y (put_both z w))

-- pairs that were computed
pub put-pairs-as : {a b : Stream} {ps qs : List Pair} → ps ≡ qs → Puts a ps b → Puts a qs b
put-pairs-as h x = rw h at x

-- a code that was computed
pub put_as : {a b : Stream} {k l : ℕ} → k ≡ l → Puts a (code k ∷ []) b → Puts a (code l ∷ []) b
put_as h x = rw h at x

-- a word or an address that was computed
pub put-word-as : {a b : Stream} {k l n : ℕ} → k ≡ l
    → Puts a (datum (k % 256) ∷ datum (k / 256) ∷ code n ∷ []) b → Puts a (datum (l % 256) ∷ datum (l / 256) ∷ code n ∷ []) b
put-word-as h x = rw h at x

pub put-block-as : {a b : Stream} {k l : ℕ} (bytes : List ℕ) → k ≡ l → Puts a (block k bytes) b → Puts a (block l bytes) b
put-block-as bytes h x = rw h at x

module _ (p : Panel) where
  put-zeros : {a b : Stream} (at n : ℕ) → Puts a (block at (replicate n 0)) b → Puts a (block at (zeros n)) b
  unfolding zeros
  put-zeros at n x = x

  -- the registers set, three areas cleared
  pub put-opening : {a b c d e : Stream} → Puts a (set_up p) b → Puts b (block graphic_home (replicate (8 * (p.lines * p.columns)) 0)) c
      → Puts c (block (text_home p) (replicate (p.lines * p.columns) 0)) d → Puts d (block glyph_home (replicate 1024 0)) e → Puts a (opening p) e
  unfolding opening
  put-opening x y z w =
      let e : 8 * (p.lines * p.columns) ≡ 8 * p.lines * p.columns = omega (arith, mul_assoc 8 p.lines p.columns) in
      put_both x (put_both (rw e at (put-zeros graphic_home (8 * (p.lines * p.columns)) y)) (put_both (put-zeros (text_home p) (p.lines * p.columns) z) (put-zeros glyph_home 1024 w)))

-- with qs still to be put, the stream b comes to the stream a with all of ps
pub record Putting (a : Stream) (ps : List Pair) (b : Stream) (qs : List Pair) : Type 0 where
  pub rest : sets b.room.now b.at (log_of qs) ≡ sets a.room.now a.at (log_of ps)
  pub places : b.at + 2 * length qs ≡ a.at + 2 * length ps
  pub kept : length b.room.now ≡ length a.room.now
  pub same_room : b.room.ghost_name ≡ a.room.ghost_name

pub putting : (a : Stream) (ps : List Pair) → Putting a ps a ps
putting a ps = record { rest = refl; places = refl; kept = refl; same_room = refl }

pub put_on : {a b c : Stream} {ps qs rs : List Pair} → Putting a ps b (qs ++ rs) → Puts b qs c → Putting a ps c rs
put_on {a} {b} {c} {ps} {qs} {rs} f x =
    let k : c.at ≡ b.at + length (log_of qs) = x.ends ∙ ap (λ (n : ℕ). b.at + n) (sym (log-length qs)) in
    record {
      rest = ap₂ (λ l n. sets l n (log_of rs)) x.holds k
          ∙ sets-append (log_of qs) (log_of rs) b.room.now b.at
          ∙ ap (λ (l : List ℕ). sets b.room.now b.at l) (sym (log-append qs rs))
          ∙ f.rest;
      places = omega (arith, f.places, x.ends, length-append qs rs);
      kept = x.kept ∙ f.kept;
      same_room = x.same_room ∙ f.same_room;
    }

pub put-over : {a b : Stream} {ps : List Pair} → Putting a ps b [] → Puts a ps b
unfolding log_of
put-over f = record { holds = f.rest; ends = omega (arith, f.places); kept = f.kept; same_room = f.same_room }
