-- What the write program gives, from what writing and printing answered.
use mathlib.Core.Path.{◌≡◌, refl, ap, sym, ◌∙◌}
use mathlib.Core.Bool.{Bool, true, false, cond, not, ◌&&◌}
use mathlib.Core.List.{List, [], ◌∷◌, ◌++◌, append-nil}
use Prim.Native.Nat.{ℕ, suc, ◌+◌, ◌-◌, ◌*◌, ◌≤◌}
use native.Mathlib.Omega.{arith}
use lib.Dec.{ltb, eqb}
use lib.ListN.{length, get_or, set, take, drop, length-drop, take-append-drop, drop_of_length-le}
use lib.Seq.{sets, sets-eq, drop-drop, take_all}
use borrow.Author.Tests.{eqb-true, eq-eqb, le-ltb}
use Rattle.ground.proofs.Tests.{both_left, both_right, settled}
use Rattle.state.specs.declared.panel.Panel.{Panel}
use Rattle.state.specs.State.{valid_panel}
use Rattle.controller.specs.Run.{log_of}
use Rattle.controller.proofs.Logs.{log-length}
use Rattle.book.specs.Operation.{Operation}
use Rattle.contents.specs.Contents.{word_at}
use Rattle.book.specs.Screen.{Screen, screen, refused, screen_of}
use Rattle.writer.specs.Stream.{stream_of, count_of}
use Rattle.writer.specs.Written.{Written, Wrote, wrote, wrote_all, write_screen, write_of}
use Rattle.writer.proofs.Lengths.{stream-length}
use Rattle.writer.proofs.Answers.{Streamed, write-accepted}
use Rattle.printed.specs.Printed.{panel_in, refusal_line, printed, print_text}
use Rattle.printed.specs.Screen.{picture_text, print_picture_of}
use Rattle.printed.proofs.Screens.{line-alone, may-print}
use Rattle.printed.proofs.Texts.{printed-within}
use Rattle.write.specs.Writing.{Lengths, Given, refusal_alone, written, write_given, Both, given_in, both_of, write_given_of}

-- a refusal's line is what a picture's text comes to
pub refusal-put : (p : Panel) {number : ℕ} (place : ℕ) (frame error : List ℕ) → (number ≡ 0 → ⊥) → length error ≡ 196608 → {w : ℕ} {b : List ℕ}
    → printed w b ≡ print_picture_of p number place frame error → printed w b ≡ print_text true (refusal_line number place) error
unfolding print_picture_of picture_text
refusal-put p {number} place frame error nz l h =
    h
    ∙ (λ i. print_text (may-print p number frame (λ z. absurd (nz z)) i && eq-eqb (length error) 196608 l i) (line-alone p number frame (refusal_line number place) nz i) error)

-- the panel's bytes before what the room then holds
headed : (out l : List ℕ) (a b c : ℕ) → 3 ≤ length out → set (set (set (take 3 out ++ l) 0 a) 1 b) 2 c ≡ a ∷ b ∷ c ∷ l
headed [] l a b c h = absurd (omega arith)
headed (x ∷ []) l a b c h = absurd (omega arith)
headed (x ∷ y ∷ []) l a b c h = absurd (omega arith)
headed (x ∷ y ∷ z ∷ r) l a b c h = refl

-- over plain values
abbrev plain : Panel → List ℕ → ℕ → Given
plain p book number = written p (cond (valid_panel p) (screen_of p book number) (refused 1 0))

abbrev lent : List ℕ → List ℕ → Bool
lent out error = eqb (length out) 2097155 && eqb (length error) 196608

-- the lengths tested
pub record Rooms (out error : List ℕ) : Type 0 where
  pub output : length out ≡ 2097155
  pub line : length error ≡ 196608
  pub stream : length (drop 3 out) ≡ 2097152

open_is : (t : Bool) → not t ≡ false → t ≡ true
open_is true h = refl
open_is false h = sym h

shut-is : (t : Bool) → not t ≡ true → t ≡ false
shut-is true h = sym h
shut-is false h = refl

pub rooms : (out error : List ℕ) → not (lent out error) ≡ false → Rooms out error
rooms out error h =
    let e = open_is (lent out error) h in
    let l : length out ≡ 2097155 = eqb-true (length out) 2097155 (both_left _ (eqb (length error) 196608) e) in
    record { output = l; line = eqb-true (length error) 196608 (both_right (eqb (length out) 2097155) _ e); stream = rw length-drop (omega arith) }

-- a room of another length
pub given-none : (dual : Bool) (input out error : List ℕ) → not (lent out error) ≡ true → given_in (record { output = 0; error = 0; number = 2 }) out error ≡ write_given_of dual input out error
unfolding write_given_of
given-none dual input out error h = λ i. both_of (sym (shut-is (lent out error) h) i) (write_given dual input) out error

-- the room lent behind the panel's bytes, and the whole when it is back
abbrev lent_room : List ℕ → List ℕ
lent_room out = take (length out - 3) (drop 3 out)

abbrev back : List ℕ → List ℕ → List ℕ
back out after = take 3 out ++ (after ++ drop (length out - 3) (drop 3 out))

room-is : (out : List ℕ) → lent_room out ≡ drop 3 out
room-is out = take_all (length out - 3) (drop 3 out) (rw length-drop (omega arith))

back_is : (out after : List ℕ) → back out after ≡ take 3 out ++ after
back_is out after =
    ap (λ (l : List ℕ). take 3 out ++ (after ++ l)) (drop_of_length-le (drop 3 out) {i = length out - 3} (rw length-drop (omega arith)))
    ∙ ap (λ (l : List ℕ). take 3 out ++ l) (append-nil after)

module _ (dual : Bool) (input out error : List ℕ) (h : not (lent out error) ≡ false) {p : Panel} {number : ℕ} {book : List ℕ} (i : p ≡ panel_in dual input) (j : number ≡ word_at input 3)
    (k : book ≡ drop 5 input) {r : Written} {after : List ℕ} (v : wrote_all r after ≡ write_of p book number (lent_room out)) where
  w : wrote_all r after ≡ write_of p book number (drop 3 out)
  w = v ∙ ap (write_of p book number) (room-is out)

  of-input : both_of true (plain p book number) out error ≡ write_given_of dual input out error
  unfolding write_given_of write_given
  of-input =
      λ q. both_of (sym (open_is (lent out error) h) q) (written (i q) (cond (valid_panel (i q)) (screen_of (i q) (k q) (j q)) (refused 1 0))) out error

  -- a screen that is not written leaves its room, and its refusal is the one that is printed
  refusal_is : (r.number ≡ 0 → ⊥) → (after ≡ drop 3 out) × (refusal_alone r.number r.place ≡ plain p book number)
  unfolding write_of
  refusal_is nz = go (valid_panel p) (screen_of p book number) w
    where
      from : (n place : ℕ) → wrote_all r after ≡ wrote n place 0 (drop 3 out) → (after ≡ drop 3 out) × (refusal_alone r.number r.place ≡ refusal_alone n place)
      from n place e = (ap (λ (o : Wrote). o.room) e, ap (λ (o : Wrote). refusal_alone o.written.number o.written.place) e)

      by-room : (os : List Operation) (t : Bool)
          → wrote_all r after ≡ cond t (wrote 12 (count_of p os) 0 (drop 3 out)) (wrote 0 0 (count_of p os) (sets (drop 3 out) 0 (log_of (stream_of p os))))
          → (after ≡ drop 3 out)
          × (refusal_alone r.number r.place
          ≡ cond t (refusal_alone 12 (count_of p os)) (record { output = p.columns ∷ p.lines ∷ p.width ∷ log_of (stream_of p os); error = []; number = 0 }))
      by-room os true e = from 12 (count_of p os) e
      by-room os false e = absurd (nz (ap (λ (o : Wrote). o.written.number) e))

      go : (v : Bool) (s : Screen) → wrote_all r after ≡ cond v (write_screen p (drop 3 out) s) (wrote 1 0 0 (drop 3 out))
          → (after ≡ drop 3 out) × (refusal_alone r.number r.place ≡ written p (cond v s (refused 1 0)))
      go false s e = from 1 0 e
      go true (refused n place) e = from n place e
      go true (screen os) e =
          let x = by-room os (ltb (length (drop 3 out)) (2 * count_of p os)) e in (
            x.0,
            x.1
                ∙ ap (λ (m : ℕ). cond (ltb m (2 * count_of p os)) (refusal_alone 12 (count_of p os)) (record { output = p.columns ∷ p.lines ∷ p.width ∷ log_of (stream_of p os); error = []; number = 0 }))
                (rooms out error h).stream,
          )

  pub given-refused : (r.number ≡ 0 → ⊥) → {n : ℕ} {b : List ℕ} → printed n b ≡ print_text true (refusal_line r.number r.place) error
      → given_in (record { output = 0; error = n; number = r.number }) (back out after) b ≡ write_given_of dual input out error
  given-refused nz x =
      let e = refusal_is nz in
      (λ q. record { output = printed 0 ((back_is out after ∙ ap (λ (l : List ℕ). take 3 out ++ l) e.0 ∙ take-append-drop 3 out) q); error = x q; number = r.number })
      ∙ (λ q. both_of true (e.1 q) out error)
      ∙ of-input

  -- a screen that is written: its stream behind the panel's bytes
  module _ (z : r.number ≡ 0) where
    accepted : Streamed p book number (drop 3 out) r after
    accepted = write-accepted p book number (drop 3 out) w z

    abbrev stream : List ℕ
    stream = log_of (stream_of p accepted.os)

    stream-long : length stream ≡ 2 * r.pairs
    stream-long =
        log-length (stream_of p accepted.os) ∙ ap (λ (n : ℕ). 2 * n) (stream-length p book number accepted.whole ∙ sym accepted.pairs)

    pub pairs-few : r.pairs ≤ 1048576
    pairs-few = omega (arith, accepted.fits, (rooms out error h).stream)

    holds : after ≡ stream ++ drop (3 + length stream) out
    holds =
        let n : 0 + length stream ≡ length stream = omega arith in
        accepted.holds ∙ sets-eq stream (drop 3 out) 0 (omega (arith, stream-long, accepted.fits))
        ∙ ap (λ (m : ℕ). stream ++ drop m (drop 3 out)) n ∙ ap (λ (l : List ℕ). stream ++ l) (drop-drop (length stream) 3 out)

    written_is : record { output = p.columns ∷ p.lines ∷ p.width ∷ stream; error = []; number = 0 } ≡ plain p book number
    written_is =
        (λ q. cond (sym (le-ltb 2097152 (2 * count_of p accepted.os) (omega (arith, accepted.fits, (rooms out error h).stream, count))) q) (refusal_alone 12 (count_of p accepted.os)) (record { output = p.columns ∷ p.lines ∷ p.width ∷ stream; error = []; number = 0 }))
        ∙ ap (written p) (sym accepted.whole)
        ∙ ap (λ (t : Bool). written p (cond t (screen_of p book number) (refused 1 0))) (sym accepted.valid)
      where
        count : count_of p accepted.os ≡ r.pairs
        count = sym accepted.pairs

    pub given-written : {a b c : ℕ} → a ≡ get_or input 0 0 → b ≡ get_or input 1 0 → c ≡ get_or input 2 0
        → given_in (record { output = 3 + 2 * r.pairs; error = 0; number = 0 }) (set (set (set (back out after) 0 a) 1 b) 2 c) error ≡ write_given_of dual input out error
    given-written {a} {b} {c} x y s =
        let n : 3 + 2 * r.pairs ≡ suc (suc (suc (length stream))) = omega (arith, stream-long) in
        let m : 3 + length stream ≡ suc (suc (suc (length stream))) = omega arith in
        let column : a ≡ p.columns = x ∙ ap (λ (g : Panel). g.columns) (sym i) in
        let line : b ≡ p.lines = y ∙ ap (λ (g : Panel). g.lines) (sym i) in
        let wide : c ≡ p.width = s ∙ ap (λ (g : Panel). g.width) (sym i) in
        (λ q. record {
          output = printed (n q) ((ap (λ (l : List ℕ). set (set (set l 0 a) 1 b) 2 c) (back_is out after) ∙ headed out after a b c (omega (arith, (rooms out error h).output))
              ∙ (λ u. column u ∷ line u ∷ wide u ∷ holds u) ∙ ap (λ (k : ℕ). p.columns ∷ p.lines ∷ p.width ∷ (stream ++ drop k out)) m) q);
          error = printed 0 error;
          number = 0;
        })
        ∙ (λ q. both_of true (written_is q) out error)
        ∙ of-input

module _ (dual : Bool) (input out error : List ℕ) {n : Lengths} {b c : List ℕ} (h : given_in n b c ≡ write_given_of dual input out error) where
  -- what is given stands in its rooms
  pub output-within : n.output ≤ length b
  unfolding write_given_of
  output-within = printed-within (lent out error) (write_given dual input).output out (ap (λ (o : Both). o.output) h)

  pub error-within : n.error ≤ length c
  unfolding write_given_of
  error-within = printed-within (lent out error) (write_given dual input).error error (ap (λ (o : Both). o.error) h)

-- two replies that meet the promise are equal
pub write-both-settled : {n k : Lengths} {b c d e : List ℕ} (dual : Bool) (input out error : List ℕ) → given_in n b c ≡ write_given_of dual input out error
    → given_in k d e ≡ write_given_of dual input out error → (n ≡ k) × (b ≡ d) × (c ≡ e)
write-both-settled dual input out error h k =
    let s = settled h k in
    ((λ i. record { output = (s i).output.count; error = (s i).error.count; number = (s i).number }), ap (λ (o : Both). o.output.out) s, ap (λ (o : Both). o.error.out) s)
