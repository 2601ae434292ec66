-- What the input gives, what a run's text rests on, and the whole text.
use mathlib.Core.Path.{◌≡◌, refl, ap, sym, subst, ◌∙◌}
use mathlib.Core.Bool.{Bool, true, false, cond, ◌&&◌, ◌||◌}
use mathlib.Core.List.{List, ◌++◌, append-nil}
use Prim.Native.Nat.{ℕ, ◌+◌, ◌-◌, ◌*◌, ◌/◌, ◌%◌, ◌≤◌}
use native.Mathlib.Omega.{arith}
use lib.Dec.{leb, eqb}
use lib.ListN.{length, take, drop, length-drop, drop_of_length-le}
use lib.Seq.{take_all, length-take-le}
use borrow.Author.Tests.{le-leb, eq-eqb, ne_eqb, eqb-false}
use Rattle.ground.specs.Lists.{zeros}
use Rattle.ground.specs.Packing.{row_bytes}
use Rattle.ground.proofs.Tests.{both, both_left}
use Rattle.state.specs.State.{valid_panel, valid_registers, reset_registers}
use Rattle.display.specs.Frame.{frame_of, lent_lengths, frame_fits, painted, Painted, paint_of, reply_of}
use Rattle.display.proofs.Painted.{paint-length}
use Rattle.state.specs.Sizes.{frame_size, valid_size}
use Rattle.state.proofs.Sizes.{is-size}
use Rattle.state.proofs.Valid.{Panelled, panelled}
use Rattle.controller.specs.Types.{Panel, Registers}
use Rattle.state.specs.Replies.{Reply}
use Rattle.controller.specs.declared.run.Ran.{Ran}
use Rattle.controller.specs.Access.{step_of}
use Rattle.controller.specs.Run.{pairs_of, run_from, RanAll, ran_all, ran_of, ran_none, stopping_of}
use Rattle.controller.specs.Ready.{standing}
use Rattle.controller.proofs.Laws.{Sounds, sounds, sounds-valid}
use Rattle.controller.proofs.Goings.{Kept}
use Rattle.controller.proofs.Splitting.{running-kept}
use Rattle.printed.specs.declared.told.Told.{Told}
use Rattle.printed.specs.Put.{TextPut}
use Rattle.printed.specs.Printed.{panel_in, characters, frame_lines, printed, Reported, reported}
use Rattle.printed.specs.Parts.{print_line_of, print_answers_of, print_rows_of}
use Rattle.log_program.specs.Printing.{log_in, ran_in, text_of, log_text, ran_line, print_of}
use Rattle.printed.specs.Text.{hex_lines}
use Rattle.log_program.specs.Ready.{FrameReady, TextReady}
use Rattle.printed.proofs.Puts.{put_same, put_both, put-length, put-behind, put-before}
use Rattle.printed.proofs.Prints.{zeros-length, lines-few, hex-lines-length, frame-lines-length}
use Rattle.printed.proofs.Texts.{printed-none, printed-all, printed-put, printed-few, printed-within, reported-settled}

-- past the doors a painting is the frame
pub drawn : {p : Panel} {r : Registers} {mem rom frame out : List ℕ} {at : ℕ} → FrameReady p r mem rom frame out at
    → {x : Painted} → x ≡ paint_of p r mem rom frame → x.frame ≡ frame_of p r.display mem rom
unfolding paint_of
drawn {p} {r} {mem} {rom} {frame} d h =
    ap (λ (o : Painted). o.frame) h
    ∙ (λ k. (cond (d.valid k)
    (cond (both d.lent (eq-eqb (length frame) (8 * p.lines * row_bytes p.columns p.width) d.sized) k) (painted (reply_of 0) (frame_of p r.display mem rom)) (painted (reply_of 2) frame))
    (painted (reply_of 1) frame)).frame)

-- a text printed into a part of a room stands in the room; all that is behind a place, lent and put back
module _ (a : List ℕ) (n : ℕ) (h : n ≤ length a) where
  rest-lent : take (length a - n) (drop n a) ≡ drop n a
  rest-lent = take_all (length a - n) (drop n a) (rw length-drop (omega arith))

  rest_put : (b : List ℕ) {w : ℕ} {xs : List ℕ} → TextPut a n xs (take n a ++ b) w → TextPut a n xs (take n a ++ (b ++ drop (length a - n) (drop n a))) w
  rest_put b {w} {xs} x =
      subst (λ (l : List ℕ). TextPut a n xs (take n a ++ l) w)
      (sym (ap (λ (l : List ℕ). b ++ l) (drop_of_length-le (drop n a) {i = length a - n} (rw length-drop (omega arith))) ∙ append-nil b)) x

module _ {a b : List ℕ} {w : ℕ} where
  pub line-put : (n : ℕ) (r : Ran) → 112 ≡ n → n ≤ length a → printed w b ≡ print_line_of r.taken r.answers r.number r.place (take n a) → length b ≡ length (take n a)
      → TextPut a 0 (ran_line r) (b ++ drop n a) w
  unfolding print_line_of
  line-put n r m h e k =
      let l = length-take-le n a h in
      let t = le-leb 112 (length (take n a)) (omega arith) in
      let few = printed-few (leb 112 (length (take n a))) (ran_line r) (take n a) t e k in
      put-before n (omega arith) h (printed-put (leb 112 (length (take n a))) (ran_line r) (take n a) t few e)

  pub answers-put : (given at : ℕ) (answers : List ℕ) → at + 3 * given ≤ length a → given ≤ length answers → printed w b ≡ print_answers_of given answers (take (length a - at) (drop at a))
      → TextPut a at (hex_lines given answers) (take at a ++ (b ++ drop (length a - at) (drop at a))) (at + w)
  unfolding print_answers_of
  answers-put given at answers h k e =
      let l = length-drop at a in
      let s = hex-lines-length given answers in
      let f = e ∙ ap (print_answers_of given answers) (rest-lent a at (omega arith)) in
      rest_put a at (omega arith) b
      (put-behind at (omega arith)
      (printed-put (leb given (length answers) && leb given (length (drop at a) / 3)) (hex_lines given answers) (drop at a)
      (both (le-leb given (length answers) k) (le-leb given (length (drop at a) / 3) (omega arith))) (omega arith) f))

  pub frame-put : {p : Panel} {r : Registers} {mem rom frame : List ℕ} {at : ℕ} → FrameReady p r mem rom frame a at
      → {x : Reply} {after : List ℕ} → painted x after ≡ paint_of p r mem rom frame → printed w b ≡ print_rows_of p after (take (length a - at) (drop at a))
      → TextPut a at (frame_lines p (frame_of p r.display mem rom)) (take at a ++ (b ++ drop (length a - at) (drop at a))) (at + w)
  unfolding print_rows_of
  frame-put {p} {r} {mem} {rom} {frame} {at} d {x} {after} h e =
      let f : after ≡ frame_of p r.display mem rom = drawn d h in
      let l : length after ≡ length frame = ap (λ (o : Painted). length o.frame) h ∙ paint-length p r mem rom frame in
      let v : valid_panel p ≡ true = both_left (valid_panel p) (valid_registers r) d.valid in
      let fits : frame_fits p after ≡ true = eq-eqb (length after) (8 * p.lines * row_bytes p.columns p.width) (l ∙ d.sized) in
      let s = length-drop at a in
      let n = frame-lines-length p after in
      let few = lines-few p (panelled p v) in
      let g = e ∙ ap (print_rows_of p after) (rest-lent a at (omega (arith, d.room))) in
      rest_put a at (omega (arith, d.room)) b
      (put_same (ap (frame_lines p) f)
      (put-behind at (omega (arith, d.room))
      (printed-put (valid_panel p && frame_fits p after && leb 164096 (length (drop at a))) (frame_lines p after) (drop at a)
      (both (both v fits) (le-leb 164096 (length (drop at a)) (omega (arith, d.room)))) (omega (arith, d.room)) g)))

-- what a run from a sound state came to
pub record Came (p : Panel) (e : RanAll) : Type 0 where
  pub given : e.ran.answers ≤ length e.answers
  pub valid : eqb e.ran.number 1 ≡ false → (valid_panel p && valid_registers e.ran.registers) ≡ true

module _ (p : Panel) (r : Registers) (mem rom log : List ℕ) (limit : ℕ) (answers : List ℕ) (v : valid_registers r ≡ true) (long : length mem ≡ 65536) where
  kept : Kept Sounds (run_from (step_of p rom) 0 (take limit (pairs_of log)) (standing r mem answers 0))
  kept = running-kept p rom (take limit (pairs_of log)) 0 (standing r mem answers 0) (sounds r mem v long) (omega arith)

  pub run-came : Came p (stopping_of p r mem rom log limit answers)
  unfolding stopping_of
  run-came = go (valid_panel p && valid_registers r) (lent_lengths mem rom) (eqb (length log % 2) 0) refl
    where
      go : (a b c : Bool) → (valid_panel p && valid_registers r) ≡ a
          → Came p (cond a (cond b (cond c (ran_of (run_from (step_of p rom) 0 (take limit (pairs_of log)) (standing r mem answers 0))) (ran_none 8 (length log / 2) r mem answers)) (ran_none 2 0 r mem answers)) (ran_none 1 0 r mem answers))
      go true true true i =
          record { given = kept.within; valid = λ _. both (both_left (valid_panel p) (valid_registers r) i) (sounds-valid kept.sound) }
      go true true false i = record { given = omega arith; valid = λ _. i }
      go true false c i = record { given = omega arith; valid = λ _. i }
      go false b c i = record { given = omega arith; valid = λ h. absurd (eqb-false 1 1 h refl) }

-- a run's text, with and without answers and frame
module _ (p : Panel) (rom : List ℕ) (e : RanAll) {a b : List ℕ} {w : ℕ} where
  pub text-short : (eqb e.ran.number 1 || eqb e.ran.number 8) ≡ true → TextPut a 0 (ran_line e.ran) b w → TextPut a 0 (text_of p rom e) b w
  unfolding text_of
  text-short h x =
      put_same (λ k. cond (sym h k) (ran_line e.ran) (ran_line e.ran ++ hex_lines e.ran.answers e.answers ++ frame_lines p (frame_of p e.ran.registers.display e.memory rom))) x

  pub text-long : (eqb e.ran.number 1 || eqb e.ran.number 8) ≡ false
      → {c d : List ℕ} {j k : ℕ} → TextPut a 0 (ran_line e.ran) c j → TextPut c j (hex_lines e.ran.answers e.answers) d k
      → TextPut d k (frame_lines p (frame_of p e.ran.registers.display e.memory rom)) b w → TextPut a 0 (text_of p rom e) b w
  unfolding text_of
  text-long h x y z =
      put_same (λ k. cond (sym h k) (ran_line e.ran) (ran_line e.ran ++ hex_lines e.ran.answers e.answers ++ frame_lines p (frame_of p e.ran.registers.display e.memory rom)))
      (put_both (put_both x y) z)

-- the run of the input's log
pub ran-is : (input : List ℕ) {p : Panel} {r : Registers} {mem rom log answers : List ℕ} {e : RanAll} → p ≡ panel_in false input → r ≡ reset_registers → mem ≡ zeros 65536
    → rom ≡ characters → log ≡ log_in input → answers ≡ zeros 8192 → e ≡ stopping_of p r mem rom log (length log / 2) answers → e ≡ ran_in input
unfolding ran_in
ran-is input i j m c l a e = e ∙ (λ k. stopping_of (i k) (j k) (m k) (c k) (l k) (length (l k) / 2) (a k))

pub ran-came : (input : List ℕ) → Came (panel_in false input) (ran_in input)
unfolding ran_in
ran-came input =
    run-came (panel_in false input) reset_registers (zeros 65536) characters (log_in input) (length (log_in input) / 2) (zeros 8192) refl (zeros-length 65536)

-- the rooms that a run has left
pub record Rooms (mem rom answers frame out : List ℕ) : Type 0 where
  pub memory : length mem ≡ 65536
  pub characters : length rom ≡ 1024
  pub answered : length answers ≡ 8192
  pub framed : length frame ≡ 20480
  pub roomy : length out ≡ 196608

-- the run's text may be written
pub ready : (input : List ℕ) {p : Panel} {a : Ran} {mem rom answers frame out : List ℕ} → p ≡ panel_in false input → ran_all a mem answers ≡ ran_in input
    → Rooms mem rom answers frame out → TextReady p a mem rom answers frame out
ready input {p} {a} {mem} {rom} {answers} i e l =
    let came : Came p (ran_all a mem answers) = subst (λ (q : Panel). Came q (ran_all a mem answers)) (sym i) (subst (λ (o : RanAll). Came (panel_in false input) o) (sym e) (ran-came input)) in
    record {
      valid = came.valid;
      lent = both (eq-eqb (length mem) 65536 l.memory) (eq-eqb (length rom) 1024 l.characters);
      given = came.given;
      answered = l.answered;
      framed = l.framed;
      roomy = l.roomy;
    }

module _ (input out : List ℕ) where
  pub print-none : (length out ≡ 196608 → ⊥) → reported (record { count = 0; number = 2 }) out ≡ print_of input out
  unfolding print_of
  print-none h =
      let e = ne_eqb (length out) 196608 h in
      λ k. record { text = printed-none (eqb (length out) 196608) (log_text input) out e k; number = cond (sym e k) (ran_in input).ran.number 2 }

  pub print-all : length out ≡ 196608 → {p : Panel} {c : List ℕ} {e : RanAll} → p ≡ panel_in false input → c ≡ characters → e ≡ ran_in input
      → {b : List ℕ} {w : ℕ} → TextPut out 0 (text_of p c e) b w → w ≤ 196608 → reported (record { count = w; number = e.ran.number }) b ≡ print_of input out
  unfolding print_of log_text
  print-all h i j l x s =
      let r = eq-eqb (length out) 196608 h in
      let t = printed-all (eqb (length out) 196608) (log_text input) out r (put_same (λ k. text_of (i k) (j k) (l k)) x) (omega arith) in
      let n = ap (λ (o : RanAll). o.ran.number) l ∙ (λ k. cond (sym r k) (ran_in input).ran.number 2) in
      λ k. record { text = t k; number = n k }

  -- the text stands in its room
  pub print-within : {t : Told} {b : List ℕ} → reported t b ≡ print_of input out → t.count ≤ length b
  unfolding print_of
  print-within h = printed-within (eqb (length out) 196608) (log_text input) out (ap (λ (o : Reported). o.text) h)

-- not refused by 1
pub not_first : (a b : Bool) → (a || b) ≡ false → a ≡ false
not_first true b e = e
not_first false b e = refl

module _ (p : Panel) (a : Ran) {mem rom answers frame out : List ℕ} (k : TextReady p a mem rom answers frame out) (h : (eqb a.number 1 || eqb a.number 8) ≡ false) where
  pub ready-valid : (valid_panel p && valid_registers a.registers) ≡ true
  ready-valid = k.valid (not_first (eqb a.number 1) (eqb a.number 8) h)

  pub ready-panel : Panelled p
  ready-panel = panelled p (both_left (valid_panel p) (valid_registers a.registers) ready-valid)

-- the parts behind a run's line, in a room that has held it
module _ (p : Panel) (a : Ran) {mem rom answers frame out : List ℕ} (k : TextReady p a mem rom answers frame out)
    {b : List ℕ} {w : ℕ} (x : TextPut out 0 (ran_line a) b w) (h : w ≤ 112) {n : ℕ} {c : List ℕ} (e : printed n c ≡ print_answers_of a.answers answers (take (length b - w) (drop w b))) where
  long : length b ≡ 196608
  long = put-length x ∙ k.roomy

  abbrev next : List ℕ
  next = take w b ++ (c ++ drop (length b - w) (drop w b))

  pub answers-behind : TextPut b w (hex_lines a.answers answers) next (w + n)
  answers-behind = answers-put a.answers w answers (omega (arith, h, k.given, k.answered, long)) k.given e

  pub next-few : w + n ≤ 24688
  next-few = omega (arith, answers-behind.ends, hex-lines-length a.answers answers, h, k.given, k.answered)

  pub next-inside : w + n ≤ length next
  next-inside = omega (arith, next-few, put-length answers-behind, long)

  module _ (g : (eqb a.number 1 || eqb a.number 8) ≡ false) {size : ℕ} (s : size ≡ valid_size p (frame_size p)) (f : List ℕ) (i : length f ≡ size) {r : Reply} {after : List ℕ}
      (j : painted r after ≡ paint_of p a.registers mem rom f) {m : ℕ} {d : List ℕ} (l : printed m d ≡ print_rows_of p after (take (length next - (w + n)) (drop (w + n) next))) where
    pub frame-behind : TextPut next (w + n) (frame_lines p (frame_of p a.registers.display mem rom)) (take (w + n) next ++ (d ++ drop (length next - (w + n)) (drop (w + n) next))) (w + n + m)
    frame-behind =
        let v = ready-valid p a k g in
        frame-put {a = next} {at = w + n} (record {
          valid = v;
          lent = k.lent;
          sized = i ∙ is-size p (both_left (valid_panel p) (valid_registers a.registers) v) s;
          room = omega (arith, next-few, put-length answers-behind, long);
        }) j l

    pub text-few : w + n + m ≤ 196608
    text-few =
        omega (arith, frame-behind.ends, frame-lines-length p (frame_of p a.registers.display mem rom), lines-few p (ready-panel p a k g), next-few)

-- two replies that meet the promise are equal
pub print-settled : {n k : Told} {b c : List ℕ} (input out : List ℕ) → reported n b ≡ print_of input out → reported k c ≡ print_of input out → (n ≡ k) × (b ≡ c)
print-settled input out h k = reported-settled h k
