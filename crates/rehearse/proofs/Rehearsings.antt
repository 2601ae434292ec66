-- The rehearse program's text, from what rehearsing and printing answered.
use mathlib.Core.Path.{◌≡◌, refl, ap, ◌∙◌}
use mathlib.Core.Bool.{Bool, true, false, cond, ◌&&◌}
use mathlib.Core.List.{List, ◌++◌}
use Prim.Native.Nat.{ℕ, ◌*◌, ◌≤◌}
use native.Mathlib.Omega.{arith}
use lib.Dec.{ltb, eqb}
use lib.ListN.{length, drop}
use borrow.Author.Tests.{eq-eqb}
use Rattle.ground.specs.Packing.{row_bytes}
use Rattle.ground.proofs.Tests.{both, both_right}
use Rattle.state.specs.declared.panel.Panel.{Panel}
use Rattle.state.specs.declared.registers.Registers.{Registers}
use Rattle.state.specs.State.{valid_panel, valid_registers, reset_registers}
use Rattle.display.specs.Frame.{lent_lengths, frame_fits}
use Rattle.contents.specs.Contents.{word_at}
use Rattle.book.specs.Screen.{Screen, screen, refused, screen_of}
use Rattle.book.proofs.Numbers.{refusal-number}
use Rattle.writer.specs.Stream.{count_of}
use Rattle.picture.specs.Picture.{picture_of, picture_frame}
use Rattle.rehearsal.specs.Rehearsed.{Rehearsed, Rehearsal, rehearsed_all, refusal, shown_of, rehearse_screen, rehearse_of}
use Rattle.printed.specs.declared.told.Told.{Told}
use Rattle.printed.specs.Printed.{panel_in, first_line, frame_lines, printed, print_text, Reported, reported}
use Rattle.state.specs.Sizes.{frame_size, valid_size}
use Rattle.printed.specs.Screen.{rehearsal_text, framed, print_rehearsal_of}
use Rattle.printed.proofs.Screens.{line-alone, may-print}
use Rattle.printed.proofs.Texts.{printed-within, reported-settled}
use Rattle.rehearse.specs.Rehearsing.{rehearsed, rehearsed_number, rehearse_text, rehearse_text_of}

abbrev text_of : Panel → Rehearsal → List ℕ
text_of p x = rehearsal_text p x.rehearsed.pairs x.rehearsed.number x.rehearsed.place x.frame

module _ (p : Panel) (book : List ℕ) (number : ℕ) (mem rom room frame : List ℕ) where
  abbrev came : Bool → Screen
  came v = cond v (screen_of p book number) (refused 1 0)

  abbrev answer : Rehearsal
  answer = rehearse_of p reset_registers mem rom book number room frame

  -- a refusal's text is its line
  refusal-text : {n : ℕ} (place : ℕ) → (n ≡ 0 → ⊥) → text_of p (refusal p reset_registers mem rom room frame n place) ≡ first_line 0 0 n place
  unfolding rehearsal_text
  refusal-text {n} place nz = line-alone p n frame (first_line 0 0 n place) nz

  screen-text : length room ≡ 2097152 → (s : Screen) → ((n place : ℕ) → s ≡ refused n place → n ≡ 0 → ⊥)
      → text_of p (rehearse_screen p reset_registers mem rom room frame s) ≡ rehearsed p rom s
  unfolding rehearsal_text
  screen-text l (screen os) nz = go (ltb (length room) (2 * count_of p os)) ∙ ap (λ (n : ℕ). cond (ltb n (2 * count_of p os)) short whole) l
    where
      short : List ℕ
      short = first_line 0 0 12 (count_of p os)

      whole : List ℕ
      whole = first_line (count_of p os) 0 0 0 ++ frame_lines p (picture_frame p rom (picture_of p os) true)

      go : (t : Bool) → text_of p (cond t (refusal p reset_registers mem rom room frame 12 (count_of p os)) (shown_of p reset_registers mem rom room frame os)) ≡ cond t short whole
      go true = refusal-text (count_of p os) (λ z. omega arith)
      go false = refl
  screen-text l (refused n place) nz = refusal-text place (nz n place refl)

  -- and the number told
  screen-number : length room ≡ 2097152 → (s : Screen) → (rehearse_screen p reset_registers mem rom room frame s).rehearsed.number ≡ rehearsed_number p s
  screen-number l (screen os) = go (ltb (length room) (2 * count_of p os)) ∙ ap (λ (n : ℕ). cond (ltb n (2 * count_of p os)) 12 0) l
    where
      go : (t : Bool) → (cond t (refusal p reset_registers mem rom room frame 12 (count_of p os)) (shown_of p reset_registers mem rom room frame os)).rehearsed.number ≡ cond t 12 0
      go true = refl
      go false = refl
  screen-number l (refused n place) = refl

  module _ (lent : lent_lengths mem rom ≡ true) (sized : length frame ≡ valid_size p (frame_size p)) where
    frame-fits : valid_panel p ≡ true → (f : List ℕ) → length f ≡ length frame → (valid_panel p && frame_fits p f) ≡ true
    frame-fits v f k =
        both v
        (eq-eqb (length f) (8 * p.lines * row_bytes p.columns p.width)
        (k ∙ sized ∙ ap (λ (t : Bool). cond t (8 * p.lines * row_bytes p.columns p.width) 0) v))

    ran-is : valid_panel p ≡ true → answer ≡ rehearse_screen p reset_registers mem rom room frame (screen_of p book number)
    unfolding rehearse_of
    ran-is v =
        λ i. cond (both v (the-reset) i)
        (cond (both lent (both_right (valid_panel p) (frame_fits p frame) (frame-fits v frame refl)) i) (rehearse_screen p reset_registers mem rom room frame (screen_of p book number)) (refusal p reset_registers mem rom room frame 2 0))
        (refusal p reset_registers mem rom room frame 1 0)
      where
        the-reset : valid_registers reset_registers ≡ true
        the-reset = refl

    ran-1 : valid_panel p ≡ false → answer ≡ refusal p reset_registers mem rom room frame 1 0
    unfolding rehearse_of
    ran-1 v =
        λ i. cond (v i && valid_registers reset_registers)
        (cond (lent_lengths mem rom && frame_fits p frame) (rehearse_screen p reset_registers mem rom room frame (screen_of p book number)) (refusal p reset_registers mem rom room frame 2 0))
        (refusal p reset_registers mem rom room frame 1 0)

    module _ (l : length room ≡ 2097152) {x : Rehearsed} {m b f : List ℕ} (h : rehearsed_all x m b f ≡ answer) (k : length f ≡ length frame) where
      text-is : (v : Bool) → valid_panel p ≡ v → text_of p (rehearsed_all x m b f) ≡ rehearsed p rom (came v)
      text-is true v =
          ap (text_of p) (h ∙ ran-is v) ∙ screen-text l (screen_of p book number) (λ n place e. refusal-number p book number e)
      text-is false v = ap (text_of p) (h ∙ ran-1 v) ∙ refusal-text 0 (λ z. omega arith)

      number_is : (v : Bool) → valid_panel p ≡ v → x.number ≡ rehearsed_number p (came v)
      number_is true v = ap (λ (o : Rehearsal). o.rehearsed.number) (h ∙ ran-is v) ∙ screen-number l (screen_of p book number)
      number_is false v = ap (λ (o : Rehearsal). o.rehearsed.number) (h ∙ ran-1 v)

      framed_is : (v : Bool) → valid_panel p ≡ v → framed p x.number f ≡ true
      framed_is true v = may-print p x.number f (λ z. frame-fits v f k)
      framed_is false v =
          may-print p x.number f
          (λ z. let i : x.number ≡ 1 = ap (λ (o : Rehearsal). o.rehearsed.number) (h ∙ ran-1 v) in absurd (let y : ⊥ = omega arith in y))

      printed-is : (out : List ℕ)
          → print_rehearsal_of p x.pairs x.number x.place f out ≡ print_text (eqb (length out) 196608) (rehearsed p rom (came (valid_panel p))) out
      unfolding print_rehearsal_of
      printed-is out = λ i. print_text (framed_is (valid_panel p) refl i && eqb (length out) 196608) (text-is (valid_panel p) refl i) out

-- the whole text
pub rehearse-all : (dual : Bool) (input out mem rom room frame : List ℕ) {p : Panel} {number : ℕ} {r : Registers} {book : List ℕ} → p ≡ panel_in dual input → number ≡ word_at input 3
    → book ≡ drop 5 input → r ≡ reset_registers → length mem ≡ 65536 → length rom ≡ 1024 → length frame ≡ valid_size p (frame_size p) → length room ≡ 2097152
    → {x : Rehearsed} {m b f : List ℕ} → rehearsed_all x m b f ≡ rehearse_of p r mem rom book number room frame → length f ≡ length frame
    → {w : ℕ} {o : List ℕ} → printed w o ≡ print_rehearsal_of p x.pairs x.number x.place f out
    → reported (record { count = w; number = x.number }) o ≡ rehearse_text_of dual rom input out
unfolding rehearse_text_of rehearse_text
rehearse-all dual input out mem rom room frame {p} {number} {r} {book} i j k reset a c s l {x} h e y =
    let fits = both (eq-eqb (length mem) 65536 a) (eq-eqb (length rom) 1024 c) in
    let ran = h ∙ ap (λ (g : Registers). rehearse_of p g mem rom book number room frame) reset in
    let text =
    y ∙ printed-is p book number mem rom room frame fits s l ran e out
    ∙ (λ q. print_text (eqb (length out) 196608) (rehearsed (i q) rom (cond (valid_panel (i q)) (screen_of (i q) (k q) (j q)) (refused 1 0))) out) in
    let told =
    number_is p book number mem rom room frame fits s l ran e (valid_panel p) refl
    ∙ (λ q. rehearsed_number (i q) (cond (valid_panel (i q)) (screen_of (i q) (k q) (j q)) (refused 1 0))) in
    λ q. record { text = text q; number = told q }

module _ (dual : Bool) (rom input out : List ℕ) where
  -- the text stands in its room
  pub rehearse-within : {t : Told} {b : List ℕ} → reported t b ≡ rehearse_text_of dual rom input out → t.count ≤ length b
  unfolding rehearse_text_of
  rehearse-within h = printed-within (eqb (length out) 196608) (rehearse_text dual rom input) out (ap (λ (o : Reported). o.text) h)

  -- two replies that meet the promise are equal
  pub rehearse-text-settled : {n k : Told} {b c : List ℕ} → reported n b ≡ rehearse_text_of dual rom input out → reported k c ≡ rehearse_text_of dual rom input out → (n ≡ k) × (b ≡ c)
  rehearse-text-settled h k = reported-settled h k
