-- The draw program's text, from what drawing and printing answered.
use mathlib.Core.Path.{◌≡◌, refl, ap, ◌∙◌}
use mathlib.Core.Bool.{Bool, true, false, cond, ◌&&◌}
use mathlib.Core.List.{List}
use Prim.Native.Nat.{ℕ, ◌*◌, ◌≤◌}
use native.Mathlib.Omega.{arith}
use lib.Dec.{eqb}
use lib.ListN.{length, drop}
use Rattle.ground.specs.Packing.{row_bytes}
use Rattle.ground.proofs.Tests.{both, both_right}
use Rattle.state.specs.declared.panel.Panel.{Panel}
use Rattle.state.specs.Replies.{Reply}
use Rattle.state.specs.State.{valid_panel}
use Rattle.display.specs.Frame.{frame_fits, reply_of}
use Rattle.contents.specs.Contents.{word_at}
use Rattle.book.specs.Screen.{Screen, screen, refused, screen_of}
use Rattle.book.specs.Numbers.{screen_number}
use Rattle.book.proofs.Numbers.{refusal-number}
use Rattle.painter.specs.Drawn.{Drew, drew_all, planes_fit, draw_screen, draw_of}
use Rattle.printed.specs.declared.told.Told.{Told}
use Rattle.printed.specs.Printed.{panel_in, refusal_line, printed, print_text, Reported, reported}
use Rattle.printed.specs.Screen.{picture_text, framed, print_picture_of}
use Rattle.printed.proofs.Screens.{line-alone, may-print}
use Rattle.printed.proofs.Texts.{printed-within, reported-settled}
use Rattle.draw.specs.Drawing.{phase_in, drawn, draw_text, draw_text_of, PlanesCut}

module _ (p : Panel) (book : List ℕ) (number : ℕ) (rom : List ℕ) (normal : Bool) (g t l f : List ℕ) (fits : PlanesCut p rom g t l f) where
  abbrev came : Bool → Screen
  came v = cond v (screen_of p book number) (refused 1 0)

  -- a refusal's text is its line
  refusal-text : {n : ℕ} (place : ℕ) → (n ≡ 0 → ⊥) → picture_text p n place f ≡ refusal_line n place
  unfolding picture_text
  refusal-text {n} place nz = line-alone p n f (refusal_line n place) nz

  screen-text : (s : Screen) → ((n place : ℕ) → s ≡ refused n place → n ≡ 0 → ⊥)
      → let d = draw_screen p rom normal g t l f s in picture_text p d.reply.number d.reply.place d.frame ≡ drawn p rom normal s
  unfolding picture_text
  screen-text (screen os) nz = refl
  screen-text (refused n place) nz = refusal-text place (nz n place refl)

  -- what was drawn
  drew-is : valid_panel p ≡ true → draw_of p book number rom normal g t l f ≡ draw_screen p rom normal g t l f (screen_of p book number)
  unfolding draw_of
  drew-is v =
      λ i. cond (v i)
      (cond (fits.fits v i) (draw_screen p rom normal g t l f (screen_of p book number)) (drew_all (reply_of 2) g t l f))
      (drew_all (reply_of 1) g t l f)

  drew-1 : valid_panel p ≡ false → draw_of p book number rom normal g t l f ≡ drew_all (reply_of 1) g t l f
  unfolding draw_of
  drew-1 v =
      λ i. cond (v i)
      (cond (planes_fit p rom g t l && frame_fits p f) (draw_screen p rom normal g t l f (screen_of p book number)) (drew_all (reply_of 2) g t l f))
      (drew_all (reply_of 1) g t l f)

  text-is : (v : Bool) → valid_panel p ≡ v → {d : Drew} → d ≡ draw_of p book number rom normal g t l f
      → picture_text p d.reply.number d.reply.place d.frame ≡ drawn p rom normal (came v)
  text-is true v h =
      ap (λ (d : Drew). picture_text p d.reply.number d.reply.place d.frame) (h ∙ drew-is v)
      ∙ screen-text (screen_of p book number) (λ n place e. refusal-number p book number e)
  text-is false v h =
      ap (λ (d : Drew). picture_text p d.reply.number d.reply.place d.frame) (h ∙ drew-1 v)
      ∙ refusal-text 0 (λ z. omega arith)

  framed_is : (v : Bool) → valid_panel p ≡ v → {r : Reply} {a b c e : List ℕ} → drew_all r a b c e ≡ draw_of p book number rom normal g t l f → length e ≡ length f
      → framed p r.number e ≡ true
  framed_is true v {r} {e = e} h k =
      may-print p r.number e (λ z. both v (ap (λ (n : ℕ). eqb n (8 * p.lines * row_bytes p.columns p.width)) k ∙ fit))
    where
      fit : frame_fits p f ≡ true
      fit = both_right (planes_fit p rom g t l) (frame_fits p f) (fits.fits v)
  framed_is false v {r} {e = e} h k =
      may-print p r.number e (λ z. let i : r.number ≡ 1 = ap (λ (d : Drew). d.reply.number) (h ∙ drew-1 v) in absurd (let y : ⊥ = omega arith in y))

  printed-is : {r : Reply} {a b c e : List ℕ} → drew_all r a b c e ≡ draw_of p book number rom normal g t l f → length e ≡ length f → (out : List ℕ)
      → print_picture_of p r.number r.place e out ≡ print_text (eqb (length out) 196608) (drawn p rom normal (came (valid_panel p))) out
  unfolding print_picture_of
  printed-is h k out =
      λ i. print_text (framed_is (valid_panel p) refl h k i && eqb (length out) 196608) (text-is (valid_panel p) refl h i) out

  -- and the number told is the screen's
  screen-number : (s : Screen) → (draw_screen p rom normal g t l f s).reply.number ≡ screen_number s
  screen-number (screen os) = refl
  screen-number (refused n place) = refl

  number_is : (v : Bool) → valid_panel p ≡ v → {d : Drew} → d ≡ draw_of p book number rom normal g t l f → d.reply.number ≡ screen_number (came v)
  number_is true v h = ap (λ (d : Drew). d.reply.number) (h ∙ drew-is v) ∙ screen-number (screen_of p book number)
  number_is false v h = ap (λ (d : Drew). d.reply.number) (h ∙ drew-1 v)

-- the whole text
pub draw-all : (dual : Bool) (input out : List ℕ) {p : Panel} {number : ℕ} {normal : Bool} {book rom g t l f : List ℕ} → p ≡ panel_in dual input → number ≡ word_at input 3 → normal ≡ phase_in input
    → book ≡ drop 6 input → PlanesCut p rom g t l f → {r : Reply} {a b c e : List ℕ} → drew_all r a b c e ≡ draw_of p book number rom normal g t l f
    → length e ≡ length f → {w : ℕ} {o : List ℕ} → printed w o ≡ print_picture_of p r.number r.place e out
    → reported (record { count = w; number = r.number }) o ≡ draw_text_of dual rom input out
unfolding draw_text_of draw_text
draw-all dual input out {p} {number} {normal} {book} {rom} {g} {t} {l} {f} i j k m fits {r} h s {w} {o} x =
    let text =
    x ∙ printed-is p book number rom normal g t l f fits h s out
    ∙ (λ q. print_text (eqb (length out) 196608) (drawn (i q) rom (k q) (cond (valid_panel (i q)) (screen_of (i q) (m q) (j q)) (refused 1 0))) out) in
    let told =
    number_is p book number rom normal g t l f fits (valid_panel p) refl h
    ∙ (λ q. screen_number (cond (valid_panel (i q)) (screen_of (i q) (m q) (j q)) (refused 1 0))) in
    λ q. record { text = text q; number = told q }

module _ (dual : Bool) (rom input out : List ℕ) where
  -- the text stands in its room
  pub draw-within : {t : Told} {b : List ℕ} → reported t b ≡ draw_text_of dual rom input out → t.count ≤ length b
  unfolding draw_text_of
  draw-within h = printed-within (eqb (length out) 196608) (draw_text dual rom input) out (ap (λ (o : Reported). o.text) h)

  -- two replies that meet the promise are equal
  pub draw-text-settled : {n k : Told} {b c : List ℕ} → reported n b ≡ draw_text_of dual rom input out → reported k c ≡ draw_text_of dual rom input out → (n ≡ k) × (b ≡ c)
  draw-text-settled h k = reported-settled h k
