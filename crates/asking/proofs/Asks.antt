-- What writing an asking stream answers, from what checking the screen and writing the plain stream answered.
use mathlib.Core.Path.{◌≡◌, ap, sym, ◌∙◌}
use mathlib.Core.Bool.{Bool, true, false, cond}
use mathlib.Core.List.{List}
use Prim.Native.Nat.{ℕ, ◌*◌, ◌≤◌, ◌<◌}
use native.Mathlib.Omega.{arith}
use lib.Dec.{ltb}
use lib.ListN.{length}
use lib.Seq.{sets}
use borrow.Author.Tests.{lt-ltb, le-ltb}
use Rattle.ground.proofs.Tests.{settled}
use Rattle.state.specs.declared.panel.Panel.{Panel}
use Rattle.state.specs.State.{valid_panel}
use Rattle.controller.specs.Run.{log_of}
use Rattle.std.specs.Prelude.{Err}
use Rattle.state.specs.declared.refusal.Refused.{Refused}
use Rattle.state.proofs.RefusalNumbers.{not_zero}
use Rattle.book.specs.Screen.{Screen, screen, refused, screen_of}
use Rattle.writer.specs.Stream.{stream_of, count_of}
use Rattle.writer.specs.Written.{Written, written_reply, count_screen, counted_screen, Wrote, wrote, wrote_all, write_of}
use Rattle.writer.proofs.Lengths.{stream-length}
use Rattle.writer.proofs.Answers.{CountedStream, write-fits, same_written}
use Rattle.std.proofs.Common.{Result}
use Rattle.asking.specs.Asking.{asked_pairs, ask_screen, asking_of}
use Rattle.asking.specs.Spread.{spread_of}
use Rattle.asking.proofs.Spreads.{spread-asks}

-- 1, 9, 10, 11
pub asking-err : (p : Panel) (book : List ℕ) (number : ℕ) (e : Refused) → written_reply (Err e) ≡ counted_screen p book number
    → (room : List ℕ) → wrote_all (written_reply (Err e)) room ≡ asking_of p book number room
unfolding counted_screen asking_of
asking-err p book number e h room = go (valid_panel p) (screen_of p book number) h
  where
    go : (v : Bool) (s : Screen) → written_reply (Err e) ≡ cond v (count_screen p s) (record { number = 1; place = 0; pairs = 0 })
        → wrote_all (written_reply (Err e)) room ≡ cond v (ask_screen p room s) (wrote 1 0 0 room)
    go true (screen os) h = absurd (not_zero e.refusal (ap (λ (x : Written). x.number) h))
    go true (refused n place) h = ap (λ (x : Written). wrote_all x room) h
    go false s h = ap (λ (x : Written). wrote_all x room) h

module _ (p : Panel) (book : List ℕ) (number : ℕ) {plain : ℕ} (k : CountedStream p book number plain) (room : List ℕ) where
  by-room : (t : Bool) → ltb (length room) (4 * plain) ≡ t
      → cond t (wrote 12 (2 * plain) 0 room) (wrote 0 0 (2 * plain) (sets room 0 (log_of (asked_pairs (stream_of p k.os))))) ≡ asking_of p book number room
  unfolding asking_of
  by-room t e =
      ap (λ (b : Bool). cond b (wrote 12 (2 * plain) 0 room) (wrote 0 0 (2 * plain) (sets room 0 (log_of (asked_pairs (stream_of p k.os)))))) (sym e)
      ∙ ap (λ (n : ℕ). cond (ltb (length room) (4 * n)) (wrote 12 (2 * n) 0 room) (wrote 0 0 (2 * n) (sets room 0 (log_of (asked_pairs (stream_of p k.os)))))) k.pairs
      ∙ ap (ask_screen p room) (sym k.whole)
      ∙ ap (λ (b : Bool). cond b (ask_screen p room (screen_of p book number)) (wrote 1 0 0 room)) (sym k.valid)

  pub asking-12 : length room < 4 * plain → wrote 12 (2 * plain) 0 room ≡ asking_of p book number room
  asking-12 l = by-room true (lt-ltb (length room) (4 * plain) l)

  module _ (l : 4 * plain ≤ length room) where
    plain-fits : write_of p book number room ≡ wrote 0 0 (count_of p k.os) (sets room 0 (log_of (stream_of p k.os)))
    plain-fits = write-fits p book number room k.valid k.whole (omega (arith, k.pairs))

    -- the plain stream is not refused then
    pub plain-written : (e : Refused) {b : List ℕ} → wrote_all (written_reply (Err e)) b ≡ write_of p book number room → ⊥
    plain-written e x = not_zero e.refusal (ap (λ (o : Wrote). o.written.number) (x ∙ plain-fits))

    pub asking-0 : {w : Written} {b : List ℕ} → wrote_all w b ≡ write_of p book number room → {c : List ℕ} → c ≡ spread_of plain b → wrote 0 0 (2 * plain) c ≡ asking_of p book number room
    asking-0 {b = b} x {c} y =
        let long : length (stream_of p k.os) ≡ count_of p k.os = stream-length p book number k.whole in
        let e : b ≡ sets room 0 (log_of (stream_of p k.os)) = ap (λ (o : Wrote). o.room) (x ∙ plain-fits) in
        ap (wrote 0 0 (2 * plain))
        (y ∙ ap (spread_of plain) e ∙ ap (λ (n : ℕ). spread_of n (sets room 0 (log_of (stream_of p k.os)))) (k.pairs ∙ sym long)
        ∙ spread-asks room (stream_of p k.os) (omega (arith, long, k.pairs)))
        ∙ by-room false (le-ltb (length room) (4 * plain) l)

-- two replies that meet the promise are equal
pub asking-settled : {x y : Written} {a b : List ℕ} (p : Panel) (book : List ℕ) (number : ℕ) (room : List ℕ)
    → wrote_all x a ≡ asking_of p book number room → wrote_all y b ≡ asking_of p book number room → (x ≡ y) × (a ≡ b)
asking-settled p book number room h k =
    (ap (λ (o : Wrote). o.written) (settled h k), ap (λ (o : Wrote). o.room) (settled h k))

-- and so are the results that stand for them
pub asking-result-settled : {x y : Result ℕ Refused} {a b : List ℕ} (p : Panel) (book : List ℕ) (number : ℕ) (room : List ℕ)
    → wrote_all (written_reply x) a ≡ asking_of p book number room → wrote_all (written_reply y) b ≡ asking_of p book number room → (x ≡ y) × (a ≡ b)
asking-result-settled {x} {y} p book number room h k = let s = asking-settled p book number room h k in (same_written x y s.0, s.1)
