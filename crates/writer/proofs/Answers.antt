-- What writing a screen answers, from what checking it answered.
use mathlib.Core.Path.{◌≡◌, refl, ap, ap₂, sym, ◌∙◌}
use mathlib.Core.Bool.{Bool, true, false, cond}
use mathlib.Core.List.{List, ◌++◌}
use Prim.Native.Nat.{ℕ, ◌+◌, ◌-◌, ◌*◌, ◌≤◌, ◌<◌}
use native.Mathlib.Nat.{mul_comm}
use native.Mathlib.Decide.{ℕ_discrete}
use native.Mathlib.Omega.{arith}
use lib.Dec.{ltb}
use lib.ListN.{length}
use lib.Seq.{sets, length-sets}
use borrow.Author.Tests.{lt-ltb, le-ltb, ltb-false}
use Rattle.ground.proofs.Tests.{settled}
use Rattle.state.specs.declared.panel.Panel.{Panel}
use Rattle.state.specs.State.{valid_panel}
use Rattle.controller.specs.Run.{log_of}
use Rattle.std.specs.Prelude.{Result, Ok, Err}
use Rattle.state.proofs.RefusalNumbers.{not_zero, same_number}
use Rattle.controller.specs.Access.{Pair}
use Rattle.state.specs.declared.refusal.Refused.{Refused}
use Rattle.book.specs.Replies.{Checked, checked}
use Rattle.book.specs.Operation.{Operation}
use Rattle.book.specs.Screen.{screen, operations_from, screen_of}
use Rattle.book.specs.Checked.{checked_of}
use Rattle.book.proofs.Verdicts.{Accepted, checked-is, checked-invalid, checked-refusal, checked-err}
use Rattle.writer.specs.Stream.{opening, body_pairs, stream_of, count_of}
use Rattle.writer.specs.Written.{Written, most_of_body, written_reply, count_screen, counted_screen, Wrote, wrote, wrote_all, write_screen, write_of}
use Rattle.writer.specs.declared.put.Stream.{Stream}
use Rattle.writer.specs.Put.{Puts, operations_in, WritableBody}
use Rattle.writer.proofs.Lengths.{opening-length}
use Rattle.state.proofs.Sizes.{cells-few}
use Rattle.writer.proofs.Puts.{put_both}

-- the pairs of a screen: an operation for each byte of a book's half, and an opening
abbrev pub most_of_screen : ℕ
most_of_screen = 720000000

module _ (p : Panel) (book : List ℕ) (number : ℕ) {r : Checked} (h : r ≡ checked_of p book number) where
  -- 1, 9, 10, 11
  pub write-refused : (room : List ℕ) → (r.number ≡ 0 → ⊥) → wrote r.number r.place 0 room ≡ write_of p book number room
  unfolding write_of
  write-refused room nz = go (valid_panel p) refl
    where
      go : (v : Bool) → valid_panel p ≡ v → wrote r.number r.place 0 room ≡ cond v (write_screen p room (screen_of p book number)) (wrote 1 0 0 room)
      go true v = ap (write_screen p room) (sym (checked-refusal p book number h v nz))
      go false v = ap (λ (x : Checked). wrote x.number x.place 0 room) (checked-invalid p book number h v)

  count-refused : (r.number ≡ 0 → ⊥) → record { number = r.number; place = r.place; pairs = 0 } ≡ counted_screen p book number
  unfolding counted_screen
  count-refused nz = go (valid_panel p) refl
    where
      go : (v : Bool) → valid_panel p ≡ v
          → record { number = r.number; place = r.place; pairs = 0 } ≡ cond v (count_screen p (screen_of p book number)) (record { number = 1; place = 0; pairs = 0 })
      go true v = ap (count_screen p) (sym (checked-refusal p book number h v nz))
      go false v = ap (λ (x : Checked). record { number = x.number; place = x.place; pairs = 0 }) (checked-invalid p book number h v)

  module _ (z : r.number ≡ 0) where
    pub accepted : Accepted p book number r
    accepted = checked-is p book number h z

    -- the pairs of a whole screen
    abbrev total : ℕ
    total = 1057 + 9 * (p.columns * p.lines) + r.pairs

    pub body-few : r.pairs ≤ most_of_body
    body-few = accepted.few

    -- few enough to double
    pub total-few : total ≤ most_of_screen
    total-few = omega (arith, accepted.few, cells-few p accepted.panel, mul_comm p.columns p.lines)

    total-is : total ≡ count_of p accepted.os
    unfolding count_of
    total-is = ap (λ (n : ℕ). 1057 + 9 * (p.columns * p.lines) + n) accepted.pairs

    pub count-0 : record { number = 0; place = 0; pairs = total } ≡ counted_screen p book number
    unfolding counted_screen
    count-0 =
        ap (λ (n : ℕ). record { number = 0; place = 0; pairs = n }) total-is
        ∙ ap (count_screen p) (sym accepted.whole)
        ∙ ap (λ (b : Bool). cond b (count_screen p (screen_of p book number)) (record { number = 1; place = 0; pairs = 0 })) (sym accepted.panel)

    module _ (room : List ℕ) where
      by-room : (t : Bool) → ltb (length room) (2 * total) ≡ t
          → cond t (wrote 12 total 0 room) (wrote 0 0 total (sets room 0 (log_of (stream_of p accepted.os)))) ≡ write_of p book number room
      unfolding write_of
      by-room t e =
          ap (λ (b : Bool). cond b (wrote 12 total 0 room) (wrote 0 0 total (sets room 0 (log_of (stream_of p accepted.os))))) (sym e)
          ∙ ap (λ (n : ℕ). cond (ltb (length room) (2 * n)) (wrote 12 n 0 room) (wrote 0 0 n (sets room 0 (log_of (stream_of p accepted.os))))) total-is
          ∙ ap (write_screen p room) (sym accepted.whole)
          ∙ ap (λ (b : Bool). cond b (write_screen p room (screen_of p book number)) (wrote 1 0 0 room)) (sym accepted.panel)

      pub write-12 : length room < 2 * total → wrote 12 total 0 room ≡ write_of p book number room
      write-12 l = by-room true (lt-ltb (length room) (2 * total) l)

      module _ (l : 2 * total ≤ length room) {a b : Stream} (front : (a.at ≡ 0) × (a.room.now ≡ room)) (x : Puts a (opening p) b) where
        -- behind the opening there is room for the body
        pub body-ready : WritableBody p book r.start r.end b
        body-ready =
            record {
              panel = accepted.panel;
              os = accepted.os;
              operations = accepted.operations;
              fits = omega (arith, ap length front.1, x.ends, opening-length p, x.kept, accepted.pairs);
            }

        -- the lent room ends as the stream's
        pub write-0 : {c : Stream} → Puts b (body_pairs p (operations_in (operations_from (r.end - r.start) p book r.start r.end))) c
            → {after : List ℕ} → after ≡ c.room.now → wrote 0 0 total after ≡ write_of p book number room
        unfolding stream_of
        write-0 {c} y e =
            let i : operations_in (operations_from (r.end - r.start) p book r.start r.end) ≡ accepted.os = ap operations_in accepted.operations in
            ap (wrote 0 0 total) (e ∙ (put_both x y).holds
            ∙ ap₂ (λ (l : List ℕ) (n : ℕ). sets l n (log_of (opening p ++ body_pairs p (operations_in (operations_from (r.end - r.start) p book r.start r.end))))) front.1 front.0
            ∙ ap (λ (os : List Operation). sets room 0 (log_of (stream_of p os))) i)
            ∙ by-room false (le-ltb (length room) (2 * total) l)

-- what checking refused
pub write-err : (p : Panel) (book : List ℕ) (number : ℕ) (e : Refused) → checked (Err e) ≡ checked_of p book number
    → (room : List ℕ) → wrote_all (written_reply (Err e)) room ≡ write_of p book number room
write-err p book number e h room = write-refused p book number h room (checked-err e)

pub count-err : (p : Panel) (book : List ℕ) (number : ℕ) (e : Refused) → checked (Err e) ≡ checked_of p book number
    → written_reply (Err e) ≡ counted_screen p book number
count-err p book number e h = count-refused p book number h (checked-err e)

-- a screen whose stream was counted
pub record CountedStream (p : Panel) (book : List ℕ) (number n : ℕ) : Type 0 where
  pub valid : valid_panel p ≡ true
  pub os : List Operation
  pub whole : screen_of p book number ≡ screen os
  pub pairs : n ≡ count_of p os
  pub few : n ≤ most_of_screen

pub counted-stream : (p : Panel) (book : List ℕ) (number : ℕ) {n : ℕ} → written_reply (Ok n) ≡ counted_screen p book number → CountedStream p book number n
counted-stream p book number {n} h = go (ℕ_discrete (checked_of p book number).number 0)
  where
    go : Dec ((checked_of p book number).number ≡ 0) → CountedStream p book number n
    go (yes z) =
        let k = accepted p book number refl z in
        let i : n ≡ total p book number refl z = ap (λ (o : Written). o.pairs) (h ∙ sym (count-0 p book number refl z)) in
        record { valid = k.panel; os = k.os; whole = k.whole; pairs = i ∙ total-is p book number refl z; few = omega (arith, i, total-few p book number refl z) }
    go (no nz) = absurd (nz (sym (ap (λ (o : Written). o.number) (h ∙ sym (count-refused p book number refl nz)))))

-- a screen that was written: its stream at the room's start, the rest as before
pub record Streamed (p : Panel) (book : List ℕ) (number : ℕ) (room : List ℕ) (r : Written) (after : List ℕ) : Type 0 where
  pub valid : valid_panel p ≡ true
  pub os : List Operation
  pub whole : screen_of p book number ≡ screen os
  pub place : r.place ≡ 0
  pub pairs : r.pairs ≡ count_of p os
  pub few : r.pairs ≤ most_of_screen
  pub fits : 2 * r.pairs ≤ length room
  pub holds : after ≡ sets room 0 (log_of (stream_of p os))

module _ (p : Panel) (book : List ℕ) (number : ℕ) (room : List ℕ) where
  streamed : (z : (checked_of p book number).number ≡ 0) {r : Written} {after : List ℕ} (t : Bool)
      → ltb (length room) (2 * total p book number refl z) ≡ t
      → wrote_all r after
      ≡ cond t (wrote 12 (total p book number refl z) 0 room)
      (wrote 0 0 (total p book number refl z) (sets room 0 (log_of (stream_of p (accepted p book number refl z).os))))
      → r.number ≡ 0 → Streamed p book number room r after
  streamed z {r} true e h n =
      let i : r.number ≡ 12 = ap (λ (o : Wrote). o.written.number) h in absurd (let y : ⊥ = omega arith in y)
  streamed z {r} false e h n =
      let k = accepted p book number refl z in
      let i : r.pairs ≡ total p book number refl z = ap (λ (o : Wrote). o.written.pairs) h in
      record {
        valid = k.panel;
        os = k.os;
        whole = k.whole;
        place = ap (λ (o : Wrote). o.written.place) h;
        pairs = i ∙ total-is p book number refl z;
        few = omega (arith, total-few p book number refl z);
        fits = omega (arith, ltb-false (length room) (2 * total p book number refl z) e);
        holds = ap (λ (o : Wrote). o.room) h;
      }

  -- a valid panel, a well-formed screen and enough room: accepted
  pub write-fits : valid_panel p ≡ true → {os : List Operation} → screen_of p book number ≡ screen os → 2 * count_of p os ≤ length room
      → write_of p book number room ≡ wrote 0 0 (count_of p os) (sets room 0 (log_of (stream_of p os)))
  unfolding write_of
  write-fits v {os} e l =
      ap (λ (t : Bool). cond t (write_screen p room (screen_of p book number)) (wrote 1 0 0 room)) v
      ∙ ap (write_screen p room) e
      ∙ ap (λ (t : Bool). cond t (wrote 12 (count_of p os) 0 room) (wrote 0 0 (count_of p os) (sets room 0 (log_of (stream_of p os)))))
      (le-ltb (length room) (2 * count_of p os) l)

  -- number 0
  pub write-accepted : {r : Written} {after : List ℕ} → wrote_all r after ≡ write_of p book number room → r.number ≡ 0 → Streamed p book number room r after
  write-accepted {r} {after} h n = go (ℕ_discrete (checked_of p book number).number 0)
    where
      go : Dec ((checked_of p book number).number ≡ 0) → Streamed p book number room r after
      go (yes z) = streamed z (ltb (length room) (2 * total p book number refl z)) refl (h ∙ sym (by-room p book number refl z room (ltb (length room) (2 * total p book number refl z)) refl)) n
      go (no nz) = absurd (nz (sym (ap (λ (o : Wrote). o.written.number) (h ∙ sym (write-refused p book number refl room nz))) ∙ n))

  -- the stream stands in the room
  pub write-within : {r : Written} {after : List ℕ} → wrote_all r after ≡ write_of p book number room → r.number ≡ 0 → 2 * r.pairs ≤ length after
  write-within {r} {after} h n =
      let t = write-accepted h n in
      omega (arith, t.fits, ap length t.holds ∙ length-sets room 0 (log_of (stream_of p t.os)))

-- two answers that stand for one reply are equal
pub same_written : (x y : Result ℕ Refused) → written_reply x ≡ written_reply y → x ≡ y
same_written (Ok m) (Ok n) h = ap Ok (ap (λ (r : Written). r.pairs) h)
same_written (Ok m) (Err e) h = absurd (not_zero e.refusal (ap (λ (r : Written). r.number) (sym h)))
same_written (Err d) (Ok n) h = absurd (not_zero d.refusal (ap (λ (r : Written). r.number) h))
same_written (Err d) (Err e) h =
    let n = same_number d.refusal e.refusal (ap (λ (r : Written). r.number) h) in
    let p = ap (λ (r : Written). r.place) h in
    λ i. Err (record { refusal = n i; place = p i })

-- two replies that meet the promise of `write` are equal
pub write-settled : {x y : Written} {a b : List ℕ} (p : Panel) (book : List ℕ) (number : ℕ) (room : List ℕ)
    → wrote_all x a ≡ write_of p book number room → wrote_all y b ≡ write_of p book number room → (x ≡ y) × (a ≡ b)
write-settled p book number room h k =
    (ap (λ (o : Wrote). o.written) (settled h k), ap (λ (o : Wrote). o.room) (settled h k))

pub count-settled : {x y : Result ℕ Refused} (p : Panel) (book : List ℕ) (number : ℕ)
    → written_reply x ≡ counted_screen p book number → written_reply y ≡ counted_screen p book number → x ≡ y
count-settled {x} {y} p book number h k = same_written x y (settled h k)

-- where there is room, what stands behind a stream and where it ends is determined
pub add-settled : {a x y : Stream} {ps : List Pair} → Puts a ps x → Puts a ps y → (x.room.now ≡ y.room.now) × (x.at ≡ y.at)
add-settled h k = (h.holds ∙ sym k.holds, h.ends ∙ sym k.ends)

-- and so are the results that stand for them
pub write-result-settled : {x y : Result ℕ Refused} {a b : List ℕ} (p : Panel) (book : List ℕ) (number : ℕ) (room : List ℕ)
    → wrote_all (written_reply x) a ≡ write_of p book number room → wrote_all (written_reply y) b ≡ write_of p book number room → (x ≡ y) × (a ≡ b)
write-result-settled {x} {y} p book number room h k = let s = write-settled p book number room h k in (same_written x y s.0, s.1)
