-- A block of data in auto write with flags: its rows flagged once for all of its addresses.
use Rattle.std.proofs.Common.{◌≡◌, ℕ, zero, suc, ◌+◌, ◌*◌, ◌/◌, ◌%◌, ◌<◌, Bool, true, false, cond, not, ◌||◌, List, [], ◌∷◌, length, drop, set, sym, refl, ap, ◌∙◌, subst, arith, length-set, ne_eqb}
use Rattle.ground.specs.Lists.{stored}
use Rattle.ground.proofs.Lists.{build-length}
use Rattle.display.specs.Displayed.{text_code}
use Rattle.effects.specs.Machine.{machine}
use Rattle.effects.specs.Effect.{is_write, with_bus, with_pointer}
use Rattle.controller.specs.Types.{Auto, Write}
use Rattle.controller.specs.Access.{Pair, Step, data_write_of}
use Rattle.controller.specs.Run.{Standing, turn_of, after_turn, Run, run_from, short}
use Rattle.controller.specs.Skip.{Skipping, skip_by, skip_step}
use Rattle.controller.specs.Ready.{data_of}
use Rattle.stores.specs.Stores.{stores_of, from_address}
use Rattle.stores.proofs.Stored.{Stored, one-stored, many-stored}
use Rattle.touch.specs.Touch.{any_of, in_row, glyph_byte_at, glyph_at, plane_row, touches, touched_by}
use Rattle.touch.specs.Marked.{marked_of}
use Rattle.touch.proofs.Anys.{or_left, or_right, any_found, any-has, any-not, any-cong, any-first}
use Rattle.touch.proofs.Marks.{set-again, marks-none}
use Rattle.flags.specs.Flags.{flags_after, Flagged, with_flags, flag_by, flag_step}
use Rattle.flags.proofs.Follows.{code-kept, flags-after-is}
use Rattle.flags.proofs.Rights.{same-own}
use Rattle.watch.specs.Types.{Panel, Display, Registers}
use Rattle.watch.specs.Runs.{standing_flags}

-- the pointer behind n data
abbrev pub passed_of : Registers → ℕ → Registers
passed_of r n = with_bus r (with_pointer r.bus ((r.bus.pointer + n) % 65536))

-- where a run with flags stands, and its list of skipped pairs
abbrev pub on_skips : Standing Flagged → List ℕ → ℕ → ℕ → Standing (Skipping Flagged)
on_skips s skips listed place = record { machine = record { machine = s.machine; skips = skips; listed = listed; place = place }; answers = s.answers; given = s.given }

data-none : (q : Pair) (qs : List Pair) → (q.kind ≡ 0 → ⊥) → data_of (q ∷ qs) ≡ []
unfolding data_of
data-none q qs e = ap (λ (t : Bool). cond t (q.byte ∷ data_of qs) []) (ne_eqb q.kind 0 e)

or_turned : (a b : Bool) → (a || b) ≡ (b || a)
or_turned true true = refl
or_turned true false = refl
or_turned false true = refl
or_turned false false = refl

module _ (p : Panel) (d : Display) (mem memory : List ℕ) (at n r a : ℕ) (k : Stored at n mem memory) where
  abbrev text : ℕ → Bool
  text j = in_row d.text (r / 8) p.columns (from_address at j)

  -- no text byte of the row is stored: its codes are as they were
  touch-alike : any_of n text ≡ false → touches p d mem r a ≡ touches p d memory r a
  unfolding touches glyph_at
  touch-alike e =
      λ i.
      in_row d.text (r / 8) p.columns a
      || (any-cong p.columns (λ c. glyph_byte_at d (text_code d mem (r / 8) c) (r % 8) a) (λ c. glyph_byte_at d (text_code d memory (r / 8) c) (r % 8) a)
      (λ c l. ap (λ (m : ℕ). glyph_byte_at d m (r % 8) a) (sym (code-kept p d mem memory at n r k (any-not n text e) c l))) i
      || in_row d.graphic (plane_row d.combination r) p.columns a)

  text-hit : any_of n text ≡ true → touched_by p d memory at n r ≡ true
  unfolding touched_by touches
  text-hit e =
      let x = any_found n text e in
      any-has n (λ j. touches p d memory r (from_address at j)) x.at x.below (or_left (in_row d.text (r / 8) p.columns (from_address at x.at)) _ x.holds)

  -- an address looked at before the later ones are stored, or after
  earlier : (touched_by p d memory at n r || touches p d mem r a) ≡ (touches p d memory r a || touched_by p d memory at n r)
  earlier = go (any_of n text) refl
    where
      go : (t : Bool) → any_of n text ≡ t → (touched_by p d memory at n r || touches p d mem r a) ≡ (touches p d memory r a || touched_by p d memory at n r)
      go true e = or_left (touched_by p d memory at n r) (touches p d mem r a) (text-hit e) ∙ sym (or_right (touches p d memory r a) (touched_by p d memory at n r) (text-hit e))
      go false e = ap (λ (t : Bool). touched_by p d memory at n r || t) (touch-alike e) ∙ or_turned (touched_by p d memory at n r) (touches p d memory r a)

-- one more address in front
more-touched : (p : Panel) (d : Display) (mem memory : List ℕ) (at n r : ℕ) → Stored ((at + 1) % 65536) n mem memory
    → (touched_by p d memory ((at + 1) % 65536) n r || (false || touched_by p d mem at 1 r)) ≡ (false || touched_by p d memory at (suc n) r)
unfolding touched_by any_of
more-touched p d mem memory at n r k =
    earlier p d mem memory ((at + 1) % 65536) n r (from_address at 0) k
    ∙ (λ i. touches p d memory r (from_address at 0) || any-cong n (λ j. touches p d memory r (from_address ((at + 1) % 65536) j)) (λ j. touches p d memory r (from_address at (suc j)))
    (λ j l. ap (touches p d memory r) (let e : ((at + 1) % 65536 + j) % 65536 ≡ (at + suc j) % 65536 = omega arith in e)) i)
    ∙ sym (any-first n (λ j. touches p d memory r (from_address at j)))

marked_more : (p : Panel) (d : Display) (mem memory : List ℕ) (at n : ℕ) (flags : List ℕ) → Stored ((at + 1) % 65536) n mem memory
    → marked_of p d memory ((at + 1) % 65536) n false (marked_of p d mem at 1 false flags) ≡ marked_of p d memory at (suc n) false flags
unfolding marked_of
marked_more p d mem memory at n flags k =
    set-again p (λ r. false || touched_by p d mem at 1 r) (λ r. false || touched_by p d memory ((at + 1) % 65536) n r) (λ r. false || touched_by p d memory at (suc n) r) flags
    (λ r. more-touched p d mem memory at n r k)

-- a datum in auto write
after_one : (p : Panel) (r : Registers) (m flags : List ℕ) (b : ℕ) → r.bus.auto ≡ Write → length m ≡ 65536
    → flags_after p (machine r m) (record { kind = 0; byte = b }) (machine (passed_of r 1) (set m r.bus.pointer b)) flags
    ≡ marked_of p r.display (set m r.bus.pointer b) r.bus.pointer 1 false flags
after_one p r m flags b w l =
    let one : stores_of p r (record { kind = 0; byte = b }) ≡ 1 = ap (λ (x : Auto). cond (is_write x) 1 0) w in
    flags-after-is p (machine r m) (record { kind = 0; byte = b }) (machine (passed_of r 1) (set m r.bus.pointer b)) flags
    (subst (λ (n : ℕ). Stored r.bus.pointer n m (set m r.bus.pointer b)) (sym one) (one-stored r.bus.pointer b m l))
    ∙ (λ i. marked_of p r.display (set m r.bus.pointer b) r.bus.pointer (one i) (not (same-own r.display i)) flags)

pub marked-long : (p : Panel) (d : Display) (mem : List ℕ) (at n : ℕ) (altered : Bool) (flags : List ℕ) → length (marked_of p d mem at n altered flags) ≡ 8 * p.lines
unfolding marked_of
marked-long p d mem at n altered flags = build-length (8 * p.lines) _

-- the run over a block: as many pairs on, its bytes stored, the pointer behind them, the rows of all its addresses flagged
module _ (p : Panel) (rom : List ℕ) (skips : List ℕ) (listed : ℕ) where
  abbrev steps : Skipping Flagged → Pair → Step (Skipping Flagged)
  steps = skip_step true (flag_step p rom)

  abbrev behind_block : List ℕ → List Pair → ℕ → Registers → List ℕ → List ℕ → List ℕ → ℕ → ℕ → Run (Skipping Flagged)
  behind_block bs qs k r m flags a g place =
      run_from steps (k + length bs) (drop (length bs) qs)
      (on_skips (standing_flags (passed_of r (length bs)) (stored m r.bus.pointer bs) (marked_of p r.display (stored m r.bus.pointer bs) r.bus.pointer (length bs) false flags) a g) skips listed (place + length bs))

  none-run : (qs : List Pair) (k : ℕ) (r : Registers) (m flags a : List ℕ) (g place : ℕ) → r.bus.pointer < 65536 → length flags ≡ 8 * p.lines → data_of qs ≡ []
      → run_from steps k qs (on_skips (standing_flags r m flags a g) skips listed place) ≡ behind_block (data_of qs) qs k r m flags a g place
  unfolding stored
  none-run qs k r m flags a g place l long e =
      let i : k ≡ k + 0 = omega arith in
      let j : r.bus.pointer ≡ (r.bus.pointer + 0) % 65536 = omega arith in
      let h : place ≡ place + 0 = omega arith in
      let f = marks-none p r.display m r.bus.pointer 0 false flags long refl in
      (λ t. run_from steps (i t) qs (on_skips (standing_flags (with_bus r (with_pointer r.bus (j t))) m (f t) a g) skips listed (h t)))
      ∙ (λ t. behind_block (sym e t) qs k r m flags a g place)

  pub flag-block : (qs : List Pair) (k : ℕ) (r : Registers) (m flags a : List ℕ) (g place : ℕ) → r.bus.auto ≡ Write → r.bus.pointer < 65536 → length m ≡ 65536 → length flags ≡ 8 * p.lines
      → run_from steps k qs (on_skips (standing_flags r m flags a g) skips listed place) ≡ behind_block (data_of qs) qs k r m flags a g place
  unfolding run_from data_of stored
  flag-block [] k r m flags a g place w l lm long = none-run [] k r m flags a g place l long refl
  flag-block (q ∷ qs) k r m flags a g place w l lm long =
      go q.kind q.byte
      (λ b. flag-block qs (suc k) (passed_of r 1) (set m r.bus.pointer b) (marked_of p r.display (set m r.bus.pointer b) r.bus.pointer 1 false flags) a g (place + 1) w (omega arith)
      (length-set m r.bus.pointer b ∙ lm) (marked-long p r.display (set m r.bus.pointer b) r.bus.pointer 1 false flags))
    where
      go : (n b : ℕ)
          → ((b : ℕ) → run_from steps (suc k) qs (on_skips (standing_flags (passed_of r 1) (set m r.bus.pointer b) (marked_of p r.display (set m r.bus.pointer b) r.bus.pointer 1 false flags) a g) skips listed (place + 1))
          ≡ behind_block (data_of qs) qs (suc k) (passed_of r 1) (set m r.bus.pointer b) (marked_of p r.display (set m r.bus.pointer b) r.bus.pointer 1 false flags) a g (place + 1))
          → run_from steps k (record { kind = n; byte = b } ∷ qs) (on_skips (standing_flags r m flags a g) skips listed place)
          ≡ behind_block (data_of (record { kind = n; byte = b } ∷ qs)) (record { kind = n; byte = b } ∷ qs) k r m flags a g place
      go zero b rest =
          let at : ℕ = r.bus.pointer in
          let bs : List ℕ = data_of qs in
          let i : suc k + length bs ≡ k + suc (length bs) = omega arith in
          let j : ((at + 1) % 65536 + length bs) % 65536 ≡ (at + suc (length bs)) % 65536 = omega arith in
          let h : place + 1 + length bs ≡ place + suc (length bs) = omega arith in
          let f = marked_more p r.display (set m at b) (stored (set m at b) ((at + 1) % 65536) bs) at (length bs) flags (many-stored bs (set m at b) ((at + 1) % 65536) (omega arith)) in
          ap
          (λ (x : Auto). after_turn (turn_of (on_skips (standing_flags r m flags a g) skips listed place) (skip_by true (on_skips (standing_flags r m flags a g) skips listed place).machine (flag_by p (with_flags (machine r m) flags) (record { kind = 0; byte = b }) (data_write_of x (machine r m) b))))
          (λ t. run_from steps (suc k) qs t)
          (λ n. record { standing = on_skips (standing_flags r m flags a g) skips listed place; taken = k; end = short n })) w
          ∙ ap (λ (fl : List ℕ). run_from steps (suc k) qs (on_skips (standing_flags (passed_of r 1) (set m at b) fl a g) skips listed (place + 1))) (after_one p r m flags b w lm)
          ∙ rest b
          ∙ (λ t. run_from steps (i t) (drop (length bs) qs) (on_skips (standing_flags (with_bus r (with_pointer r.bus (j t))) (stored (set m at b) ((at + 1) % 65536) bs) (f t) a g) skips listed (h t)))
      go (suc n) b rest = none-run (record { kind = suc n; byte = b } ∷ qs) k r m flags a g place l long (data-none (record { kind = suc n; byte = b }) qs (λ e. omega arith))
