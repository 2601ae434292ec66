-- A pair followed: by the memory after alone, since where a text code changes its line is flagged already.
use mathlib.Core.Path.{◌≡◌, refl, ap, sym, ◌∙◌}
use mathlib.Core.Bool.{Bool, true, false, cond, not, ◌&&◌, ◌||◌, true≢false}
use mathlib.Core.Logic.{⊎_elim}
use mathlib.Core.List.{List}
use Prim.Native.Nat.{ℕ, ◌*◌, ◌/◌, ◌%◌, ◌<◌}
use lib.Dec.{eqb}
use lib.ListN.{length, get_or}
use borrow.Author.Tests.{eqb-true, eq-eqb}
use Rattle.ground.proofs.Lists.{build-cong}
use Rattle.ground.proofs.Tests.{both, both_left, either}
use Rattle.touch.proofs.Marks.{marks-none}
use Rattle.flags.proofs.Rights.{same-own}
use Rattle.flags.proofs.Stills.{Still, stills}
use Rattle.std.proofs.Common.{IfSome, Option, Some, None, Ok, Err, subst}
use Rattle.state.specs.declared.refusal.Refusal.{Refusal}
use Rattle.state.specs.State.{valid_display, valid_bus}
use Rattle.state.specs.Address.{address_of}
use Rattle.display.specs.Displayed.{text_code}
use Rattle.effects.specs.Machine.{Machine, machine}
use Rattle.controller.specs.Access.{Pair, Step, done, answered, refused, step_of}
use Rattle.stores.specs.Stores.{stores_of, stores_asked, from_address}
use Rattle.controller.proofs.Goings.{Leaves}
use Rattle.stores.proofs.Stored.{Stored, step-stores}
use Rattle.single.specs.Outcome.{outcome, entered_of}
use Rattle.flags.specs.Types.{Panel, Display, Registers}
use Rattle.touch.specs.Touch.{any_of, in_row, glyph_byte_at, glyph_at, plane_row, touches, touched_by, touched}
use Rattle.touch.specs.Marked.{marked_of, marks_of}
use Rattle.flags.specs.Flags.{same_display, flags_after, Flagged, with_flags, flag_by}
use Rattle.flags.specs.Outcome.{flag_outcome}
use Rattle.flags.specs.Ready.{Following}
use Rattle.touch.proofs.Anys.{alike, or_left, or_right, any_found, any-has}

module _ (p : Panel) (d : Display) (mem memory : List ℕ) (at n r : ℕ) (k : Stored at n mem memory) where
  -- a stored address is a text byte of the row's line, or its codes are as they were
  pub code-kept : ((j : ℕ) → j < n → in_row d.text (r / 8) p.columns (from_address at j) ≡ true → ⊥) → (c : ℕ) → c < p.columns
      → text_code d memory (r / 8) c ≡ text_code d mem (r / 8) c
  unfolding text_code in_row
  code-kept h c l =
      k.kept (address_of d.text (r / 8) c)
      (λ j m e. h j m (any-has p.columns (λ i. eqb (from_address at j) (address_of d.text (r / 8) i)) c l (eq-eqb (from_address at j) (address_of d.text (r / 8) c) (sym e))))

  by-text : (t : Bool) → any_of n (λ j. in_row d.text (r / 8) p.columns (from_address at j)) ≡ t → touched_by p d mem at n r ≡ true → touched_by p d memory at n r ≡ true
  unfolding touched_by touches glyph_at
  by-text true e h =
      let x = any_found n (λ j. in_row d.text (r / 8) p.columns (from_address at j)) e in
      any-has n (λ j. touches p d memory r (from_address at j)) x.at x.below (or_left (in_row d.text (r / 8) p.columns (from_address at x.at)) _ x.holds)
  by-text false e h =
      let x = any_found n (λ j. touches p d mem r (from_address at j)) h in
      let a : ℕ = from_address at x.at in
      any-has n (λ j. touches p d memory r (from_address at j)) x.at x.below
      (⊎_elim (λ t. or_left (in_row d.text (r / 8) p.columns a) _ t)
      (λ t. or_right (in_row d.text (r / 8) p.columns a) _
      (⊎_elim (λ g. or_left (glyph_at p d memory r a) _ (glyph a g)) (λ g. or_right (glyph_at p d memory r a) _ g)
      (either (glyph_at p d mem r a) (in_row d.graphic (plane_row d.combination r) p.columns a) t)))
      (either (in_row d.text (r / 8) p.columns a) (glyph_at p d mem r a || in_row d.graphic (plane_row d.combination r) p.columns a) x.holds))
    where
      no_text : (j : ℕ) → j < n → in_row d.text (r / 8) p.columns (from_address at j) ≡ true → ⊥
      no_text j m t = let z = sym (any-has n (λ j. in_row d.text (r / 8) p.columns (from_address at j)) j m t) ∙ e in absurd (true≢false z)

      glyph : (a : ℕ) → glyph_at p d mem r a ≡ true → glyph_at p d memory r a ≡ true
      glyph a g =
          let x = any_found p.columns (λ c. glyph_byte_at d (text_code d mem (r / 8) c) (r % 8) a) g in
          any-has p.columns (λ c. glyph_byte_at d (text_code d memory (r / 8) c) (r % 8) a) x.at x.below
          (ap (λ (m : ℕ). glyph_byte_at d m (r % 8) a)
          (code-kept (λ j m t. no_text j m t) x.at x.below)
          ∙ x.holds)

  -- before or after: the same as after alone
  pub touched-after : touched p d mem memory at n r ≡ touched_by p d memory at n r
  unfolding touched
  touched-after =
      alike (touched_by p d mem at n r || touched_by p d memory at n r) (touched_by p d memory at n r)
      (λ e. ⊎_elim (λ h. by-text (any_of n (λ j. in_row d.text (r / 8) p.columns (from_address at j))) refl h) (λ h. h) (either (touched_by p d mem at n r) (touched_by p d memory at n r) e))
      (λ e. or_right (touched_by p d mem at n r) (touched_by p d memory at n r) e)

pub flags-after-is : (p : Panel) (s : Machine) (q : Pair) (t : Machine) (flags : List ℕ) → Stored s.registers.bus.pointer (stores_of p s.registers q) s.memory t.memory
    → flags_after p s q t flags
    ≡ marked_of p s.registers.display t.memory s.registers.bus.pointer (stores_of p s.registers q) (not (same_display s.registers.display t.registers.display)) flags
unfolding flags_after marked_of
flags-after-is p s q t flags k =
    build-cong (8 * p.lines) _ _
    (λ r l. ap (λ (b : Bool). cond (not (same_display s.registers.display t.registers.display) || b) 1 (get_or flags r 0))
    (touched-after p s.registers.display s.memory t.memory s.registers.bus.pointer (stores_of p s.registers q) r k))

module _ (p : Panel) (r : Registers) (mem rom flags : List ℕ) (q : Pair) (k : Following p r mem rom flags) where
  pub whole-memory : length mem ≡ 65536
  whole-memory = eqb-true (length mem) 65536 (both_left (eqb (length mem) 65536) (eqb (length rom) 1024) k.lent)

  -- what is known to be valid is marked
  pub marked-is : (memory : List ℕ) (n : ℕ) (altered : Bool) → length memory ≡ length mem
      → marks_of p r.display memory r.bus.pointer n altered flags ≡ marked_of p r.display memory r.bus.pointer n altered flags
  marked-is memory n altered e =
      λ i.
      cond (k.panel i)
      (cond (both (both (both_left (valid_display r.display) (valid_bus r.bus) k.state) (eq-eqb (length memory) 65536 (e ∙ whole-memory))) (eq-eqb (length flags) (8 * p.lines) k.rows) i)
      (marked_of p r.display memory r.bus.pointer n altered flags) flags)
      flags

  -- a pair done on what is known to be valid
  stepped : {s : Step Machine} → s ≡ entered_of p r mem rom q → s ≡ step_of p rom (machine r mem) q
  unfolding entered_of
  stepped e = e ∙ (λ i. cond (k.panel i && k.state i) (cond (k.lent i) (step_of p rom (machine r mem) q) (refused 2)) (refused 1))

  abbrev flagged : Step Machine → Step Flagged
  flagged = flag_by p (with_flags (machine r mem) flags) q

  module _ {n : ℕ} {altered : Bool} (s : Registers) (m after : List ℕ) (asked : n ≡ stores_asked p r q) (differ : altered ≡ not (same_display r.display s.display))
      (long : length m ≡ length mem) (marks : after ≡ marks_of p r.display m r.bus.pointer n altered flags) where
    after-is : Stored r.bus.pointer (stores_of p r q) mem m → after ≡ flags_after p (machine r mem) q (machine s m) flags
    after-is st =
        let number : n ≡ stores_of p r q = asked ∙ ap (λ (t : Bool). cond t (stores_of p r q) 0) k.panel in
        marks ∙ marked-is m n altered long
        ∙ (λ i. marked_of p r.display m r.bus.pointer (number i) (differ i) flags)
        ∙ sym (flags-after-is p (machine r mem) q (machine s m) flags st)

    -- an accepted pair
    pub follows : (answer : Option ℕ) → outcome (Ok answer) s m ≡ entered_of p r mem rom q → flag_outcome (Ok answer) s m after ≡ flagged (step_of p rom (machine r mem) q)
    follows None e =
        let w = stepped e in
        let st = subst (Leaves (λ t. Stored r.bus.pointer (stores_of p r q) mem t.memory)) (sym w) (step-stores p rom (machine r mem) whole-memory q) in
        ap (λ (l : List ℕ). done (with_flags (machine s m) l)) (after-is st) ∙ ap flagged w
    follows (Some b) e =
        let w = stepped e in
        let st = subst (Leaves (λ t. Stored r.bus.pointer (stores_of p r q) mem t.memory)) (sym w) (step-stores p rom (machine r mem) whole-memory q) in
        ap (λ (l : List ℕ). answered (with_flags (machine s m) l) b) (after-is st) ∙ ap flagged w

    -- a read leaves memory and flags
    pub still : (answer : Option ℕ) → outcome (Ok answer) s m ≡ entered_of p r mem rom q → IfSome answer (λ b. m ≡ mem) → IfSome answer (λ b. (m ≡ mem) × (after ≡ flags))
    still None e h = tt
    still (Some b) e h =
        let w = subst (Still (machine r mem) (stores_of p r q)) (sym (stepped e)) (stills p rom (machine r mem) q) in
        let none : n ≡ 0 = asked ∙ ap (λ (t : Bool). cond t (stores_of p r q) 0) k.panel ∙ w.1 in
        let alike : altered ≡ false = differ ∙ ap (λ (d : Display). not (same_display r.display d)) w.0 ∙ ap not (same-own r.display) in
        (h, marks ∙ marked-is m n altered long ∙ (λ i. marked_of p r.display m r.bus.pointer (none i) (alike i) flags) ∙ sym (marks-none p r.display m r.bus.pointer 0 false flags k.rows refl))

  -- a refused pair
  pub left_alone : (e : Refusal) (s : Registers) (m : List ℕ) → outcome (Err e) s m ≡ entered_of p r mem rom q → flag_outcome (Err e) s m flags ≡ flagged (step_of p rom (machine r mem) q)
  left_alone e s m h = ap flagged (stepped h)
