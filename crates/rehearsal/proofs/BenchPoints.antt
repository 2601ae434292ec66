-- The starred bench points hold.
use mathlib.Core.Path.{◌≡◌, refl, ap, ◌∙◌}
use mathlib.Core.Bool.{Bool, true, false, not, ◌&&◌}
use mathlib.Core.List.{List}
use Prim.Native.Nat.{ℕ, ◌≤◌, ◌<◌}
use native.Mathlib.Omega.{arith}
use lib.Dec.{leb-zero}
use lib.Bits.{bit_or, bit_and}
use lib.ListN.{length, get_or, set, length-set}
use lib.Seq.{get_or-set_same}
use Rattle.state.specs.declared.panel.Panel.{Panel}
use Rattle.state.specs.declared.registers.Registers.{Registers}
use Rattle.state.specs.Attribute.{attributed, look_of}
use Rattle.display.specs.Displayed.{glyph_row}
use Rattle.sight.specs.Located.{At, Nowhere}
use Rattle.sight.specs.Position.{position_of}
use Rattle.sight.proofs.Positions.{position_at, position-none}
use Rattle.effects.specs.Effect.{pushed}
use Rattle.effects.proofs.Pushes.{pushed-one, pushed-two}
use Rattle.controller.specs.Run.{run_from}
use Rattle.writer.proofs.Lengths.{opening-length}
use Rattle.rehearsal.specs.BenchPoints.{BenchPoints}

never_both : (b : Bool) → (b && false) ≡ false
never_both true = refl
never_both false = refl

module _ (mem : List ℕ) (at : ℕ) (h : at < length mem) (z : get_or mem at 0 ≡ 0) where
  set_there : get_or (set mem at (bit_or (get_or mem at 0) 8)) at 0 ≡ 8
  set_there = get_or-set_same mem at (bit_or (get_or mem at 0) 8) 0 h ∙ ap (λ (n : ℕ). bit_or n 8) z

  reset-there : (m : List ℕ) → m ≡ set mem at (bit_or (get_or mem at 0) 8) → get_or (set m at (bit_and (get_or m at 0) 247)) at 0 ≡ 0
  reset-there m e =
      get_or-set_same m at (bit_and (get_or m at 0) 247) 0 (rw (e, length-set) h)
      ∙ ap (λ (n : ℕ). bit_and n 247) (ap (λ (l : List ℕ). get_or l at 0) e ∙ set_there)

module _ (p : Panel) (twenty : p.columns ≡ 20) where
  at-13h : 1 ≤ p.lines → position_of p (record { home = 0; area = 32 }) 0x13 ≡ At 0 0x13
  at-13h h = position_at p (record { home = 0; area = 32 }) 0x13 0 0x13 (omega arith) (omega arith) (λ i j m n e. omega arith) (λ j m e. omega arith) refl

  at-14h : p.lines ≤ 32 → position_of p (record { home = 0; area = 32 }) 0x14 ≡ Nowhere
  at-14h h = position-none p (record { home = 0; area = 32 }) 0x14 (λ r c l k e. omega arith)

pub bench-points : (p : Panel) (rom mem : List ℕ) (r : Registers) → BenchPoints p rom mem r
unfolding glyph_row attributed look_of run_from
bench-points p rom mem r =
    let any = leb-zero r.bus.pending.count in
    record {
      glyph_at_1400h = λ v e. rw (never_both (not r.display.external), e);
      status_reset = refl;
      status_auto_write = λ f e a. rw (a, e, f);
      status_auto_read = λ f e a. rw (a, e, f);
      status_tick = λ b. refl;
      reads_reset = λ b. record { accepted = refl; once = refl; reads = refl };
      reads_auto_write = λ b f e a. record { accepted = rw (a, any); once = rw (a, any); reads = rw (a, any, e, f) };
      reads_auto_read = λ b f e a. record { accepted = rw (a, any); once = rw (a, any); reads = rw (a, any, e, f) };
      reads_tick = λ b c f e a. record { accepted = refl; once = refl; reads = rw (a, e, f) };
      pointer_up = λ size a n. record {
        accepted = rw (a, pushed-one r.bus.pending 0x55);
        points = rw (a, pushed-one r.bus.pending 0x55, n);
        holds = rw (a, pushed-one r.bus.pending 0x55, n) (get_or-set_same mem 0xffff 0x55 0 (omega arith));
      };
      pointer_down = λ a n. record { accepted = rw (a, any); points = rw (a, any, n); holds = rw (a, any) };
      last_two_serve = λ a. record {
        accepted = rw (a, pushed-two (pushed r.bus.pending 0x11) 0x22 0x33);
        points = rw (a, pushed-two (pushed r.bus.pending 0x11) 0x22 0x33);
        holds = rw (a, pushed-two (pushed r.bus.pending 0x11) 0x22 0x33);
      };
      one_datum = λ b a q. rw (a, q);
      undefined_82h = refl;
      external_and = λ a. rw (a, any);
      auto_read_94h = λ a. rw a;
      auto_read_a8h = λ a. refl;
      peek_found = λ c l g a n. record { accepted = rw (a, any); flags = rw (a, any, g, n, at-13h p c l); latches = rw (a, any, g, n, at-13h p c l) };
      peek_error = λ c l g a n. record { accepted = rw (a, any); flags = rw (a, any, g, n, at-14h p c l); latches = rw (a, any, g, n, at-14h p c l) };
      area_0 = λ home h k l. position_at p (record { home = home; area = 0 }) home 0 0 (omega arith) h (λ i j m n e. omega arith) (λ j m e. omega arith) (omega arith);
      bit_set = λ a h z. record { accepted = rw (a, any); points = rw (a, any); holds = rw (a, any) (set_there mem r.bus.pointer h z) };
      bit_reset = λ a h z. record { accepted = rw (a, any); points = rw (a, any); holds = rw (a, any) (reset-there mem r.bus.pointer h z _ refl) };
      reversed_at_8 = λ normal attribute e. rw e;
      reversed_at_6 = λ normal attribute e. rw e;
      opening_1_1 = λ c l. opening-length p ∙ rw (c, l);
      opening_30_8 = λ c l. opening-length p ∙ rw (c, l);
    }
