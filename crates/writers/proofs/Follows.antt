-- A log followed pair by pair: what is left from here comes to the whole, and the list holds the stores so far.
use Rattle.std.proofs.Common.{◌≡◌, ℕ, zero, suc, ◌+◌, ◌-◌, ◌*◌, ◌/◌, ◌%◌, ◌^◌, ◌<◌, ◌≤◌, Bool, true, false, cond, not, ◌&&◌, ◌||◌, eqb, ltb, leb, List, [], ◌++◌, length, get_or, take, set, sym, refl, ap, ◌∙◌, subst, arith, Option, Some, None, take_all, get_or-set_same, ltb-true, eq-eqb, eqb-true, le-leb, leb-false, leb-true}
use mathlib.Core.Bool.{false≢true}
use lib.Seq.{sets}
use borrow.Author.Tests.{lt-leb}
use Rattle.ground.proofs.Tests.{both_left, both_right, settled}
use Rattle.state.specs.State.{valid_panel, valid_registers, none}
use Rattle.state.proofs.RefusalNumbers.{same_placed_reply}
use Rattle.writers.specs.declared.list.Listed.{Listed as Answered}
use Rattle.writers.specs.Replied.{listed}
use Rattle.display.specs.Frame.{lent_lengths}
use Rattle.codes.specs.Command.{is_off, decode_of}
use Rattle.effects.specs.Machine.{Machine, machine}
use Rattle.effects.specs.Effect.{with_pointer, with_pending, with_auto, with_phase, pushed, moved_of, is_write, is_read}
use Rattle.controller.specs.Types.{Up}
use Rattle.controller.specs.Access.{Pair, Step, done, answered, refused, data_write_of, data_read_of, step_of}
use Rattle.controller.specs.Run.{pairs_of, Standing, run_from}
use Rattle.controller.specs.Run as run
use Rattle.controller.specs.Ready.{Runs}
use Rattle.controller.proofs.Blocks.{pair_at, write-only}
use Rattle.controller.proofs.Laws.{Sounds, sounds, step-sound}
use Rattle.controller.proofs.Goings.{Leaves, Going, going, going-ends, going_done}
use Rattle.controller.proofs.Readied.{runs-lengths}
use Rattle.controller.proofs.Runs.{pairs-length}
use Rattle.usual.specs.Ready.{Draws}
use Rattle.usual.proofs.Tells.{leaves}
use Rattle.stores.specs.Stores.{code_stores, stores_of, from_address}
use Rattle.noting.specs.Stretch as stretch
use Rattle.noting.specs.Stretch.{store, store_at, stores_in, store_numbers}
use Rattle.noting.specs.Noted.{room_of, capped, Noting, noting, noted_by, noted_each}
use Rattle.noting.specs.Notes.{noting_of, Stays}
use Rattle.noting.specs.Said.{said, Says}
use Rattle.noting.specs.Laid.{laid, datum_at, Lays}
use Rattle.noting.proofs.Notes.{notes-none, notes-one, capped-least}
use Rattle.noting.proofs.Singly.{none_below}
use Rattle.writers.specs.Types.{Panel, Display, Auto, Off, Write, Read, Bus, Registers, Drawn, Listed, Said, Notes}
use Rattle.writers.specs.Listing.{Listing, listing, list_by, list_step, begun_list}
use Rattle.writers.specs.Listed.{ListedAll, listed_all, unlisted, listed_of, list_of}
use Rattle.writers.specs.Ready.{Behind, behind, behind_by, ended_of}
use Rattle.writers.proofs.Holds.{Holds, holds-none, holds-all}

-- what is kept: a sound controller
pub record Listable (s : Listing) : Type 0 where
  pub sound : Sounds s.machine

list-sound : (p : Panel) (rom : List ℕ) (first last : ℕ) (s : Listing) → Listable s → (q : Pair) → Leaves Listable (list_step p rom first last s q)
list-sound p rom first last s k q = go (step_of p rom s.machine q) (step-sound p rom s.machine k.sound q)
  where
    go : (o : Step Machine) → Leaves Sounds o → Leaves Listable (list_by p first last s q o)
    go (done m) l = record { sound = l }
    go (answered m b) l = record { sound = l }
    go (refused n) l = record { sound = k.sound }

abbrev pub standing_by : Registers → List ℕ → List stretch.Store → ℕ → Standing Listing
standing_by r m es i = record { machine = listing (machine r m) es i; answers = []; given = 0 }

-- before pair i
pub record Following (p : Panel) (rom : List ℕ) (first last : ℕ) (log : List ℕ) (total : ℕ) (s₀ : Standing Listing) (list₀ : List ℕ) (r : Registers) (m list : List ℕ) (count i : ℕ) : Type 0 where
  pub stores : List stretch.Store
  pub goes_on : Going (list_step p rom first last) Listable log total s₀ (standing_by r m stores i) i
  pub holds : Holds list₀ stores (noting count list)
  pub few : room_of list₀ < 2 ^ 64 - 1

pub following : (p : Panel) (rom : List ℕ) (first last : ℕ) (log : List ℕ) (total : ℕ) (list : List ℕ) (r : Registers) (m : List ℕ) → Runs p r m rom → length list < 2 ^ 64
    → Following p rom first last log total (begun_list r m) list r m list 0 0
following p rom first last log total list r m k l =
    record {
      stores = [];
      goes_on = going (list_step p rom first last) Listable (list-sound p rom first last) log total (begun_list r m) (record { sound = sounds r m k.state (runs-lengths k).0 });
      holds = holds-none list;
      few = omega arith;
    }

module _ {p : Panel} {rom : List ℕ} {first last : ℕ} {log : List ℕ} {total : ℕ} {s₀ : Standing Listing} {list₀ : List ℕ} {r : Registers} {m list : List ℕ} {count i : ℕ}
    (g : Following p rom first last log total s₀ list₀ r m list count i) where
  abbrev Next : Registers → List ℕ → List ℕ → ℕ → Type 0
  Next r' m' list' count' = Following p rom first last log total s₀ list₀ r' m' list' count' (i + 1)

  abbrev due : Machine → ℕ → Noting
  due t k = noted_each first last (store_at i (machine r m) t) k (noting count list)

  pub memory-long : length m ≡ 65536
  memory-long = g.goes_on.sound.sound.memory

  list-long : length list ≡ length list₀
  list-long = g.holds.long

  -- all pairs taken
  module _ (h : total ≤ i) (l : length log / 2 ≤ total) where
    ended : listing (machine r m) g.stores i ≡ (run_from (list_step p rom first last) 0 (pairs_of log) s₀).standing.machine
    ended =
        ap (λ (e : run.Run Listing). e.standing.machine)
        (going-ends (list_step p rom first last) Listable (list-sound p rom first last) g.goes_on h
        ∙ ap (λ (qs : List Pair). run_from (list_step p rom first last) 0 qs s₀) (take_all total (pairs_of log) (omega (arith, pairs-length log))))

    abbrev ending : Bool → ListedAll
    ending t =
        cond t
        (listed_all (record { registers = r; number = 0; place = 0; count = length g.stores }) m (sets list₀ 0 (store_numbers g.stores)))
        (listed_all (record { registers = r; number = 15; place = capped (length g.stores); count = room_of list₀ }) m (sets list₀ 0 (store_numbers (take (room_of list₀) g.stores))))

    room-same : room_of list ≡ room_of list₀
    room-same = ap (λ (n : ℕ). n / 4) list-long

    capped_fits : count ≤ room_of list₀ → capped (length g.stores) ≡ length g.stores
    capped_fits f = go (ltb (length g.stores) (2 ^ 64)) (subst (λ (n : ℕ). n ≤ room_of list₀) g.holds.counts f)
      where
        go : (t : Bool) → cond t (length g.stores) (2 ^ 64 - 1) ≤ room_of list₀ → cond t (length g.stores) (2 ^ 64 - 1) ≡ length g.stores
        go true e = refl
        go false e = absurd (let y : ⊥ = omega (arith, g.few) in y)

    ends-listed : count ≤ room_of list
        → listed_all (record { registers = r; number = 0; place = 0; count = count }) m list
        ≡ listed_of list₀ (run_from (list_step p rom first last) 0 (pairs_of log) s₀).standing.machine
    ends-listed f =
        let inside : count ≤ room_of list₀ = subst (λ (n : ℕ). count ≤ n) room-same f in
        let exact : count ≡ length g.stores = g.holds.counts ∙ capped_fits inside in
        let fits : length g.stores ≤ room_of list₀ = subst (λ (n : ℕ). n ≤ room_of list₀) exact inside in
        (λ t. listed_all (record { registers = r; number = 0; place = 0; count = exact t })
        m ((g.holds.lists ∙ ap (λ (l : List stretch.Store). sets list₀ 0 (store_numbers l)) (take_all (room_of list₀) g.stores fits)) t))
        ∙ ap ending (sym (le-leb (length g.stores) (room_of list₀) fits))
        ∙ ap (listed_of list₀) ended

    ends-full : room_of list < count
        → listed_all (record { registers = r; number = 15; place = count; count = room_of list }) m list
        ≡ listed_of list₀ (run_from (list_step p rom first last) 0 (pairs_of log) s₀).standing.machine
    ends-full f =
        let outside : room_of list₀ < count = subst (λ (n : ℕ). n < count) room-same f in
        let over : room_of list₀ < length g.stores = omega (arith, outside, g.holds.counts, capped-least (length g.stores)) in
        (λ t. listed_all (record { registers = r; number = 15; place = g.holds.counts t; count = room-same t }) m (g.holds.lists t))
        ∙ ap ending (sym (lt-leb (length g.stores) (room_of list₀) over))
        ∙ ap (listed_of list₀) ended

    pub ends : {x : Listed} → x ≡ ended_of r (room_of list) count
        → listed_all x m list ≡ listed_of list₀ (run_from (list_step p rom first last) 0 (pairs_of log) s₀).standing.machine
    ends e = ap (λ (y : Listed). listed_all y m list) e ∙ go (leb count (room_of list)) refl
      where
        go : (t : Bool) → leb count (room_of list) ≡ t
            → listed_all (cond t (record { registers = r; number = 0; place = 0; count = count }) (record { registers = r; number = 15; place = count; count = room_of list })) m list
            ≡ listed_of list₀ (run_from (list_step p rom first last) 0 (pairs_of log) s₀).standing.machine
        go true f = ends-listed (leb-true count (room_of list) f)
        go false f = ends-full (leb-false count (room_of list) f)

  module _ (h : i < total) (l : 2 * total ≤ length log) where
    -- a pair of a known kind, taken
    follows : (n : ℕ) → get_or log (2 * i) 0 ≡ n → (t : Machine) (k : ℕ)
        → list_step p rom first last (listing (machine r m) g.stores i) (record { kind = n; byte = get_or log (2 * i + 1) 0 })
        ≡ done (listing t (g.stores ++ stores_in first last (store_at i (machine r m) t) k) (i + 1))
        → {x : Noting} → x ≡ due t k → Next t.registers t.memory x.list x.count
    follows n e t k s {x} f =
        record {
          stores = g.stores ++ stores_in first last (store_at i (machine r m) t) k;
          goes_on = going_done (list_step p rom first last) Listable (list-sound p rom first last) g.goes_on h l n e s;
          holds = subst (Holds list₀ (g.stores ++ stores_in first last (store_at i (machine r m) t) k)) (sym f)
              (holds-all list₀ g.few first last (store_at i (machine r m) t) k g.stores (noting count list) g.holds);
          few = g.few;
        }

    abbrev next : Machine → ℕ → Listing
    next t k = listing t (g.stores ++ stores_in first last (store_at i (machine r m) t) k) (i + 1)

    follows-done : (n : ℕ) → get_or log (2 * i) 0 ≡ n → {t : Machine} {k : ℕ}
        → step_of p rom (machine r m) (record { kind = n; byte = get_or log (2 * i + 1) 0 }) ≡ done t
        → stores_of p r (record { kind = n; byte = get_or log (2 * i + 1) 0 }) ≡ k
        → {x : Noting} → x ≡ due t k → Next t.registers t.memory x.list x.count
    follows-done n e {t} {k} s c f =
        follows n e t k
        (ap (list_by p first last (listing (machine r m) g.stores i) (record { kind = n; byte = get_or log (2 * i + 1) 0 })) s ∙ ap (λ (j : ℕ). done (next t j)) c) f

    follows-answered : (n : ℕ) → get_or log (2 * i) 0 ≡ n → {t : Machine} {b k : ℕ}
        → step_of p rom (machine r m) (record { kind = n; byte = get_or log (2 * i + 1) 0 }) ≡ answered t b
        → stores_of p r (record { kind = n; byte = get_or log (2 * i + 1) 0 }) ≡ k
        → {x : Noting} → x ≡ due t k → Next t.registers t.memory x.list x.count
    follows-answered n e {t} {b} {k} s c f =
        follows n e t k
        (ap (list_by p first last (listing (machine r m) g.stores i) (record { kind = n; byte = get_or log (2 * i + 1) 0 })) s ∙ ap (λ (j : ℕ). done (next t j)) c) f

    -- nothing stored: nothing noted
    unnoted : (t : Machine) → noting count list ≡ due t 0
    unnoted t = notes-none first last (store_at i (machine r m) t) (noting count list)

    follows-quiet : (n : ℕ) → get_or log (2 * i) 0 ≡ n → {t : Machine}
        → step_of p rom (machine r m) (record { kind = n; byte = get_or log (2 * i + 1) 0 }) ≡ done t
        → stores_of p r (record { kind = n; byte = get_or log (2 * i + 1) 0 }) ≡ 0 → Next t.registers t.memory list count
    follows-quiet n e {t} s c = follows-done n e {t = t} {k = 0} s c {x = noting count list} (unnoted t)

    follows-heard : (n : ℕ) → get_or log (2 * i) 0 ≡ n → {t : Machine} {b : ℕ}
        → step_of p rom (machine r m) (record { kind = n; byte = get_or log (2 * i + 1) 0 }) ≡ answered t b
        → stores_of p r (record { kind = n; byte = get_or log (2 * i + 1) 0 }) ≡ 0 → Next t.registers t.memory list count
    follows-heard n e {t} {b} s c = follows-answered n e {t = t} {b = b} {k = 0} s c {x = noting count list} (unnoted t)

    -- one byte stored and noted
    noted_one : r.bus.pointer < 65536 → (byte : ℕ) (r' : Registers)
        → noted_by first last (store i r.bus.pointer (get_or m r.bus.pointer 0) byte) (noting count list) ≡ due (machine r' (set m r.bus.pointer byte)) 1
    noted_one low byte r' =
        let here : r.bus.pointer ≡ from_address r.bus.pointer 0 = omega arith in
        let after : byte ≡ get_or (set m r.bus.pointer byte) r.bus.pointer 0 = sym (get_or-set_same m r.bus.pointer byte 0 (omega (arith, low, memory-long))) in
        (λ j. noted_by first last (store i r.bus.pointer (get_or m r.bus.pointer 0) (after j)) (noting count list))
        ∙ (λ j. noted_by first last (store i (here j) (get_or m (here j) 0) (get_or (set m r.bus.pointer byte) (here j) 0)) (noting count list))
        ∙ notes-one first last (store_at i (machine r m) (machine r' (set m r.bus.pointer byte))) (noting count list)

-- the pairs that are taken apart from the others
off-only : (a : Auto) → is_off a ≡ true → a ≡ Off
off-only Off e = refl
off-only Write e = absurd (false≢true e)
off-only Read e = absurd (false≢true e)

read_only : (a : Auto) → is_read a ≡ true → a ≡ Read
read_only Off e = absurd (false≢true e)
read_only Write e = absurd (false≢true e)
read_only Read e = refl

module _ {p : Panel} {rom : List ℕ} {first last : ℕ} {log : List ℕ} {total : ℕ} {s₀ : Standing Listing} {list₀ : List ℕ} {d : Display} {b : Bus} {m list : List ℕ} {count i : ℕ}
    (g : Following p rom first last log total s₀ list₀ (record { display = d; bus = b }) m list count i) (h : i < total) (l : 2 * total ≤ length log) where
  abbrev kind : ℕ
  kind = get_or log (2 * i) 0

  abbrev byte : ℕ
  byte = get_or log (2 * i + 1) 0

  abbrev On : Display → Bus → List ℕ → List ℕ → ℕ → Type 0
  On d' b' m' list' count' = Following p rom first last log total s₀ list₀ (record { display = d'; bus = b' }) m' list' count' (i + 1)

  abbrev datum_noted : Noting
  datum_noted = noted_by first last (store i b.pointer (get_or m b.pointer 0) byte) (noting count list)

  -- a datum in auto write
  follows-datum : b.auto ≡ Write → kind ≡ 0 → b.pointer < 65536
      → On d (with_pointer b (moved_of Up b.pointer)) (set m b.pointer byte) datum_noted.list datum_noted.count
  follows-datum a z low =
      follows-done g h l 0 z
      (ap (λ (x : Auto). data_write_of x (machine (record { display = d; bus = b }) m) byte) a)
      (ap (λ (x : Auto). cond (is_write x) 1 0) a)
      (noted_one g h l low byte (record { display = d; bus = with_pointer b (moved_of Up b.pointer) }))

  module _ {off : Bool} (e : off ≡ is_off b.auto) where
    pub follows-push : (eqb kind 0 && off) ≡ true → {next : Bus} → next ≡ with_pending b (pushed b.pending byte) → On d next m list count
    follows-push t f =
        let a : b.auto ≡ Off = off-only b.auto (sym e ∙ both_right (eqb kind 0) off t) in
        subst (λ (x : Bus). On d x m list count) (sym f)
        (follows-quiet g h l 0 (eqb-true kind 0 (both_left (eqb kind 0) off t))
        (ap (λ (z : Auto). data_write_of z (machine (record { display = d; bus = b }) m) byte) a)
        (ap (λ (z : Auto). cond (is_write z) 1 0) a))

    follows-latch : (eqb kind 2 && off) ≡ true → On d b m list count
    follows-latch t =
        let a : b.auto ≡ Off = off-only b.auto (sym e ∙ both_right (eqb kind 2) off t) in
        follows-heard g h l 2 (eqb-true kind 2 (both_left (eqb kind 2) off t))
        (ap (λ (z : Auto). data_read_of z (machine (record { display = d; bus = b }) m)) a) refl

    -- a command told to the bus and the memory
    pub follows_said : {said : Said} {m' list' : List ℕ} → Says first last i b m (eqb kind 1 && off) byte (noting count list) said m' list' → said.done ≡ true
        → On d said.bus m' list' said.count
    follows_said {said} {m'} {list'} k t =
        let u = k.quiet t in
        follows-done g h l 1 (eqb-true kind 1 (both_left (eqb kind 1) off u)) {t = machine (record { display = d; bus = said.bus }) m'}
        (k.acts t (sym e ∙ both_right (eqb kind 1) off u) p rom d) refl {x = noting said.count list'} (k.notes t p d)

    pub follows-draw : {drawn : Drawn} → Draws d ((eqb kind 1 && off) && ltb byte 0xc0) byte drawn → drawn.done ≡ true
        → {next : Bus} → next ≡ with_pending b none → On drawn.display next m list count
    follows-draw {drawn} k t f =
        let u = both_left (eqb kind 1 && off) (ltb byte 0xc0) (k.quiet t) in
        let low : byte < 0xc0 = ltb-true byte 0xc0 (both_right (eqb kind 1 && off) (ltb byte 0xc0) (k.quiet t)) in
        subst (λ (x : Bus). On drawn.display x m list count) (sym f)
        (follows-quiet g h l 1 (eqb-true kind 1 (both_left (eqb kind 1) off u))
        (k.acts t b (sym e ∙ both_right (eqb kind 1) off u) p rom m) (none_below p (record { display = d; bus = b }) byte low))

    -- a read that answers a byte and does no more
    pub follows-idle : (eqb kind 3 || (eqb kind 2 && off)) ≡ true → On d b m list count
    follows-idle t = go (eqb kind 3) refl t
      where
        go : (u : Bool) → eqb kind 3 ≡ u → (u || (eqb kind 2 && off)) ≡ true → On d b m list count
        go true v w = follows-heard g h l 3 (eqb-true kind 3 v) refl refl
        go false v w = follows-latch w

  pub follows-tick : kind ≡ 4 → {next : Display} → next ≡ with_phase d (not d.phase) → On next b m list count
  follows-tick t f = subst (λ (x : Display). On x b m list count) (sym f) (follows-quiet g h l 4 t refl refl)

  pub follows-leave : (eqb kind 1 && eqb byte 0xb2) ≡ true → {next : Bus} → next ≡ with_pending (with_auto b Off) none → On d next m list count
  follows-leave t f =
      let k : byte ≡ 0xb2 = eqb-true byte 0xb2 (both_right (eqb kind 1) (eqb byte 0xb2) t) in
      subst (λ (x : Bus). On d x m list count) (sym f)
      (follows-quiet g h l 1 (eqb-true kind 1 (both_left (eqb kind 1) (eqb byte 0xb2) t))
      (leaves p rom m d b byte k refl) (ap (λ (n : ℕ). code_stores p (record { display = d; bus = b }) (decode_of n)) k))

  pub follows-read : {read : Bool} → read ≡ is_read b.auto → (eqb kind 2 && read) ≡ true → {next : ℕ} → next ≡ moved_of Up b.pointer
      → On d (with_pointer b next) m list count
  follows-read {read} e t {next} f =
      let a : b.auto ≡ Read = read_only b.auto (sym e ∙ both_right (eqb kind 2) read t) in
      subst (λ (n : ℕ). On d (with_pointer b n) m list count) (sym f)
      (follows-heard g h l 2 (eqb-true kind 2 (both_left (eqb kind 2) read t))
      (ap (λ (z : Auto). data_read_of z (machine (record { display = d; bus = b }) m)) a) refl)

  abbrev here : Machine
  here = machine (record { display = d; bus = b }) m

  -- any pair, by a whole access
  pub follows-through : {r : Registers} {m' : List ℕ} {x : Noting}
      → behind (machine r m') x
      ≡ behind_by p first last i here (pair_at log i) (noting count list) (step_of p rom here (pair_at log i))
      → Following p rom first last log total s₀ list₀ r m' x.list x.count (i + 1)
  follows-through {r} {m'} {x} f =
      subst
      (λ (y : Behind). Following p rom first last log total s₀ list₀ y.machine.registers y.machine.memory y.notes.list y.notes.count (i + 1)) (sym f)
      (go (step_of p rom here (pair_at log i)) refl)
    where
      go : (o : Step Machine) → step_of p rom here (pair_at log i) ≡ o
          → let y = behind_by p first last i here (pair_at log i) (noting count list) o in
          Following p rom first last log total s₀ list₀ y.machine.registers y.machine.memory y.notes.list y.notes.count (i + 1)
      go (done t) w = follows-done g h l kind refl w refl refl
      go (answered t c) w = follows-answered g h l kind refl w refl refl
      go (refused n) w =
          record {
            stores = g.stores;
            goes_on = going_done (list_step p rom first last) Listable (list-sound p rom first last) g.goes_on h l kind refl
                (ap (list_by p first last (listing here g.stores i) (pair_at log i)) w);
            holds = g.holds;
            few = g.few;
          }

-- data in auto write from pair i on
module _ {p : Panel} {rom : List ℕ} {first last : ℕ} {log : List ℕ} {total : ℕ} {s₀ : Standing Listing} {list₀ : List ℕ} {d : Display} {b : Bus} {m list : List ℕ} {count i : ℕ}
    (g : Following p rom first last log total s₀ list₀ (record { display = d; bus = b }) m list count i) (l : 2 * total ≤ length log) where
  abbrev After : Bus → List ℕ → Noting → ℕ → Type 0
  After b' m' x j = Following p rom first last log total s₀ list₀ (record { display = d; bus = b' }) m' x.list x.count j

  behind-data : b.auto ≡ Write → b.pointer < 65536 → (k : ℕ) → i + k ≤ total → ((j : ℕ) → j < k → get_or log (2 * (i + j)) 0 ≡ 0)
      → After (with_pointer b (from_address b.pointer k)) (laid log i b.pointer m k) (noted_each first last (datum_at log i b.pointer m) k (noting count list)) (i + k)
  unfolding laid noted_each
  behind-data w low zero h z =
      let e : b.pointer ≡ from_address b.pointer 0 = omega arith in
      let f : i ≡ i + 0 = omega arith in
      subst (After (with_pointer b (from_address b.pointer 0)) m (noting count list)) f (subst (λ (n : ℕ). After (with_pointer b n) m (noting count list) i) e g)
  behind-data w low (suc k) h z =
      let on = follows-datum (behind-data w low k (omega arith) (λ j q. z j (omega arith))) (omega arith) l w (z k (omega arith)) (omega arith) in
      let e : moved_of Up (from_address b.pointer k) ≡ from_address b.pointer (suc k) = omega arith in
      let f : i + k + 1 ≡ i + suc k = omega arith in
      subst (After (with_pointer b (from_address b.pointer (suc k))) (laid log i b.pointer m (suc k)) (noted_each first last (datum_at log i b.pointer m) (suc k) (noting count list))) f
      (subst (λ (n : ℕ). After (with_pointer b n) (laid log i b.pointer m (suc k)) (noted_each first last (datum_at log i b.pointer m) (suc k) (noting count list)) (i + k + 1)) e on)

  pub follows-data : {w : Bool} → w ≡ is_write b.auto → (eqb (get_or log (2 * i) 0) 0 && w) ≡ true → {left : ℕ} → i + left ≤ total → {m' : List ℕ} {x : Noting} {k : ℕ}
      → Lays first last log i left b.pointer m m' (noting count list) x k → {next : Bus} → next ≡ with_pointer b ((b.pointer + k) % 65536)
      → After next m' x (i + k)
  follows-data {w} e t f {m'} {x} {k} n {next} q =
      let a : b.auto ≡ Write = write-only b.auto (sym e ∙ both_right (eqb (get_or log (2 * i) 0) 0) w t) in
      subst (λ (y : Bus). After y m' x (i + k)) (sym q)
      (subst (λ (y : List ℕ). After (with_pointer b (from_address b.pointer k)) y x (i + k)) (sym n.blocks.stores)
      (subst (λ (y : Noting). After (with_pointer b (from_address b.pointer k)) (laid log i b.pointer m k) y (i + k)) (sym n.notes)
      (behind-data a n.blocks.low k (omega (arith, n.blocks.few, f)) n.blocks.kinds)))

-- a datum in auto write is taken
pub data-goes : {first last : ℕ} {log : List ℕ} {i left at : ℕ} {m m' : List ℕ} {x y : Noting} {k : ℕ} → Lays first last log i left at m m' x y k
    → (w : Bool) → (eqb (get_or log (2 * i) 0) 0 && w) ≡ true → 0 < left → 0 < k
data-goes {log = log} {i = i} n w t h = n.blocks.some h (eqb-true (get_or log (2 * i) 0) 0 (both_left (eqb (get_or log (2 * i) 0) 0) w t))

-- on what is lent
pub record Followed (p : Panel) (rom log : List ℕ) (total : ℕ) (s₀ : Standing Listing) (a : Notes) (r : Registers) (m : List ℕ) (b : Notes) (i : ℕ) : Type 0 where
  pub following : Following p rom a.stretch.first a.stretch.last log total s₀ a.list.now r m b.list.now b.count i
  pub stays : Stays a b

pub followed : (p : Panel) (rom log : List ℕ) (total : ℕ) (a : Notes) (r : Registers) (m : List ℕ) → Runs p r m rom → a.count ≡ 0 → length a.list.now < 2 ^ 64
    → Followed p rom log total (begun_list r m) a r m a 0
followed p rom log total a r m k z l =
    record {
      following = subst (λ (n : ℕ). Following p rom a.stretch.first a.stretch.last log total (begun_list r m) a.list.now r m a.list.now n 0) (sym z)
          (following p rom a.stretch.first a.stretch.last log total a.list.now r m k l);
      stays = record { stretch = refl; same_list = refl; long = refl };
    }

module _ {p : Panel} {rom log : List ℕ} {total : ℕ} {s₀ : Standing Listing} {a : Notes} {d : Display} {b : Bus} {m : List ℕ} {n : Notes} {i : ℕ}
    (g : Followed p rom log total s₀ a (record { display = d; bus = b }) m n i) where
  -- behind a call that is lent what was lent here
  behind_call : {next : Notes} → Stays n next → Stays a next
  behind_call s = record { stretch = s.stretch ∙ g.stays.stretch; same_list = s.same_list ∙ g.stays.same_list; long = s.long ∙ g.stays.long }

  pub followed-data : 2 * total ≤ length log → {w : Bool} → w ≡ is_write b.auto → (eqb (get_or log (2 * i) 0) 0 && w) ≡ true → {left : ℕ} → i + left ≤ total → {m' : List ℕ} {k : ℕ} {n' : Notes}
      → Lays n.stretch.first n.stretch.last log i left b.pointer m m' (noting_of n) (noting_of n') k → Stays n n' → {next : Bus} → next ≡ with_pointer b ((b.pointer + k) % 65536)
      → Followed p rom log total s₀ a (record { display = d; bus = next }) m' n' (i + k)
  followed-data l e t f y s q =
      record { following = follows-data g.following l e t f (rw g.stays.stretch at y) q; stays = behind_call s }

  pub followed-said : i < total → 2 * total ≤ length log → {off : Bool} → off ≡ is_off b.auto → {o : Option Bus} {next : Bus} → o ≡ Some next → {m' : List ℕ} {n' : Notes}
      → Says n.stretch.first n.stretch.last i b m (eqb (get_or log (2 * i) 0) 1 && off) (get_or log (2 * i + 1) 0) (noting_of n) (said b o n'.count) m' n'.list.now → Stays n n'
      → Followed p rom log total s₀ a (record { display = d; bus = next }) m' n' (i + 1)
  followed-said h l e f k s =
      record { following = follows_said g.following h l e (rw f at rw g.stays.stretch at k) refl; stays = behind_call s }

  -- a command that was left
  pub left-as : {o : Option Bus} → o ≡ None → {still : Bool} {code : ℕ} {m' : List ℕ} {n' : Notes}
      → Says n.stretch.first n.stretch.last i b m still code (noting_of n) (said b o n'.count) m' n'.list.now → (o ≡ None → noting_of n' ≡ noting_of n) → Stays n n'
      → Followed p rom log total s₀ a (record { display = d; bus = b }) m' n' i
  left-as f {still} {code} {m'} {n'} k same s =
      let left : Says n.stretch.first n.stretch.last i b m still code (noting_of n) (said b None n'.count) m' n'.list.now = rw f at k in
      record {
        following = subst (λ (x : List ℕ). Following p rom a.stretch.first a.stretch.last log total s₀ a.list.now (record { display = d; bus = b }) x n'.list.now n'.count i) (sym (left.keeps refl).0)
            (subst (λ (x : Noting). Following p rom a.stretch.first a.stretch.last log total s₀ a.list.now (record { display = d; bus = b }) m x.list x.count i) (sym (same f)) g.following);
        stays = behind_call s;
      }

  pub followed-through : i < total → 2 * total ≤ length log → {r : Registers} {m' : List ℕ} {n' : Notes}
      → behind (machine r m') (noting_of n')
      ≡ behind_by p n.stretch.first n.stretch.last i (machine (record { display = d; bus = b }) m) (pair_at log i) (noting_of n) (step_of p rom (machine (record { display = d; bus = b }) m) (pair_at log i))
      → Stays n n' → Followed p rom log total s₀ a r m' n' (i + 1)
  followed-through h l f s = record { following = follows-through g.following h l (rw g.stays.stretch at f); stays = behind_call s }

-- the list as it is given back
pub given-back : {x : Listed} {m k l : List ℕ} {y : ListedAll} → listed_all x m k ≡ y → l ≡ k → listed_all x m l ≡ y
given-back {x} {m} f e = ap (λ (l : List ℕ). listed_all x m l) e ∙ f

-- the door
module _ (p : Panel) (r : Registers) (mem rom log : List ℕ) (first last : ℕ) (list : List ℕ) {a b : Bool} (i : a ≡ valid_panel p) (j : b ≡ valid_registers r) where
  abbrev within : ListedAll
  within = listed_of list (run_from (list_step p rom first last) 0 (pairs_of log) (begun_list r mem)).standing.machine

  by_tests : (v l e : Bool) → (a && b) ≡ v → lent_lengths mem rom ≡ l → eqb (length log % 2) 0 ≡ e
      → cond v (cond l (cond e within (listed_all (unlisted 8 (length log / 2) r) mem list)) (listed_all (unlisted 2 0 r) mem list)) (listed_all (unlisted 1 0 r) mem list)
      ≡ list_of p r mem rom log first last list
  unfolding list_of
  by_tests v l e x y z =
      λ t. cond ((sym x ∙ (λ t. i t && j t)) t) (cond (sym y t) (cond (sym z t) within (listed_all (unlisted 8 (length log / 2) r) mem list)) (listed_all (unlisted 2 0 r) mem list)) (listed_all (unlisted 1 0 r) mem list)

  pub list-0 : {x : ListedAll} → (a && b) ≡ true → lent_lengths mem rom ≡ true → length log % 2 ≡ 0 → x ≡ within → x ≡ list_of p r mem rom log first last list
  list-0 v l e h = h ∙ by_tests true true true v l (eq-eqb (length log % 2) 0 e)

-- two replies that meet the promise are equal
pub list-settled : {x y : Listed} {m n k l : List ℕ} (p : Panel) (r : Registers) (mem rom log : List ℕ) (first last : ℕ) (list : List ℕ)
    → listed_all x m k ≡ list_of p r mem rom log first last list → listed_all y n l ≡ list_of p r mem rom log first last list → (x ≡ y) × (m ≡ n) × (k ≡ l)
list-settled p r mem rom log first last list h k =
    let e = settled h k in
    (ap (λ (o : ListedAll). o.listed) e, ap (λ (o : ListedAll). o.memory) e, ap (λ (o : ListedAll). o.list) e)

same_listed : (x y : Answered) → listed x ≡ listed y → x ≡ y
same_listed x y h =
    let r = ap (λ (o : Listed). o.registers) h in
    let c = ap (λ (o : Listed). o.count) h in
    let n = ap (λ (o : Listed). o.number) h in
    let p = ap (λ (o : Listed). o.place) h in
    let e = same_placed_reply x.end y.end (λ i. record { number = n i; place = p i }) in
    λ i. record { registers = r i; count = c i; end = e i }

-- and so are the answers that stand for them
pub list-result-settled : {x y : Answered} {m n k l : List ℕ} (p : Panel) (r : Registers) (mem rom log : List ℕ) (first last : ℕ) (list : List ℕ)
    → listed_all (listed x) m k ≡ list_of p r mem rom log first last list → listed_all (listed y) n l ≡ list_of p r mem rom log first last list → (x ≡ y) × (m ≡ n) × (k ≡ l)
list-result-settled {x} {y} p r mem rom log first last list h k =
    let s = list-settled p r mem rom log first last list h k in (same_listed x y s.0, s.1, s.2)
