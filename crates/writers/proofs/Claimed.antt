-- Who wrote there: every address of the stretch is accounted for; reads and refused pairs write nothing.
use Rattle.std.proofs.Common.{◌≡◌, ℕ, zero, suc, ◌+◌, ◌*◌, ◌<◌, Bool, true, false, cond, ◌||◌, eqb, ltb, leb, List, [], ◌∷◌, ◌++◌, length, get_or, set, sym, refl, ap, ◌∙◌, subst, true≢false, append-nil, arith, eqb-true}
use native.Mathlib.Decide.{dec_lt}
use lib.Seq.{sets}
use borrow.Author.Tests.{eqb-false}
use Rattle.codes.specs.Command.{needed_of, is_off, ends_auto}
use Rattle.effects.specs.Machine.{Machine, machine, pointer}
use Rattle.controller.specs.Types.{Auto, Off, Write, Read, Command, Load, Peek, Up, Down, Stay}
use Rattle.controller.specs.Access.{Pair, code, Step, done, answered, refused, effect_of, dropped, obey_of, data_read_of, step_of}
use Rattle.controller.specs.Run.{pairs_of, Standing, went, halted, turn_of, after_turn, whole, short, end_number, Run, run_from}
use Rattle.controller.specs.Skip.{Skipping, passed_by, skip_by, skip_step}
use Rattle.controller.proofs.Laws.{Sounds, sounds, step-sound, keeps_memory, memory_kept}
use Rattle.controller.proofs.Goings.{Leaves}
use Rattle.stores.specs.Stores.{stores_of}
use Rattle.stores.proofs.Stored.{Stored, step-stores}
use Rattle.noting.specs.Stretch.{Store, in_stretch, store_at, stores_in}
use Rattle.writers.specs.Types.{Panel}
use Rattle.writers.specs.Listing.{Listing, listing, listed_by, list_by, list_step, begun_list}
use Rattle.writers.specs.Claims.{NoneAt, none, other, LastAt, here, later, Accounts, kept, wrote, WhoWrote, Reads, datum_read, status_read, peek, load_up, load_down, load_stay, Unwritten, ReadsWriteNothing, RefusedWritesNothing, Ordinary}

module _ {a : ℕ} where
  none_both : (xs ys : List Store) → NoneAt a xs → NoneAt a ys → NoneAt a (xs ++ ys)
  none_both [] ys none k = k
  none_both (x ∷ xs) ys (other e n) k = other e (none_both xs ys n k)

  last-behind : {b : ℕ} (xs ys : List Store) → LastAt a b ys → LastAt a b (xs ++ ys)
  last-behind [] ys k = k
  last-behind (x ∷ xs) ys k = later (last-behind xs ys k)

  last-before : {b : ℕ} (xs ys : List Store) → LastAt a b xs → NoneAt a ys → LastAt a b (xs ++ ys)
  last-before (x ∷ xs) ys (here e f n) k = here e f (none_both xs ys n k)
  last-before (x ∷ xs) ys (later l) k = later (last-before xs ys l k)
  last-before {b = b} [] ys x'' k = elim x'' [ ]

  -- one after the other
  accounts-both : {u v w : ℕ} (xs ys : List Store) → Accounts a u v xs → Accounts a v w ys → Accounts a u w (xs ++ ys)
  accounts-both xs ys k (wrote l) = wrote (last-behind xs ys l)
  accounts-both xs ys (kept n e) (kept m f) = kept (none_both xs ys n m) (f ∙ e)
  accounts-both {u} {v} {w} xs ys (wrote l) (kept m f) = wrote (subst (λ (b : ℕ). LastAt a b (xs ++ ys)) (sym f) (last-before xs ys l m))

-- of the stores of one pair
data Seen (first last a : ℕ) (f : ℕ → Store) (n b : ℕ) : Type 0 where
  unseen : NoneAt a (stores_in first last f n) → ((j : ℕ) → j < n → a ≡ (f j).address → ⊥) → Seen first last a f n b
  seen : LastAt a b (stores_in first last f n) → Seen first last a f n b

module _ (first last a : ℕ) (h : in_stretch first last a ≡ true) (f : ℕ → Store) (b : ℕ) (after : (j : ℕ) → (f j).address ≡ a → (f j).after ≡ b) where
  sees : (n : ℕ) → Seen first last a f n b
  unfolding stores_in
  sees zero = unseen none (λ j l e. omega arith)
  sees (suc n) = go (sees n) (eqb (f n).address a) refl (in_stretch first last (f n).address) refl
    where
      before : ((f n).address ≡ a → ⊥) → ((j : ℕ) → j < n → a ≡ (f j).address → ⊥) → (j : ℕ) → j < suc n → a ≡ (f j).address → Dec (j < n) → ⊥
      before z l j k g (yes d) = l j d g
      before z l j k g (no d) = let i : j ≡ n = omega arith in z (sym (subst (λ (m : ℕ). a ≡ (f m).address) i g))

      go : Seen first last a f n b → (t : Bool) → eqb (f n).address a ≡ t → (u : Bool) → in_stretch first last (f n).address ≡ u → Seen first last a f (suc n) b
      go k true e true i =
          let same : (f n).address ≡ a = eqb-true (f n).address a e in
          seen (subst (λ (u : Bool). LastAt a b (stores_in first last f n ++ cond u (f n ∷ []) [])) (sym i) (last-behind (stores_in first last f n) (f n ∷ []) (here same (after n same) none)))
      go k true e false i =
          absurd (true≢false (sym h ∙ ap (in_stretch first last) (sym (eqb-true (f n).address a e)) ∙ i))
      go (unseen m l) false e true i =
          let else-where : (f n).address ≡ a → ⊥ = eqb-false (f n).address a e in
          unseen
          (subst (λ (u : Bool). NoneAt a (stores_in first last f n ++ cond u (f n ∷ []) [])) (sym i) (none_both (stores_in first last f n) (f n ∷ []) m (other else-where none)))
          (λ j k g. before else-where l j k g (dec_lt j n))
      go (unseen m l) false e false i =
          let else-where : (f n).address ≡ a → ⊥ = eqb-false (f n).address a e in
          unseen
          (subst (λ (u : Bool). NoneAt a (stores_in first last f n ++ cond u (f n ∷ []) [])) (sym i) (none_both (stores_in first last f n) [] m none))
          (λ j k g. before else-where l j k g (dec_lt j n))
      go (seen l) false e true i =
          seen
          (subst (λ (u : Bool). LastAt a b (stores_in first last f n ++ cond u (f n ∷ []) [])) (sym i)
          (last-before (stores_in first last f n) (f n ∷ []) l (other (eqb-false (f n).address a e) none)))
      go (seen l) false e false i =
          seen (subst (λ (u : Bool). LastAt a b (stores_in first last f n ++ cond u (f n ∷ []) [])) (sym i) (last-before (stores_in first last f n) [] l none))

module _ (p : Panel) (rom : List ℕ) (first last a : ℕ) (h : in_stretch first last a ≡ true) where
  -- a pair accounts for what it changes
  step-accounts : (s : Machine) → Sounds s → (q : Pair) (t : Machine) (k : ℕ) → Stored (pointer s) (stores_of p s.registers q) s.memory t.memory
      → Accounts a (get_or s.memory a 0) (get_or t.memory a 0) (stores_in first last (store_at k s t) (stores_of p s.registers q))
  step-accounts s sound q t k w =
      go (sees first last a h (store_at k s t) (get_or t.memory a 0) (λ j e. ap (λ (x : ℕ). get_or t.memory x 0) e) (stores_of p s.registers q))
    where
      go : Seen first last a (store_at k s t) (stores_of p s.registers q) (get_or t.memory a 0)
          → Accounts a (get_or s.memory a 0) (get_or t.memory a 0) (stores_in first last (store_at k s t) (stores_of p s.registers q))
      go (unseen n o) = kept n (w.kept a o)
      go (seen l) = wrote l

  abbrev Told : ℕ → Listing → Type 0
  Told was s = Accounts a was (get_or s.machine.memory a 0) s.stores

  run-accounts : (was : ℕ) (qs : List Pair) (k : ℕ) (s : Standing Listing) → Sounds s.machine.machine → Told was s.machine
      → Told was (run_from (list_step p rom first last) k qs s).standing.machine
  unfolding run_from
  run-accounts was [] k s sound c = c
  run-accounts was (q ∷ qs) k s sound c =
      go (step_of p rom s.machine.machine q) (step-stores p rom s.machine.machine sound.memory q) (step-sound p rom s.machine.machine sound q)
      (λ t l d. run-accounts was qs (suc k) t l d)
    where
      on : (t : Machine) → Stored (pointer s.machine.machine) (stores_of p s.machine.machine.registers q) s.machine.machine.memory t.memory → Told was (listed_by p first last s.machine q t)
      on t w =
          accounts-both s.machine.stores (stores_in first last (store_at s.machine.place s.machine.machine t) (stores_of p s.machine.machine.registers q)) c
          (step-accounts s.machine.machine sound q t s.machine.place w)

      go : (o : Step Machine) → Leaves (λ (t : Machine). Stored (pointer s.machine.machine) (stores_of p s.machine.machine.registers q) s.machine.machine.memory t.memory) o → Leaves Sounds o
          → ((t : Standing Listing) → Sounds t.machine.machine → Told was t.machine → Told was (run_from (list_step p rom first last) (suc k) qs t).standing.machine)
          → Told was (after_turn (turn_of s (list_by p first last s.machine q o)) (λ t. run_from (list_step p rom first last) (suc k) qs t) (λ n. record { standing = s; taken = k; end = short n })).standing.machine
      go (done t) w l f = f (record { machine = listed_by p first last s.machine q t; answers = s.answers; given = s.given }) l (on t w)
      go (answered t b) w l f = f (record { machine = listed_by p first last s.machine q t; answers = s.answers; given = s.given }) l (on t w)
      go (refused n) w l f = f (record { machine = listing s.machine.machine s.machine.stores (s.machine.place + 1); answers = s.answers; given = s.given }) sound c

pub who-wrote : WhoWrote
who-wrote p r mem rom log first last v l a h =
    run-accounts p rom first last a h (get_or mem a 0) (pairs_of log) 0 (begun_list r mem) (sounds r mem v l) (kept none refl)

pub refused-writes-nothing : RefusedWritesNothing
refused-writes-nothing p rom first last s q n e = ap (list_by p first last s q) e

-- a step that leaves the memory, of a pair that stores nothing
abbrev done_or : Listing → Step Listing → Listing
done_or s (done t) = t
done_or s (answered t b) = t
done_or s (refused n) = s

unwritten-by : (p : Panel) (first last : ℕ) (s : Listing) (q : Pair) → stores_of p s.machine.registers q ≡ 0 → (o : Step Machine)
    → Leaves (λ (t : Machine). t.memory ≡ s.machine.memory) o → Unwritten s (done_or s (list_by p first last s q o))
unfolding stores_in
unwritten-by p first last s q e o k = go o k
  where
    nothing : (t : Machine) → s.stores ++ stores_in first last (store_at s.place s.machine t) (stores_of p s.machine.registers q) ≡ s.stores
    nothing t = ap (λ (n : ℕ). s.stores ++ stores_in first last (store_at s.place s.machine t) n) e ∙ append-nil s.stores

    go : (o : Step Machine) → Leaves (λ (t : Machine). t.memory ≡ s.machine.memory) o → Unwritten s (done_or s (list_by p first last s q o))
    go (done t) k = record { stores = nothing t; memory = k; place = refl }
    go (answered t b) k = record { stores = nothing t; memory = k; place = refl }
    go (refused n) k = record { stores = refl; memory = refl; place = refl }

reading : (a : Auto) (s : Machine) → Leaves (λ (t : Machine). t.memory ≡ s.memory) (data_read_of a s)
reading Off s = refl
reading Write s = tt
reading Read s = refl

obeying : (p : Panel) (rom : List ℕ) (s : Machine) (k : Command) → keeps_memory k ≡ true → Leaves (λ (t : Machine). t.memory ≡ s.memory) (obey_of p rom s k)
obeying p rom s k e = go (ends_auto k || is_off s.registers.bus.auto) (leb (needed_of k) s.registers.bus.pending.count)
  where
    go : (t u : Bool) → Leaves (λ (t : Machine). t.memory ≡ s.memory) (cond t (cond u (done (dropped (effect_of p rom s k))) (refused 6)) (refused 5))
    go true true = memory_kept p rom s k e
    go true false = tt
    go false u = tt

pub reads-write-nothing : ReadsWriteNothing
reads-write-nothing p rom first last s q k t e = subst (Unwritten s) (ap (done_or s) e) (go q k)
  where
    go : (q : Pair) → Reads q → Unwritten s (done_or s (list_step p rom first last s q))
    go _ (datum_read {b}) = unwritten-by p first last s (record { kind = 2; byte = b }) refl (step_of p rom s.machine (record { kind = 2; byte = b })) (reading s.machine.registers.bus.auto s.machine)
    go _ (status_read {b}) = unwritten-by p first last s (record { kind = 3; byte = b }) refl (step_of p rom s.machine (record { kind = 3; byte = b })) refl
    go _ peek = unwritten-by p first last s (code 0xe0) refl (step_of p rom s.machine (code 0xe0)) (obeying p rom s.machine Peek refl)
    go _ load_up = unwritten-by p first last s (code 0xc1) refl (step_of p rom s.machine (code 0xc1)) (obeying p rom s.machine (Load Up) refl)
    go _ load_down = unwritten-by p first last s (code 0xc3) refl (step_of p rom s.machine (code 0xc3)) (obeying p rom s.machine (Load Down) refl)
    go _ load_stay = unwritten-by p first last s (code 0xc5) refl (step_of p rom s.machine (code 0xc5)) (obeying p rom s.machine (Load Stay) refl)

-- the same machine in both runs, pair after pair
module _ (p : Panel) (rom : List ℕ) (first last : ℕ) where
  abbrev lists : ℕ → List Pair → Standing Listing → Machine
  lists k qs s = (run_from (list_step p rom first last) k qs s).standing.machine.machine

  abbrev ordinary : ℕ → List Pair → Standing (Skipping Machine) → Run (Skipping Machine)
  ordinary k qs o = run_from (skip_step true (step_of p rom)) k qs o

  abbrev Alike : List Pair → Type 0
  Alike qs =
      (k : ℕ) (m : Machine) (es : List Store) (place : ℕ) (a : List ℕ) (g : ℕ) (skips : List ℕ) (listed there : ℕ) (answers : List ℕ) (given : ℕ)
      → (ordinary k qs (record { machine = record { machine = m; skips = skips; listed = listed; place = there }; answers = answers; given = given })).end ≡ whole
      → lists k qs (record { machine = listing m es place; answers = a; given = g })
      ≡ (ordinary k qs (record { machine = record { machine = m; skips = skips; listed = listed; place = there }; answers = answers; given = given })).standing.machine.machine

  run-alike : (qs : List Pair) → Alike qs
  unfolding run_from
  run-alike [] k m es place a g skips listed there answers given e = refl
  run-alike (q ∷ qs) k m es place a g skips listed there answers given e = go (run-alike qs) (step_of p rom m q) e
    where
      go : Alike qs → (d : Step Machine)
          → (after_turn (turn_of (record { machine = record { machine = m; skips = skips; listed = listed; place = there }; answers = answers; given = given }) (skip_by true (record { machine = m; skips = skips; listed = listed; place = there }) d)) (λ t. ordinary (suc k) qs t) (λ n. record { standing = (record { machine = record { machine = m; skips = skips; listed = listed; place = there }; answers = answers; given = given }); taken = k; end = short n })).end ≡ whole
          → (after_turn (turn_of (record { machine = listing m es place; answers = a; given = g }) (list_by p first last (listing m es place) q d)) (λ t. run_from (list_step p rom first last) (suc k) qs t) (λ n. record { standing = (record { machine = listing m es place; answers = a; given = g }); taken = k; end = short n })).standing.machine.machine
          ≡ (after_turn (turn_of (record { machine = record { machine = m; skips = skips; listed = listed; place = there }; answers = answers; given = given }) (skip_by true (record { machine = m; skips = skips; listed = listed; place = there }) d)) (λ t. ordinary (suc k) qs t) (λ n. record { standing = (record { machine = record { machine = m; skips = skips; listed = listed; place = there }; answers = answers; given = given }); taken = k; end = short n })).standing.machine.machine
      go ih (done t) f = ih (suc k) t _ _ _ _ _ _ _ _ _ f
      go ih (answered t b) f = room (ltb given (length answers)) f
        where
          room : (u : Bool)
              → (after_turn (cond u (went (record { machine = passed_by (record { machine = m; skips = skips; listed = listed; place = there }) t; answers = set answers given b; given = given + 1 })) (halted 13)) (λ t. ordinary (suc k) qs t) (λ n. record { standing = (record { machine = record { machine = m; skips = skips; listed = listed; place = there }; answers = answers; given = given }); taken = k; end = short n })).end ≡ whole
              → lists (suc k) qs (record { machine = listed_by p first last (listing m es place) q t; answers = a; given = g })
              ≡ (after_turn (cond u (went (record { machine = passed_by (record { machine = m; skips = skips; listed = listed; place = there }) t; answers = set answers given b; given = given + 1 })) (halted 13)) (λ t. ordinary (suc k) qs t) (λ n. record { standing = (record { machine = record { machine = m; skips = skips; listed = listed; place = there }; answers = answers; given = given }); taken = k; end = short n })).standing.machine.machine
          room true f = ih (suc k) t _ _ _ _ _ _ _ _ _ f
          room false f = let z : ◌≡◌ {A = ℕ} 13 0 = ap end_number f in absurd (let y : ⊥ = omega arith in y)
      go ih (refused n) f = fits (ltb (2 * listed + 1) (length skips)) f
        where
          fits : (u : Bool)
              → (after_turn (turn_of (record { machine = record { machine = m; skips = skips; listed = listed; place = there }; answers = answers; given = given }) (cond u (done (record { machine = m; skips = sets skips (2 * listed) (n ∷ there ∷ []); listed = listed + 1; place = there + 1 })) (refused 16))) (λ t. ordinary (suc k) qs t) (λ n. record { standing = (record { machine = record { machine = m; skips = skips; listed = listed; place = there }; answers = answers; given = given }); taken = k; end = short n })).end ≡ whole
              → lists (suc k) qs (record { machine = listing m es (place + 1); answers = a; given = g })
              ≡ (after_turn (turn_of (record { machine = record { machine = m; skips = skips; listed = listed; place = there }; answers = answers; given = given }) (cond u (done (record { machine = m; skips = sets skips (2 * listed) (n ∷ there ∷ []); listed = listed + 1; place = there + 1 })) (refused 16))) (λ t. ordinary (suc k) qs t) (λ n. record { standing = (record { machine = record { machine = m; skips = skips; listed = listed; place = there }; answers = answers; given = given }); taken = k; end = short n })).standing.machine.machine
          fits true f = ih (suc k) m _ _ _ _ _ _ _ _ _ f
          fits false f = let z : ◌≡◌ {A = ℕ} 16 0 = ap end_number f in absurd (let y : ⊥ = omega arith in y)

pub ordinary-run : Ordinary
ordinary-run p r mem rom log first last answers skips e = run-alike p rom first last (pairs_of log) 0 (machine r mem) [] 0 [] 0 skips 0 0 answers 0 e
