-- Any pair by a whole access, and what it stored.
use Rattle.std.proofs.Common.{◌≡◌, ℕ, ◌-◌, ◌≤◌, Bool, true, false, cond, ◌&&◌, ◌||◌, eqb, List, get_or, Option, Some, None, Ok, Err, sym, ap, ◌∙◌, subst, arith, length, take, get_or-take, length-take-le}
use Rattle.state.specs.State.{valid_panel}
use Rattle.state.specs.Combination.{is_attribute}
use Rattle.state.proofs.Valid.{panelled}
use Rattle.codes.specs.Command.{decode_of}
use Rattle.effects.specs.Machine.{Machine, machine}
use Rattle.effects.specs.Effect.{is_write}
use Rattle.sight.specs.Sight.{position}
use Rattle.controller.specs.Types.{Command, Set, Mode, DisplayMode, Height, Run, Store, Load, Peek, Copy, Bit, Decoded, Defined, Undefined, Position, At, Nowhere}
use Rattle.controller.specs.Access.{Pair, Step, refused, step_of}
use Rattle.controller.specs.Ready.{Runs}
use Rattle.single.specs.Outcome.{outcome, entered_of}
use Rattle.state.specs.declared.refusal.Refusal.{Refusal}
use Rattle.stores.specs.Stores.{copy_stores, command_stores, code_stores, stores_of, stores_asked, from_address}
use Rattle.noting.specs.Stretch.{store, store_at}
use Rattle.noting.specs.Noted.{Noting, noting, noted_each}
use Rattle.noting.proofs.Notes.{notes-same}
use Rattle.writers.specs.Types.{Panel, Registers}
use Rattle.writers.specs.Ready.{Held, stores_by, Behind, behind, behind_by}

-- a pair stores at most eighty bytes
stores-few : (p : Panel) → valid_panel p ≡ true → (r : Registers) (q : Pair) → stores_of p r q ≤ 80
stores-few p v r q = go (eqb q.kind 0) (eqb q.kind 1)
  where
    wide : p.columns ≤ 80
    wide = (panelled p v).columns

    copies : (x : Position) → copy_stores p r.display x ≤ 80
    copies (At i c) = some (p.dual || is_attribute r.display.combination)
      where
        some : (t : Bool) → cond t 0 (p.columns - c) ≤ 80
        some true = omega arith
        some false = omega (arith, wide)
    copies Nowhere = omega arith

    commands : (k : Command) → command_stores p r k ≤ 80
    commands (Set t) = omega arith
    commands (Mode e k) = omega arith
    commands (DisplayMode b) = omega arith
    commands (Height h) = omega arith
    commands (Run a) = omega arith
    commands (Store m) = omega arith
    commands (Load m) = omega arith
    commands Peek = omega arith
    commands Copy = copies (position p r)
    commands (Bit on k) = omega arith

    codes : (d : Decoded) → code_stores p r d ≤ 80
    codes (Defined k) = commands k
    codes Undefined = omega arith

    writes : (t : Bool) → cond t 1 0 ≤ 80
    writes true = omega arith
    writes false = omega arith

    go : (a b : Bool) → cond a (cond (is_write r.bus.auto) 1 0) (cond b (code_stores p r (decode_of q.byte)) 0) ≤ 80
    go true b = writes (is_write r.bus.auto)
    go false true = codes (decode_of q.byte)
    go false false = omega arith

-- any pair, by a whole access
module _ {p : Panel} {r : Registers} {mem rom : List ℕ} (k : Runs p r mem rom) (q : Pair) where
  asked : stores_asked p r q ≡ stores_of p r q
  asked = ap (λ (t : Bool). cond t (stores_of p r q) 0) k.panel

  pub asked-few : {n : ℕ} → n ≡ stores_asked p r q → n ≤ 80
  asked-few e = subst (λ (j : ℕ). j ≤ 80) (sym (e ∙ asked)) (stores-few p k.panel r q)

  -- on what is known to be valid an access is its step
  stepped : {o : Step Machine} → o ≡ entered_of p r mem rom q → o ≡ step_of p rom (machine r mem) q
  unfolding entered_of
  stepped e = e ∙ (λ t. cond (k.panel t && k.state t) (cond (k.lent t) (step_of p rom (machine r mem) q) (refused 2)) (refused 1))

  module _ (first last pair count : ℕ) (list : List ℕ) where
    abbrev due : Step Machine → Behind
    due o = behind_by p first last pair (machine r mem) q (noting count list) o

    -- accepted: the bytes it stored, those before as they were held
    pub through-accepted : (x : Option ℕ) {next : Registers} {after : List ℕ} → outcome (Ok x) next after ≡ entered_of p r mem rom q → {n : ℕ} → n ≡ stores_asked p r q → {before : List ℕ} → Held mem r.bus.pointer n before
        → n ≤ length before → {y : Noting} → y ≡ noted_each first last (stores_by pair r.bus.pointer (take n before) after) (length (take n before)) (noting count list)
        → behind (machine next after) y ≡ due (step_of p rom (machine r mem) q)
    through-accepted x {next} {after} e {n} s {before} h few {y} f = (λ j. behind (machine next after) (noted j)) ∙ go x e
      where
        noted : y ≡ noted_each first last (store_at pair (machine r mem) (machine next after)) (stores_of p r q) (noting count list)
        noted =
            f
            ∙ (λ j. noted_each first last (stores_by pair r.bus.pointer (take n before) after) (length-take-le n before few j) (noting count list))
            ∙ notes-same first last (stores_by pair r.bus.pointer (take n before) after) (store_at pair (machine r mem) (machine next after)) n (noting count list)
            (λ j l t. store pair (from_address r.bus.pointer j) ((get_or-take n before j 0 l ∙ h.holds j l) t) (get_or after (from_address r.bus.pointer j) 0))
            ∙ ap (λ (j : ℕ). noted_each first last (store_at pair (machine r mem) (machine next after)) j (noting count list)) (s ∙ asked)

        go : (x : Option ℕ) → outcome (Ok x) next after ≡ entered_of p r mem rom q
            → behind (machine next after) (noted_each first last (store_at pair (machine r mem) (machine next after)) (stores_of p r q) (noting count list)) ≡ due (step_of p rom (machine r mem) q)
        go None e = ap due (stepped e)
        go (Some b) e = ap due (stepped e)

    -- refused: all as it was
    pub through-refused : (x : Refusal) {next : Registers} {after : List ℕ} → outcome (Err x) next after ≡ entered_of p r mem rom q → (next ≡ r) × (after ≡ mem)
        → behind (machine next after) (noting count list) ≡ due (step_of p rom (machine r mem) q)
    through-refused x e same = (λ j. behind (machine (same.0 j) (same.1 j)) (noting count list)) ∙ ap due (stepped e)
