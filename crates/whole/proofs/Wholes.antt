-- A log cut into parts of 4,096 pairs: played one after the other they come to the whole.
use Rattle.std.proofs.lemmas.List.{take_at, drop_at}
use mathlib.Core.Path.{◌≡◌, refl, ap, sym, ◌∙◌}
use mathlib.Core.Bool.{Bool, true, false, cond, ◌&&◌}
use mathlib.Core.List.{List, [], ◌∷◌, ◌++◌}
use Prim.Native.Nat.{ℕ, zero, suc, ◌-◌, ◌*◌, ◌/◌, ◌%◌, ◌^◌, ◌<◌, ◌≤◌, min}
use native.Mathlib.Omega.{arith}
use lib.Dec.{eqb}
use lib.ListN.{length, take, drop, replicate, length-replicate, length-take, length-drop, take-append-drop, drop_of_length-le}
use lib.Seq.{take_all}
use native.Mathlib.Decide.{dec_le}
use borrow.Author.Tests.{ne_eqb}
use Rattle.ground.specs.Lists.{zeros}
use Rattle.state.specs.State.{valid_panel, valid_registers}
use Rattle.display.specs.Frame.{lent_lengths}
use Rattle.controller.specs.Access.{step_of}
use Rattle.controller.specs.Run.{pairs_of, run_from, RanAll, ran_all, ran_of, ran_none, stopping_of}
use Rattle.controller.specs.Ready.{standing}
use Rattle.playback.specs.Play.{play_of}
use Rattle.playback.specs.Parts.{Part, log_of_parts, Cut, none, one, PartsGathered, play_parts, begun, whole_run}
use Rattle.playback.proofs.Parted.{part-by-part}
use Rattle.state.specs.declared.panel.Panel.{Panel}
use Rattle.state.specs.declared.registers.Registers.{Registers}
use Rattle.controller.specs.declared.run.Ran.{Ran}
use Rattle.whole.specs.Whole.{RanWhole, ran_whole, without_answers, whole_of}
use Rattle.whole.specs.Played.{without_given, played_part}

zeros-length : (n : ℕ) → length (zeros n) ≡ n
unfolding zeros
zeros-length n = length-replicate n 0

pub zeros-are : (n : ℕ) → replicate n 0 ≡ zeros n
unfolding zeros
zeros-are n = refl

-- at most n parts, none of them empty
unfoldable pub parts_of : ℕ → List ℕ → List Part
parts_of zero log = []
parts_of (suc n) [] = []
parts_of (suc n) (x ∷ log) = record { log = take 8192 (x ∷ log); room = zeros 4096 } ∷ parts_of n (drop 8192 (x ∷ log))

-- of n bytes, by number alone
first-even : (n : ℕ) → n % 2 ≡ 0 → min 8192 n % 2 ≡ 0
first-even n e = go (dec_le 8192 n)
  where
    go : Dec (8192 ≤ n) → min 8192 n % 2 ≡ 0
    go (yes h) = let f : min 8192 n ≡ 8192 = omega arith in ap (λ (k : ℕ). k % 2) f
    go (no h) = let f : min 8192 n ≡ n = omega arith in ap (λ (k : ℕ). k % 2) f ∙ e

first_fits : (n : ℕ) → min 8192 n / 2 ≤ 4096
first_fits n = omega arith

rest-even : (n : ℕ) → n % 2 ≡ 0 → (n - 8192) % 2 ≡ 0
rest-even n e = omega arith

cut-first : (l : List ℕ) {ps : List Part} → length l % 2 ≡ 0 → Cut ps → Cut (record { log = take 8192 l; room = zeros 4096 } ∷ ps)
cut-first l e c =
    one {q = record { log = take 8192 l; room = zeros 4096 }}
    (ap (λ (k : ℕ). k % 2) (length-take 8192 l) ∙ first-even (length l) e)
    (omega (arith, length-take 8192 l, first_fits (length l), zeros-length 4096))
    c

parts_cut : (n : ℕ) (log : List ℕ) → length log % 2 ≡ 0 → Cut (parts_of n log)
unfolding parts_of
parts_cut zero log e = none
parts_cut (suc n) [] e = none
parts_cut (suc n) (x ∷ log) e =
    cut-first (x ∷ log) e
    (parts_cut n (drop 8192 (x ∷ log)) (ap (λ (k : ℕ). k % 2) (length-drop 8192 (x ∷ log)) ∙ rest-even (length (x ∷ log)) e))

parts-log : (n : ℕ) (log : List ℕ) → length log ≤ 8192 * n → log_of_parts (parts_of n log) ≡ log
unfolding parts_of log_of_parts
parts-log zero [] h = refl
parts-log zero (x ∷ log) h = absurd (omega arith)
parts-log (suc n) [] h = refl
parts-log (suc n) (x ∷ log) h =
    ap (λ (l : List ℕ). take 8192 (x ∷ log) ++ l) (parts-log n (drop 8192 (x ∷ log)) (omega (arith, length-drop 8192 (x ∷ log))))
    ∙ take-append-drop 8192 (x ∷ log)

parts_next : (n : ℕ) (l : List ℕ) → 0 < length l → parts_of (suc n) l ≡ record { log = take 8192 l; room = zeros 4096 } ∷ parts_of n (drop 8192 l)
unfolding parts_of
parts_next n [] h = absurd (omega arith)
parts_next n (x ∷ l) h = refl

parts_none : (n : ℕ) (l : List ℕ) → length l ≤ 0 → parts_of n l ≡ []
unfolding parts_of
parts_none zero l h = refl
parts_none (suc n) [] h = refl
parts_none (suc n) (x ∷ l) h = absurd (omega arith)

-- no more than there are
cut-take : (l : List ℕ) {k : ℕ} → k ≡ min 8192 (length l) → take k l ≡ take 8192 l
cut-take l {k} e = go (dec_le 8192 (length l))
  where
    go : Dec (8192 ≤ length l) → take k l ≡ take 8192 l
    go (yes h) = let f : k ≡ 8192 = omega arith in ap (λ (n : ℕ). take n l) f
    go (no h) = take_all k l (omega arith) ∙ sym (take_all 8192 l (omega arith))

cut-drop : (l : List ℕ) {k : ℕ} → k ≡ min 8192 (length l) → drop k l ≡ drop 8192 l
cut-drop l {k} e = go (dec_le 8192 (length l))
  where
    go : Dec (8192 ≤ length l) → drop k l ≡ drop 8192 l
    go (yes h) = let f : k ≡ 8192 = omega arith in ap (λ (n : ℕ). drop n l) f
    go (no h) = drop_of_length-le l {i = k} (omega arith) ∙ sym (drop_of_length-le l {i = 8192} (omega arith))

-- a part without a pair
abbrev pub empty : Part
empty = record { log = []; room = zeros 4096 }

abbrev pub sofar : Ran → List ℕ → List ℕ → PartsGathered
sofar ran mem given = record { ran = ran; memory = mem; answers = given }

abbrev pub kept : PartsGathered → RanWhole
kept g = ran_whole g.ran g.memory

-- the answers before play no part
given-apart : (p : Panel) (rom : List ℕ) (ps : List Part) (ran : Ran) (mem g h : List ℕ) → kept (play_parts p rom ps (sofar ran mem g)) ≡ kept (play_parts p rom ps (sofar ran mem h))
unfolding play_parts
given-apart p rom [] ran mem g h = refl
given-apart p rom (q ∷ ps) ran mem g h =
    let x = play_of p ran mem rom q.log q.room in
    given-apart p rom ps x.played.ran x.memory (g ++ take x.played.given x.answers) (h ++ take x.played.given x.answers)

-- a part, and then others
part-first : (p : Panel) (rom part : List ℕ) (ps : List Part) (so : Ran) (before : List ℕ) {ran : Ran} {mem : List ℕ}
    → ran_whole ran mem ≡ without_given (played_part p so before rom part)
    → kept (play_parts p rom ps (sofar ran mem [])) ≡ kept (play_parts p rom (record { log = part; room = zeros 4096 } ∷ ps) (sofar so before []))
unfolding play_parts played_part
part-first p rom part ps so before {ran} {mem} e =
    let x = play_of p so before rom part (zeros 4096) in
    (λ i. kept (play_parts p rom ps (sofar (e i).ran (e i).memory [])))
    ∙ given-apart p rom ps x.played.ran x.memory [] (take x.played.given x.answers)

-- parts are played: those of the rest, from here, come to what all do
pub record Playing (p : Panel) (rom log : List ℕ) (ran₀ : Ran) (mem₀ : List ℕ) (ran : Ran) (mem rest : List ℕ) : Type 0 where
  pub left : ℕ
  pub enough : length rest ≤ 8192 * left
  pub comes : kept (play_parts p rom (parts_of left rest) (sofar ran mem [])) ≡ kept (play_parts p rom (parts_of (length log) log) (sofar ran₀ mem₀ []))

module _ (p : Panel) (rom log : List ℕ) (ran₀ : Ran) (mem₀ : List ℕ) where
  pub playing : Playing p rom log ran₀ mem₀ ran₀ mem₀ log
  playing = record { left = length log; enough = omega arith; comes = refl }

  module _ {ran : Ran} {mem rest : List ℕ} (k : Playing p rom log ran₀ mem₀ ran mem rest) where
    pub plays-on : (part : List ℕ) {next : List ℕ} {size : ℕ} {ran' : Ran} {mem' : List ℕ} → 0 < length rest → size ≡ 8192 → rest ≡ part ++ next → length part ≡ min size (length rest)
        → ran_whole ran' mem' ≡ without_given (played_part p ran mem rom part) → Playing p rom log ran₀ mem₀ ran' mem' next
    plays-on part {next} {size} {ran'} {mem'} h z a b e = go k.left k.enough k.comes
      where
        long : length part ≡ min 8192 (length rest)
        long = omega (arith, b, z)

        f : part ≡ take 8192 rest
        f = sym (ap (take (length part)) a ∙ take_at part next (length part) refl) ∙ cut-take rest long

        n : next ≡ drop 8192 rest
        n = sym (ap (drop (length part)) a ∙ drop_at part next (length part) refl) ∙ cut-drop rest long

        go : (left : ℕ) → length rest ≤ 8192 * left
            → kept (play_parts p rom (parts_of left rest) (sofar ran mem [])) ≡ kept (play_parts p rom (parts_of (length log) log) (sofar ran₀ mem₀ []))
            → Playing p rom log ran₀ mem₀ ran' mem' next
        go zero g c = absurd (omega arith)
        go (suc m) g c =
            record {
              left = m;
              enough = omega (arith, ap length n, length-drop 8192 rest);
              comes = ap (λ (l : List ℕ). kept (play_parts p rom (parts_of m l) (sofar ran' mem' []))) n
                  ∙ part-first p rom (take 8192 rest) (parts_of m (drop 8192 rest)) ran mem (e ∙ ap (λ (l : List ℕ). without_given (played_part p ran mem rom l)) f)
                  ∙ sym (ap (λ (ps : List Part). kept (play_parts p rom ps (sofar ran mem []))) (parts_next m rest h))
                  ∙ c;
            }

    played-all : length rest ≡ 0 → ran_whole ran mem ≡ kept (play_parts p rom (parts_of (length log) log) (sofar ran₀ mem₀ []))
    unfolding play_parts
    played-all h =
        sym (ap (λ (ps : List Part). kept (play_parts p rom ps (sofar ran mem []))) (parts_none k.left rest (omega (arith, h))))
        ∙ k.comes

  -- behind a first part without a pair, from reset or any other state
  pub played-whole : {ran : Ran} {mem rest : List ℕ} → Playing p rom log ran₀ mem₀ ran mem rest → (r : Registers) (mem₁ : List ℕ) {so : Ran}
      → so ≡ (begun r mem₁).ran → ran_whole ran₀ mem₀ ≡ without_given (played_part p so mem₁ rom []) → length rest ≡ 0 → length log % 2 ≡ 0 → length log < 2 ^ 64
      → ran_whole ran mem ≡ whole_of p r mem₁ rom log
  unfolding whole_of log_of_parts
  played-whole k r mem₁ b e h even few =
      played-all k h
      ∙ part-first p rom [] (parts_of (length log) log) (begun r mem₁).ran mem₁ (e ∙ ap (λ (x : Ran). without_given (played_part p x mem₁ rom [])) b)
      ∙ ap kept
      (part-by-part p r mem₁ rom (zeros (length log / 2)) empty (parts_of (length log) log)
      (one {q = empty} refl (omega arith) (parts_cut (length log) log even))
      (omega (arith, zeros-length (length log / 2), ap length all)) (omega (arith, ap length all)))
      ∙ ap (λ (l : List ℕ). without_answers (whole_run p r mem₁ rom l (zeros (length log / 2)))) all
    where
      all : log_of_parts (parts_of (length log) log) ≡ log
      all = parts-log (length log) log (omega arith)

-- of an odd log no pair counts, whatever the limit and the room
module _ (p : Panel) (r : Registers) (mem rom log : List ℕ) (n m : ℕ) (a b : List ℕ) where
  odd-alike : (length log % 2 ≡ 0 → ⊥) → without_answers (stopping_of p r mem rom log n a) ≡ without_answers (stopping_of p r mem rom log m b)
  unfolding stopping_of
  odd-alike o = go (valid_panel p && valid_registers r) (lent_lengths mem rom) (eqb (length log % 2) 0) (ne_eqb (length log % 2) 0 o)
    where
      at : Bool → Bool → Bool → ℕ → List ℕ → RanAll
      at v l e k x =
          cond v
          (cond l
          (cond e (ran_of (run_from (step_of p rom) 0 (take k (pairs_of log)) (standing r mem x 0))) (ran_none 8 (length log / 2) r mem x))
          (ran_none 2 0 r mem x))
          (ran_none 1 0 r mem x)

      go : (v l e : Bool) → e ≡ false → without_answers (at v l e n a) ≡ without_answers (at v l e m b)
      go true true e f = ap (λ (t : Bool). without_answers (at true true t n a)) f ∙ sym (ap (λ (t : Bool). without_answers (at true true t m b)) f)
      go true false e f = refl
      go false l e f = refl

pub odd-whole : (p : Panel) (r : Registers) (mem rom log a : List ℕ) {x : Ran} {m b : List ℕ} → (length log % 2 ≡ 0 → ⊥)
    → ran_all x m b ≡ stopping_of p r mem rom log 0 a → ran_whole x m ≡ whole_of p r mem rom log
unfolding whole_of
odd-whole p r mem rom log a o e =
    ap without_answers e ∙ odd-alike p r mem rom log 0 (length log / 2) a (zeros (length log / 2)) o
