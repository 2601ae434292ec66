-- What going on and closing answer, from what their parts answered.
use Rattle.std.proofs.Common.{◌≡◌, ℕ, ◌/◌, cond, List, length, sym, ap, ◌∙◌, eq-eqb, ne_eqb}
use Rattle.ground.proofs.Tests.{settled}
use Rattle.state.specs.declared.panel.Panel.{Panel}
use Rattle.controller.specs.declared.run.Ran.{Ran}
use Rattle.controller.specs.Run.{ran_all, stopping_of}
use Rattle.playback.specs.declared.play.Played.{Played}
use Rattle.playback.specs.declared.play.PlayedOn.{PlayedOn}
use Rattle.playback.specs.Play.{counted_on, PlayedAll, played_all, part_of, play_of, PlayedOnAll, played_on_all, play_on_of}

module _ (p : Panel) (so : Ran) (mem rom part answers skips : List ℕ) where
  -- two replies that meet the promise are equal
  pub play-on-settled : {x y : PlayedOn} {m n b c l k : List ℕ} → played_on_all x m b l ≡ play_on_of p so mem rom part answers skips
      → played_on_all y n c k ≡ play_on_of p so mem rom part answers skips → (x ≡ y) × (m ≡ n) × (b ≡ c) × (l ≡ k)
  play-on-settled h k =
      let e = settled h k in
      (ap (λ (o : PlayedOnAll). o.played) e, ap (λ (o : PlayedOnAll). o.memory) e, ap (λ (o : PlayedOnAll). o.answers) e, ap (λ (o : PlayedOnAll). o.skips) e)

module _ (p : Panel) (so : Ran) (mem rom part answers : List ℕ) where
  pub play-refused : (so.number ≡ 0 → ⊥) → played_all (record { ran = so; given = 0 }) mem answers ≡ play_of p so mem rom part answers
  unfolding play_of
  play-refused nz =
      λ i. cond (sym (ne_eqb so.number 0 nz) i)
      (part_of so (stopping_of p so.registers mem rom part (length part / 2) answers))
      (played_all (record { ran = so; given = 0 }) mem answers)

  pub play-on : so.number ≡ 0 → {x next : Ran} {m b : List ℕ} → ran_all x m b ≡ stopping_of p so.registers mem rom part (length part / 2) answers
      → next ≡ counted_on so x → played_all (record { ran = next; given = x.answers }) m b ≡ play_of p so mem rom part answers
  unfolding play_of
  play-on z {x} {m = m} {b} h n =
      (λ i. played_all (record { ran = n i; given = x.answers }) m b)
      ∙ ap (part_of so) h
      ∙ (λ i. cond (sym (eq-eqb so.number 0 z) i)
      (part_of so (stopping_of p so.registers mem rom part (length part / 2) answers))
      (played_all (record { ran = so; given = 0 }) mem answers))

  -- two replies that meet the promise are equal
  pub play-settled : {x y : Played} {m n b c : List ℕ} → played_all x m b ≡ play_of p so mem rom part answers
      → played_all y n c ≡ play_of p so mem rom part answers → (x ≡ y) × (m ≡ n) × (b ≡ c)
  play-settled h k =
      let s = settled h k in
      (ap (λ (o : PlayedAll). o.played) s, ap (λ (o : PlayedAll). o.memory) s, ap (λ (o : PlayedAll). o.answers) s)
