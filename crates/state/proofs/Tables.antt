-- A row of the attribute table, and what it makes of dots.
use Rattle.std.proofs.Common.{◌≡◌, ℕ, ◌%◌, ◌<◌, Bool, cond, not, ◌&&◌, List, get_or, ap, ◌∙◌}
use Rattle.ground.specs.Lists.{build}
use Rattle.ground.proofs.Lists.{build-at}
use Rattle.state.specs.Types.{Look}
use Rattle.state.specs.Attribute.{look_of, shown_as, attributed}

pub in_table : {t : List Look} (code : ℕ) (d : Look) → t ≡ build 16 look_of → code < 16 → get_or t code d ≡ look_of code
in_table code d e h = ap (λ (x : List Look). get_or x code d) e ∙ build-at 16 look_of code d h

-- a row of the table, shown
pub by-table : (w : ℕ) (normal : Bool) (code n : ℕ) {l : Look} {m x : ℕ} → l ≡ look_of (code % 16)
    → x ≡ cond (l.blinks && not normal) 0 (shown_as l.shown w m) → m ≡ n → x ≡ attributed w normal code n
unfolding attributed
by-table w normal code n {l} {m} e i j =
    i ∙ (λ q. cond ((e q).blinks && not normal) 0 (shown_as (e q).shown w (j q)))
