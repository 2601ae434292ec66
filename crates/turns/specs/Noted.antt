-- 02, Req 09: a refused pair listed, number and place.
use Rattle.std.specs.Prelude.{ℕ, ◌+◌, ◌*◌, ◌/◌, Bool, cond, not, ◌&&◌, List, [], ◌∷◌, length, ◌==◌, nat_lt}
use Rattle.std.proofs.lemmas.List.Edits.{sets}
use Rattle.turns.specs.Types.{Noted}

-- a pair's number behind its turn, and the list of skipped pairs then
pub record NotedAll : Type 0 where
  pub noted : Noted
  pub skips : List ℕ

abbrev pub noted_all : Noted → List ℕ → NotedAll
noted_all noted skips = record { noted = noted; skips = skips }

-- 13 stops either run; 16 where the list is full
abbrev pub noted_of : Bool → ℕ → ℕ → List ℕ → ℕ → NotedAll
noted_of on n place skips listed =
    cond ((on && not (n == 0)) && not (n == 13))
    (cond (nat_lt listed (length skips / 2))
    (noted_all (record { listed = listed + 1; number = 0 }) (sets skips (2 * listed) (n ∷ place ∷ [])))
    (noted_all (record { listed = listed; number = 16 }) skips))
    (noted_all (record { listed = listed; number = n }) skips)
