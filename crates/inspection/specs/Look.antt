-- 02, Req 02: did they ask first, and was the recorded answer the controller's own?
use Rattle.std.specs.Prelude.{ℕ, ◌+◌, ◌%◌, Bool, false, cond, not, ◌&&◌, ◌||◌, List, eqb, get_or}
use Rattle.ground.specs.Bytes.{bit_of}
use Rattle.effects.specs.Machine.{Machine, bus}
use Rattle.effects.specs.Effect.{is_read}
use Rattle.controller.specs.Access.{Pair, Step, done, answered, refused, step_of}
use Rattle.inspection.specs.Types.{Panel, Auto, Off, Write, Read, Named, At, Nothing, Looked}

-- ready: bits 0 and 1 both set with auto off, bit 3 in auto write, bit 2 in auto read
abbrev pub ready_for : Auto → ℕ → Bool
ready_for Off b = eqb (b % 4) 3
ready_for Write b = eqb (bit_of b 3) 1
ready_for Read b = eqb (bit_of b 2) 1

-- a command, a data write or auto read's data read; other reads and ticks need nothing
abbrev pub needs_asking : Auto → ℕ → Bool
needs_asking a kind = eqb kind 0 || eqb kind 1 || (eqb kind 2 && is_read a)

-- the first that was named stays
abbrev pub first_named : Named → Bool → ℕ → Named
first_named (At n) here place = At n
first_named Nothing here place = cond here (At place) Nothing

-- nothing seen yet
abbrev pub unseen : Looked
unseen = record { asked = false; unasked = Nothing; wrong = Nothing }

-- an accepted pair, a being the auto mode before it: one that needs a ready status and has none since the last such pair is named
abbrev pub look_asked : Auto → ℕ → ℕ → ℕ → Looked → Looked
look_asked a kind recorded place s =
    record {
      asked = not (needs_asking a kind) && (s.asked || (eqb kind 3 && ready_for a recorded));
      unasked = first_named s.unasked (needs_asking a kind && not s.asked) place;
      wrong = s.wrong;
    }

-- and a read's recorded answer that is not the controller's own, by its index among the answers
abbrev pub look_answered : ℕ → ℕ → ℕ → Looked → Looked
look_answered recorded own index s =
    record { asked = s.asked; unasked = s.unasked; wrong = first_named s.wrong (not (eqb recorded own)) index }

-- the controller, what was seen of its log, the pair and the answer to come
pub record Watched : Type 0 where
  pub machine : Machine
  pub looked : Looked
  pub place : ℕ
  pub given : ℕ

abbrev pub look_at : List ℕ → Watched → Pair → Looked
look_at recorded s q = look_asked (bus s.machine).auto q.kind (get_or recorded s.given 0) s.place s.looked

-- read answers go nowhere: they are compared
abbrev pub watch_by : List ℕ → Watched → Pair → Step Machine → Step Watched
watch_by recorded s q (done m) = done (record { machine = m; looked = look_at recorded s q; place = s.place + 1; given = s.given })
watch_by recorded s q (answered m b) =
    done (record {
      machine = m;
      looked = look_answered (get_or recorded s.given 0) b s.given (look_at recorded s q);
      place = s.place + 1;
      given = s.given + 1;
    })
watch_by recorded s q (refused n) = refused n

abbrev pub watch_step : Panel → List ℕ → List ℕ → Watched → Pair → Step Watched
watch_step p rom recorded s q = watch_by recorded s q (step_of p rom s.machine q)
