-- What a result stands for: a step, with the registers and the memory then.
use Rattle.std.specs.Prelude.{ℕ, cond, ◌&&◌, List, Option, Some, None, Result, Ok, Err}
use Rattle.state.specs.State.{valid_panel, valid_registers}
use Rattle.state.specs.Refusals.{number_of}
use Rattle.state.specs.declared.refusal.Refusal.{Refusal}
use Rattle.display.specs.Frame.{lent_lengths}
use Rattle.codes.specs.Pairs.{kind_number}
use Rattle.codes.specs.declared.pair.Pair.{Pair}
use Rattle.effects.specs.Machine.{Machine, machine}
use Rattle.sight.specs.Steps.{Step, done, answered, refused, step_of}
use Rattle.sight.specs.Steps.{Pair as BytePair}
use Rattle.single.specs.Types.{Panel, Registers, Acted}

abbrev pub outcome : Result (Option ℕ) Refusal → Registers → List ℕ → Step Machine
outcome (Ok None) r m = done (machine r m)
outcome (Ok (Some b)) r m = answered (machine r m) b
outcome (Err e) r m = refused (number_of e)

-- what an access answers and the registers then, as a reply; the byte read, or 0
abbrev pub acted : Result (Option ℕ) Refusal → Registers → Acted
acted (Ok None) r = record { number = 0; place = 0; registers = r; answer = 0 }
acted (Ok (Some b)) r = record { number = 0; place = 0; registers = r; answer = b }
acted (Err e) r = record { number = number_of e; place = 0; registers = r; answer = 0 }

-- the two bytes of a pair
abbrev pub pair_of : Pair → BytePair
pair_of q = record { kind = kind_number q.kind; byte = q.byte }

-- the tests at the door, in order, then the pair
unfoldable pub entered_of : Panel → Registers → List ℕ → List ℕ → BytePair → Step Machine
entered_of p r mem rom q =
    cond (valid_panel p && valid_registers r)
    (cond (lent_lengths mem rom) (step_of p rom (machine r mem) q) (refused 2))
    (refused 1)
