-- What a result stands for: a step with flags.
use Rattle.std.specs.Prelude.{ℕ, cond, ◌&&◌, List, Option, Some, None, Result, Ok, Err}
use Rattle.state.specs.State.{valid_panel, valid_registers}
use Rattle.state.specs.Refusals.{number_of}
use Rattle.state.specs.declared.refusal.Refusal.{Refusal}
use Rattle.display.specs.Frame.{lent_lengths}
use Rattle.display.specs.Flagged.{flags_fit}
use Rattle.effects.specs.Machine.{machine}
use Rattle.controller.specs.Access.{Pair, Step, done, answered, refused}
use Rattle.flags.specs.Types.{Panel, Registers}
use Rattle.flags.specs.Flags.{Flagged, with_flags, flag_step}

abbrev pub flag_outcome : Result (Option ℕ) Refusal → Registers → List ℕ → List ℕ → Step Flagged
flag_outcome (Ok None) r m f = done (with_flags (machine r m) f)
flag_outcome (Ok (Some b)) r m f = answered (with_flags (machine r m) f) b
flag_outcome (Err e) r m f = refused (number_of e)

-- the tests at the door, in order, then the pair
unfoldable pub flag_entered_of : Panel → Registers → List ℕ → List ℕ → Pair → List ℕ → Step Flagged
flag_entered_of p r mem rom q flags =
    cond (valid_panel p && valid_registers r)
    (cond (lent_lengths mem rom && flags_fit p flags) (flag_step p rom (with_flags (machine r mem) flags) q) (refused 2))
    (refused 1)
