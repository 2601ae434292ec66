-- 02, Req 05: a run with flags: what it answers and leaves, refusals included.
use Rattle.std.specs.Prelude.{ℕ, ◌/◌, ◌%◌, true, cond, ◌&&◌, List, length, take, ◌==◌}
use Rattle.state.specs.State.{valid_panel, valid_registers}
use Rattle.display.specs.Frame.{lent_lengths}
use Rattle.effects.specs.Machine.{machine}
use Rattle.controller.specs.Run.{Standing, Run, run_from, pairs_of}
use Rattle.controller.specs.Skip.{Skipping, skip_step, RanOnAll, ran_on_all, ran_on_of, ran_on_none}
use Rattle.display.specs.Flagged.{flags_fit}
use Rattle.flags.specs.Flags.{Flagged, with_flags, flag_step}
use Rattle.watch.specs.Types.{Panel, Registers, RanOn}

-- a run's reply and buffers, and the flags then
pub record RanFlags : Type 0 where
  pub on : RanOnAll
  pub flags : List ℕ

abbrev pub ran_flags : RanOn → List ℕ → List ℕ → List ℕ → List ℕ → RanFlags
ran_flags x memory answers skips flags = record { on = ran_on_all x memory answers skips; flags = flags }

abbrev pub begun_flags : Registers → List ℕ → List ℕ → List ℕ → List ℕ → Standing (Skipping Flagged)
begun_flags r mem answers skips flags =
    record { machine = record { machine = with_flags (machine r mem) flags; skips = skips; listed = 0; place = 0 }; answers = answers; given = 0 }

abbrev pub ran_flags_of : Run (Skipping Flagged) → RanFlags
ran_flags_of e =
    record {
      on = ran_on_of (record {
        standing = record {
          machine = record {
            machine = e.standing.machine.machine.machine;
            skips = e.standing.machine.skips;
            listed = e.standing.machine.listed;
            place = e.standing.machine.place;
          };
          answers = e.standing.answers;
          given = e.standing.given;
        };
        taken = e.taken;
        end = e.end;
      });
      flags = e.standing.machine.machine.flags;
    }

abbrev pub ran_flags_none : ℕ → ℕ → Registers → List ℕ → List ℕ → List ℕ → List ℕ → RanFlags
ran_flags_none n place r mem answers skips flags = record { on = ran_on_none n place r mem answers skips; flags = flags }

-- 1, 2 (memory, ROM, flags), 8; then the ordinary run, its step with flags
unfoldable pub flag_run_of : Panel → Registers → List ℕ → List ℕ → List ℕ → ℕ → List ℕ → List ℕ → List ℕ → RanFlags
flag_run_of p r mem rom log limit answers skips flags =
    cond (valid_panel p && valid_registers r)
    (cond (lent_lengths mem rom && flags_fit p flags)
    (cond (length log % 2 == 0)
    (ran_flags_of (run_from (skip_step true (flag_step p rom)) 0 (take limit (pairs_of log)) (begun_flags r mem answers skips flags)))
    (ran_flags_none 8 (length log / 2) r mem answers skips flags))
    (ran_flags_none 2 0 r mem answers skips flags))
    (ran_flags_none 1 0 r mem answers skips flags)
