-- 02, Req 05: an access and a refresh with flags: what they answer and leave, refusals included.
use Rattle.std.specs.Prelude.{ℕ, ◌*◌, cond, ◌&&◌, List}
use Rattle.ground.specs.Lists.{joined}
use Rattle.state.specs.State.{valid_panel, valid_registers}
use Rattle.display.specs.Frame.{lent_lengths, frame_fits, reply_of}
use Rattle.effects.specs.Machine.{machine}
use Rattle.controller.specs.Access.{Pair, Step, done, answered, refused}
use Rattle.display.specs.Flagged.{flags_fit, refreshed_row}
use Rattle.flags.specs.Types.{Panel, Registers, Reply, Acted}
use Rattle.flags.specs.Flags.{all_clear, Flagged, with_flags, flag_step}

-- an access's reply, the display memory and the flags then
pub record Followed : Type 0 where
  pub acted : Acted
  pub memory : List ℕ
  pub flags : List ℕ

abbrev pub followed : Acted → List ℕ → List ℕ → Followed
followed acted memory flags = record { acted = acted; memory = memory; flags = flags }

abbrev pub followed_by : ℕ → Registers → ℕ → List ℕ → List ℕ → Followed
followed_by n r b mem flags = followed (record { number = n; place = 0; registers = r; answer = b }) mem flags

abbrev pub followed_of : Registers → List ℕ → List ℕ → Step Flagged → Followed
followed_of r mem flags (done f) = followed_by 0 f.machine.registers 0 f.machine.memory f.flags
followed_of r mem flags (answered f b) = followed_by 0 f.machine.registers b f.machine.memory f.flags
followed_of r mem flags (refused n) = followed_by n r 0 mem flags

-- 1, 2 (memory, ROM, flags), then the pair
unfoldable pub follow_of : Panel → Registers → List ℕ → List ℕ → Pair → List ℕ → Followed
follow_of p r mem rom q flags =
    cond (valid_panel p && valid_registers r)
    (cond (lent_lengths mem rom && flags_fit p flags)
    (followed_of r mem flags (flag_step p rom (with_flags (machine r mem) flags) q))
    (followed_by 2 r 0 mem flags))
    (followed_by 1 r 0 mem flags)

-- a refresh's reply, the frame and the flags then
pub record Refreshed : Type 0 where
  pub reply : Reply
  pub frame : List ℕ
  pub flags : List ℕ

abbrev pub refreshed : Reply → List ℕ → List ℕ → Refreshed
refreshed reply frame flags = record { reply = reply; frame = frame; flags = flags }

-- 1, 2 (memory, ROM, frame, flags); else the flagged rows painted and the flags cleared
unfoldable pub refresh_of : Panel → Registers → List ℕ → List ℕ → List ℕ → List ℕ → Refreshed
refresh_of p r mem rom frame flags =
    cond (valid_panel p && valid_registers r)
    (cond (lent_lengths mem rom && frame_fits p frame && flags_fit p flags)
    (refreshed (reply_of 0) (joined (8 * p.lines) (refreshed_row p r.display mem rom frame flags)) (all_clear (8 * p.lines)))
    (refreshed (reply_of 2) frame flags))
    (refreshed (reply_of 1) frame flags)
