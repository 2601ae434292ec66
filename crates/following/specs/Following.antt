-- 02, Req 05, for C: what following a pair or a log and refreshing answer, and what they leave in the buffers that they may write.
use Rattle.std.specs.Prelude.{ℕ, true, eqb, length, List}
use Rattle.ground.specs.Bytes.{word_of}
use Rattle.controller.specs.Access.{Pair}
use Rattle.flags.specs.Follow.{Followed, follow_of, Refreshed, refresh_of}
use Rattle.watch.specs.Watched.{RanFlags, flag_run_of}
use Rattle.following.specs.Types.{Panel, Entry, State, Refused}
use Rattle.image.specs.Door.{door_of, kept_of, counts_on_of}

-- a pair followed
pub record FollowEnd : Type 0 where
  pub result : ℕ
  pub registers : List ℕ
  pub memory : List ℕ
  pub flags : List ℕ

abbrev pub follow_end : ℕ → List ℕ → List ℕ → List ℕ → FollowEnd
follow_end n registers memory flags = record { result = n; registers = registers; memory = memory; flags = flags }

-- the number in the low byte, the byte read in the high one
abbrev pub follow_done : List ℕ → Followed → FollowEnd
follow_done b o =
    follow_end (word_of o.acted.number o.acted.answer) (kept_of o.acted.number o.acted.registers b) o.memory o.flags

abbrev pub follow_by : Entry → Panel → List ℕ → List ℕ → List ℕ → Pair → List ℕ → FollowEnd
follow_by (State r) p b mem rom q flags = follow_done b (follow_of p r mem rom q flags)
follow_by (Refused n) p b mem rom q flags = follow_end n b mem flags

unfoldable pub follow_bytes : Panel → List ℕ → List ℕ → List ℕ → Pair → List ℕ → FollowEnd
follow_bytes p b mem rom q flags = follow_by (door_of p true b) p b mem rom q flags

-- a log followed
pub record FollowRunEnd : Type 0 where
  pub number : ℕ
  pub registers : List ℕ
  pub memory : List ℕ
  pub answers : List ℕ
  pub skips : List ℕ
  pub counts : List ℕ
  pub flags : List ℕ

abbrev pub follow_run_end : ℕ → List ℕ → List ℕ → List ℕ → List ℕ → List ℕ → List ℕ → FollowRunEnd
follow_run_end n registers memory answers skips counts flags =
    record { number = n; registers = registers; memory = memory; answers = answers; skips = skips; counts = counts; flags = flags }

abbrev pub follow_run_done : List ℕ → List ℕ → RanFlags → FollowRunEnd
follow_run_done b k o =
    follow_run_end o.on.all.ran.number (kept_of o.on.all.ran.number o.on.all.ran.registers b) o.on.all.memory
    o.on.all.answers o.on.skips
    (counts_on_of o.on.all.ran.number o.on.all.ran.place o.on.all.ran.taken o.on.all.ran.answers o.on.skipped k)
    o.flags

abbrev pub follow_run_by : Entry → Panel → List ℕ → List ℕ → List ℕ → List ℕ → ℕ → List ℕ → List ℕ → List ℕ → List ℕ → FollowRunEnd
follow_run_by (State r) p b mem rom log limit answers skips k flags =
    follow_run_done b k (flag_run_of p r mem rom log limit answers skips flags)
follow_run_by (Refused n) p b mem rom log limit answers skips k flags = follow_run_end n b mem answers skips k flags

-- the counts are exactly four
unfoldable pub follow_run_bytes : Panel → List ℕ → List ℕ → List ℕ → List ℕ → ℕ → List ℕ → List ℕ → List ℕ → List ℕ → FollowRunEnd
follow_run_bytes p b mem rom log limit answers skips k flags =
    follow_run_by (door_of p (eqb (length k) 4) b) p b mem rom log limit answers skips k flags

-- a refresh
pub record RefreshEnd : Type 0 where
  pub number : ℕ
  pub frame : List ℕ
  pub flags : List ℕ

abbrev pub refresh_end : ℕ → List ℕ → List ℕ → RefreshEnd
refresh_end n frame flags = record { number = n; frame = frame; flags = flags }

abbrev pub refresh_done : Refreshed → RefreshEnd
refresh_done o = refresh_end o.reply.number o.frame o.flags

abbrev pub refresh_by : Entry → Panel → List ℕ → List ℕ → List ℕ → List ℕ → RefreshEnd
refresh_by (State r) p mem rom frame flags = refresh_done (refresh_of p r mem rom frame flags)
refresh_by (Refused n) p mem rom frame flags = refresh_end n frame flags

unfoldable pub refresh_bytes : Panel → List ℕ → List ℕ → List ℕ → List ℕ → List ℕ → RefreshEnd
refresh_bytes p b mem rom frame flags = refresh_by (door_of p true b) p mem rom frame flags
