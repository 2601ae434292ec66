-- 02, Req 05: a run keeps what was right right.
use Rattle.std.specs.Prelude.{ℕ, List}
use Rattle.flags.specs.Claims.{Right}
use Rattle.watch.specs.Types.{Panel, Registers}
use Rattle.watch.specs.Watched.{flag_run_of}

-- after any run, skipped pairs included
abbrev pub RunRight : Type 0
RunRight =
    (p : Panel) (r : Registers) (mem rom log : List ℕ) (limit : ℕ) (answers skips flags frame : List ℕ)
    → Right p r.display mem rom flags frame
    → Right p (flag_run_of p r mem rom log limit answers skips flags).on.all.ran.registers.display
    (flag_run_of p r mem rom log limit answers skips flags).on.all.memory rom
    (flag_run_of p r mem rom log limit answers skips flags).flags frame
