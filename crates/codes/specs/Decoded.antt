-- 01, Bus pairs: what a code is taken apart into.
use Rattle.std.specs.Prelude.{Option, Some, None}
use Rattle.codes.specs.declared.command.Command.{Command}

-- a command, or undefined
pub data Decoded : Type 0 where
  Defined : Command → Decoded
  Undefined : Decoded

-- what an answer of `decode` stands for
abbrev pub decoded : Option Command → Decoded
decoded (Some command) = Defined command
decoded None = Undefined
