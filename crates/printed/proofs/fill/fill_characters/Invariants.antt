-- `fill_characters` meets its contract: the bytes filled so far.
use Rattle.ground.proofs.Filling.{Filled}
use Rattle.printed.specs.Printed.{character_row}
use Rattle.printed.proofs.fill.fill_characters.Given as goal

abbrev pub invariant-loop-i : goal.invariant-loop-i
invariant-loop-i l = Filled character_row l.initial.rom l.rom l.i
