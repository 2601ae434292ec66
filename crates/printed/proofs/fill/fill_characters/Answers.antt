-- `fill_characters` meets its contract.
use mathlib.Core.Path.{refl}
use Rattle.ground.proofs.Filling.{none_yet, one_more}
use Rattle.printed.specs.Printed.{character_row}
use Rattle.printed.proofs.fill.fill_characters.Goals as goal

pub loop-i-init : goal.loop-i-init
loop-i-init c = none_yet character_row c.args.rom.now

pub loop-i-preserved : goal.loop-i-preserved
loop-i-preserved c = one_more _ _ c.loop-i.invariant c.loop-i-test.true refl
