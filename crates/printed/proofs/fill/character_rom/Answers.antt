-- `character_rom` meets its contract.
use mathlib.Core.Path.{refl}
use Rattle.printed.proofs.Prints.{characters-are}
use Rattle.printed.proofs.fill.character_rom.Goals as goal

pub returns-clause-value : goal.returns-clause-value
returns-clause-value c = characters-are c.fill_characters.ensures refl
