-- The cursor of a picture, as the definitions speak of it.
use Rattle.std.specs.Prelude.{Bool, Option, Some, None}
use Rattle.state.specs.declared.registers.Cursor.{Cursor}
use Rattle.picture.specs.declared.cursor.Laid.{Laid as CursorLaid}

-- none, or one that blinks or does not: its column for X, its line for Y
pub data Laid : Type 0 where
  Nowhere : Laid
  Over : Cursor → Bool → Laid

abbrev pub laid : Option CursorLaid → Laid
laid None = Nowhere
laid (Some k) = Over k.cursor k.blink
