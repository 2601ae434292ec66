-- The declared types that this crate's definitions are about, under one name.
pub use Rattle.state.specs.declared.panel.Panel.{Panel}
pub use Rattle.state.specs.declared.registers.Plane.{Plane}
pub use Rattle.state.specs.declared.registers.Cursor.{Cursor}
pub use Rattle.state.specs.declared.registers.DisplayBits.{DisplayBits}
pub use Rattle.state.specs.declared.registers.Combination.{Combination}
pub use Rattle.state.specs.declared.registers.Combination.TheVariants.{Or, Exor, And, Attribute}
pub use Rattle.state.specs.declared.registers.Display.{Display}
pub use Rattle.state.specs.declared.registers.Auto.{Auto}
pub use Rattle.state.specs.declared.registers.Auto.TheVariants.{Off, Write, Read}
pub use Rattle.state.specs.declared.registers.Pending.{Pending}
pub use Rattle.state.specs.declared.registers.Bus.{Bus}
pub use Rattle.state.specs.declared.registers.Registers.{Registers}
pub use Rattle.state.specs.declared.registers.Target.{Target}
pub use Rattle.state.specs.declared.registers.Move.{Move}
pub use Rattle.state.specs.declared.registers.Move.TheVariants.{Up, Down, Stay}
pub use Rattle.codes.specs.declared.command.Command.{Command}
pub use Rattle.codes.specs.declared.command.Command.TheVariants.{Set, Mode, DisplayMode, Height, Run, Store, Load, Peek, Copy, Bit}
pub use Rattle.codes.specs.Decoded.{Decoded, Defined, Undefined}
pub use Rattle.sight.specs.Located.{Position, At, Nowhere}
pub use Rattle.state.specs.Replies.{Acted}
pub use Rattle.controller.specs.declared.run.Ran.{Ran}
pub use Rattle.controller.specs.declared.run.RanOn.{RanOn}
pub use Rattle.turns.specs.declared.note.Noted.{Noted}
pub use Rattle.turns.specs.declared.taken.Taken.{Taken}
pub use Rattle.usual.specs.declared.tell.Told.{Told}
pub use Rattle.usual.specs.Done.{Drawn, Asked}
