-- The declared types that this crate's definitions are about, under one name.
pub use Rattle.state.specs.declared.panel.Panel.{Panel}
pub use Rattle.state.specs.declared.registers.Plane.{Plane}
pub use Rattle.state.specs.declared.registers.Display.{Display}
pub use Rattle.state.specs.declared.registers.Bus.{Bus}
pub use Rattle.state.specs.declared.registers.Registers.{Registers}
pub use Rattle.sight.specs.Located.{Position, At, Nowhere}
pub use Rattle.sight.specs.declared.line.Line.{Line}
pub use Rattle.state.specs.declared.registers.Auto.{Auto}
pub use Rattle.state.specs.declared.registers.Auto.TheVariants.{Off, Write, Read}
pub use Rattle.state.specs.declared.registers.Move.TheVariants.{Up}
pub use Rattle.codes.specs.declared.command.Command.{Command}
pub use Rattle.codes.specs.declared.command.Command.TheVariants.{Set, Mode, DisplayMode, Height, Run, Store, Load, Peek, Copy, Bit}
pub use Rattle.codes.specs.Decoded.{Decoded, Defined, Undefined}
pub use Rattle.sight.specs.Answered.{Seen}
