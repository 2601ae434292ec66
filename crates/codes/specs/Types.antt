-- The declared types that this crate's definitions are about, under one name.
pub use Rattle.state.specs.declared.registers.Combination.TheVariants.{Or, Exor, And, Attribute}
pub use Rattle.state.specs.declared.registers.Auto.{Auto}
pub use Rattle.state.specs.declared.registers.Auto.TheVariants.{Off, Write, Read}
pub use Rattle.state.specs.declared.registers.Target.TheVariants.{Cursor, Offset, Pointer, TextHome, TextArea, GraphicHome, GraphicArea}
pub use Rattle.state.specs.declared.registers.Move.TheVariants.{Up, Down, Stay}
pub use Rattle.codes.specs.declared.command.Command.{Command}
pub use Rattle.codes.specs.declared.command.Command.TheVariants.{Set, Mode, DisplayMode, Height, Run, Store, Load, Peek, Copy, Bit}
pub use Rattle.codes.specs.Decoded.{Decoded, Defined, Undefined, decoded}
