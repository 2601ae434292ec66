-- The declared types of this crate, under one name.
pub use Rattle.state.specs.declared.panel.Panel.{Panel}
pub use Rattle.state.specs.declared.registers.Plane.{Plane}
pub use Rattle.state.specs.declared.registers.Cursor.{Cursor}
pub use Rattle.state.specs.declared.registers.DisplayBits.{DisplayBits}
pub use Rattle.state.specs.declared.registers.Combination.{Combination}
pub use Rattle.state.specs.declared.registers.Combination.TheVariants.{Or, Exor, And, Attribute}
pub use Rattle.state.specs.declared.registers.Display.{Display}
pub use Rattle.state.specs.declared.registers.Auto.{Auto}
pub use Rattle.state.specs.declared.registers.Auto.TheVariants.{Off, Write, Read}
pub use Rattle.state.specs.declared.registers.Pending.{Pending}
pub use Rattle.state.specs.declared.registers.Bus.{Bus}
pub use Rattle.state.specs.declared.registers.Registers.{Registers}
pub use Rattle.state.specs.declared.attribute.Manner.{Manner}
pub use Rattle.state.specs.declared.attribute.Manner.TheVariants.{Normal, Reverse, Inhibit}
pub use Rattle.state.specs.declared.attribute.Look.{Look}
pub use Rattle.state.specs.Replies.{Reply}
