-- The declared types that this crate's definitions are about, under one name.
pub use Rattle.state.specs.declared.panel.Panel.{Panel}
pub use Rattle.state.specs.declared.registers.Display.{Display}
pub use Rattle.state.specs.declared.registers.Auto.{Auto}
pub use Rattle.state.specs.declared.registers.Auto.TheVariants.{Off, Write, Read}
pub use Rattle.state.specs.declared.registers.Pending.{Pending}
pub use Rattle.state.specs.declared.registers.Bus.{Bus}
pub use Rattle.state.specs.declared.registers.Registers.{Registers}
pub use Rattle.usual.specs.Done.{Drawn}
pub use Rattle.writers.specs.Replied.{Listed, listed}
pub use Rattle.noting.specs.declared.note.Notes.{Notes}
pub use Rattle.noting.specs.Said.{Said}
