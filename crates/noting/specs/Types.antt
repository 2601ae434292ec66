-- The declared types that this crate's definitions are about, under one name.
pub use Rattle.state.specs.declared.panel.Panel.{Panel}
pub use Rattle.state.specs.declared.registers.Display.{Display}
pub use Rattle.state.specs.declared.registers.Bus.{Bus}
pub use Rattle.state.specs.declared.registers.Registers.{Registers}
pub use Rattle.usual.specs.declared.tell.Told.{Told}
pub use Rattle.noting.specs.declared.note.Notes.{Notes}
