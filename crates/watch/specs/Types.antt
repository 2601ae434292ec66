-- The declared types that this crate's definitions are about, under one name.
pub use Rattle.state.specs.declared.panel.Panel.{Panel}
pub use Rattle.state.specs.declared.registers.Display.{Display}
pub use Rattle.state.specs.declared.registers.Registers.{Registers}
pub use Rattle.controller.specs.declared.run.RanOn.{RanOn}
pub use Rattle.turns.specs.declared.note.Noted.{Noted}
pub use Rattle.turns.specs.declared.taken.Taken.{Taken}
