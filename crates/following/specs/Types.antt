-- The declared types that this crate's definitions are about, under one name.
pub use Rattle.state.specs.declared.panel.Panel.{Panel}
pub use Rattle.state.specs.declared.registers.Registers.{Registers}
pub use Rattle.image.specs.Entries.{Entry, State, Refused}
pub use Rattle.state.specs.Replies.{Reply}
pub use Rattle.controller.specs.Types.{Acted}
pub use Rattle.controller.specs.declared.run.RanOn.{RanOn}
