-- The declared types that this crate's definitions are about, under one name.
pub use Rattle.state.specs.declared.panel.Panel.{Panel}
pub use Rattle.state.specs.declared.registers.Registers.{Registers}
pub use Rattle.codes.specs.declared.command.Command.{Command}
pub use Rattle.state.specs.Replies.{Acted}
