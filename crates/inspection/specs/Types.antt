-- The declared types that this crate's definitions are about, under one name.
pub use Rattle.state.specs.declared.panel.Panel.{Panel}
pub use Rattle.state.specs.declared.registers.Auto.{Auto}
pub use Rattle.state.specs.declared.registers.Auto.TheVariants.{Off, Write, Read}
pub use Rattle.state.specs.declared.registers.Registers.{Registers}
pub use Rattle.inspection.specs.Named.{Named, At, Nothing, Looked, Inspected}
