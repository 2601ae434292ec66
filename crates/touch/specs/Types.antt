-- The declared types that this crate's definitions are about, under one name.
pub use Rattle.state.specs.declared.panel.Panel.{Panel}
pub use Rattle.state.specs.declared.registers.Plane.{Plane}
pub use Rattle.state.specs.declared.registers.Combination.{Combination}
pub use Rattle.state.specs.declared.registers.Display.{Display}
