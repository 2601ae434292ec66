-- What one pair does is defined in sight/specs/Steps, a single access in single/specs/Access; passed on from here, since a run is made of them.
pub use Rattle.sight.specs.Steps.{Pair, datum, code, Step, done, answered, refused, effect_of, dropped, obey_of, command_of, data_write_of, data_read_of, tick_of, step_of}
pub use Rattle.single.specs.Access.{Accessed, replied, accessed, acted_of}
unfoldable pub use Rattle.single.specs.Access.{access_of}
