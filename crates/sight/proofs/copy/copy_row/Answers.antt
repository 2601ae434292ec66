-- `copy_row` meets its contract: with a position outside attribute mode, in it, and without one.
use Rattle.std.proofs.Common.{ap, refl}
use Rattle.sight.specs.Located.{located}
use Rattle.sight.proofs.Sights.{found_within, copy-found, copy-invalid, copy-nowhere}
use Rattle.sight.proofs.copy.copy_row.Goals as goal

pub gather-line-requires : goal.gather-line-requires
gather-line-requires c = record { seeing = c.requires; column_lt_columns = (found_within c.args.panel _ _ c.find.ensures (ap located c.in-Some.is)).1 }

pub returns-else-panel-is_attribute : goal.returns-else-panel-is_attribute
returns-else-panel-is_attribute c = copy-found _ _ c.args.registers.now _ c.find.ensures (ap located c.in-Some.is) c.is_attribute.ensures c.if-panel-is_attribute.false refl
    c.gather-line.ensures.holds c.store.ensures
