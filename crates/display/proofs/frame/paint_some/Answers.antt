-- `paint_some` meets its contract: row by row, each that is flagged comes back in its own stretch.
use mathlib.Core.Path.{refl}
use Prim.Native.Nat.{◌+◌}
use Rattle.display.proofs.Dots.{as_many}
use Rattle.display.proofs.Fonts.{is-font, row-by-font}
use Rattle.display.proofs.Flagged.{flagging, row-painted, row-left, rows-done}
use Rattle.display.proofs.frame.paint_some.Goals as goal

pub invariant_of-scene : goal.invariant_of-scene
invariant_of-scene c = record { valid_panel = c.requires.valid.0; valid_display = c.requires.valid.1; memory = c.requires.lent.0; bytes = λ i. (c.type_inv.mem i).fits; glyphs = is-font c.args.display c.args.mem.now c.args.rom.now c.font.ensures; shaded = c.tables-shades.ensures.shaded.made }

pub loop-i-init : goal.loop-i-init
loop-i-init c = let a = c.args in
    (refl, flagging a.panel a.display a.mem.now a.rom.now a.first a.bytes a.flags.now a.out.now c.requires.bytes_value.0 c.requires.bytes_value.1)

pub loop-i-preserved-then-flag-eq0 : goal.loop-i-preserved-then-flag-eq0
loop-i-preserved-then-flag-eq0 c = let a = c.args in
    let k = c.loop-i.invariant in
    (k.0, row-left a.panel a.display a.mem.now a.rom.now a.first a.bytes a.flags.now a.out.now k.1 c.loop-i-test.true c.if-flag-eq0.true)

pub loop-i-preserved : goal.loop-i-preserved
loop-i-preserved c = let a = c.args in
    let k = c.loop-i in
    (as_many a.panel.columns c.paint_row.new.cells k.cells c.cells-in-loop-i-1.given k.invariant.0, row-painted a.panel a.display a.mem.now a.rom.now a.first a.bytes a.flags.now a.out.now k.invariant.1 c.loop-i-test.true c.if-flag-eq0.false (row-by-font a.panel a.display a.mem.now a.rom.now (a.first + k.i) c.font.ensures c.paint_row.ensures))

pub returns : goal.returns
returns c = let a = c.args in rows-done a.panel a.display a.mem.now a.rom.now a.first a.bytes a.flags.now a.out.now c.loop-i.invariant.1 c.loop-i-test.false
