-- `put_opening` meets its contract: registers set, then three areas cleared.
use Prim.Native.Nat.{◌*◌}
use native.Mathlib.Nat.{mul_comm}
use Rattle.writer.specs.Stream.{graphic_home, set_up}
use Rattle.writer.proofs.Lengths.{run_length}
use Rattle.writer.proofs.Puts.{put-opening, put-block-as}
use native.Mathlib.Omega.{arith}
use Rattle.writer.proofs.opening.put_opening.Goals as goal

pub run-requires : goal.run-requires
unfolding set_up
run-requires c = let a = c.args in omega (arith, mul_comm a.panel.lines a.panel.columns)

pub run-requires-2 : goal.run-requires-2
unfolding set_up
run-requires-2 c = let a = c.args in
    omega (arith, mul_comm a.panel.lines a.panel.columns, run_length graphic_home (8 * (a.panel.lines * a.panel.columns)) 0)

pub run-requires-3 : goal.run-requires-3
unfolding set_up
run-requires-3 c = let a = c.args in
    omega (arith, c.requires, mul_comm a.panel.lines a.panel.columns, run_length graphic_home (8 * (a.panel.lines * a.panel.columns)) 0, run_length c.text_home.result (a.panel.lines * a.panel.columns) 0)

pub returns : goal.returns
returns c = put-opening c.args.panel c.put_set_up.ensures c.run.ensures (put-block-as _ c.text_home.ensures c.run-2.ensures) c.run-3.ensures
