-- `run_log` meets its contract: the run is the one that the text is of.
use Rattle.log_program.proofs.Prints.{ran-is}
use Rattle.log_program.proofs.print.run_log.Goals as goal

pub returns : goal.returns
returns c = ran-is c.args.input.now c.panel_in-panel.ensures c.reset-registers.ensures.value c.requires.0 c.requires.1 c.log_in-log.ensures c.requires.2 c.run_stopping.ensures
