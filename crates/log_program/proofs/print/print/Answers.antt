-- `print` meets its contract: on fresh rooms the run of the log, and its text.
use mathlib.Core.Path.{sym, ◌∙◌}
use Rattle.printed.proofs.Prints.{zeros-length}
use Rattle.log_program.proofs.Prints.{ready, print-all, print-none}
use Rattle.log_program.proofs.print.print.Goals as goal

pub put_ran-count-requires : goal.put_ran-count-requires
put_ran-count-requires c = let s = c.args in
    let k = c.run_log-ran in
    ready s.input.now c.panel_in-panel.ensures k.ensures (record { memory = k.auto.memory ∙ sym c.empty_memory-memory.ensures.value_2; characters = sym c.character_rom-rom.ensures.value_2; answered = k.auto.answers ∙ sym c.zeroed-answers.ensures.size; framed = zeros-length 20480; roomy = c.if-out-ne196608.false })

pub returns : goal.returns
returns c = let s = c.args in
    print-all s.input.now s.out.now c.if-out-ne196608.false c.panel_in-panel.ensures c.character_rom-rom.ensures.value c.run_log-ran.ensures c.put_ran-count.ensures.text_put c.put_ran-count.ensures.upper_bound

pub returns-then-out-ne196608 : goal.returns-then-out-ne196608
returns-then-out-ne196608 c = let s = c.args in
    rw c.number.ensures (print-none s.input.now s.out.now c.if-out-ne196608.true)
