-- `print_screen` meets its contract: the screen rehearsed, and its text.
use mathlib.Core.Path.{sym}
use Rattle.rehearse.proofs.Rehearsings.{rehearse-all}
use Rattle.rehearse.proofs.print_screen.Goals as goal

pub returns-in-Ok : goal.returns-in-Ok
returns-in-Ok c = let a = c.args in let k = c.requires in
    rehearse-all a.dual a.input.now a.out.now a.memory.now a.rom.now c.zeroed-room.result a.frame.now k.panel_value c.word_at-key.ensures c.rest_in-book.ensures c.reset-registers.ensures.value k.memory_len.0 k.memory_len.1 k.memory_len.2 (sym c.zeroed-room.ensures.size) c.in-Ok.ensures.frame_after c.rehearse.auto.frame c.print_rehearsal-count.ensures

pub returns-in-Err : goal.returns-in-Err
returns-in-Err c = let a = c.args in let k = c.requires in
    rw c.number-number.ensures
    (rehearse-all a.dual a.input.now a.out.now a.memory.now a.rom.now c.zeroed-room.result a.frame.now k.panel_value c.word_at-key.ensures c.rest_in-book.ensures c.reset-registers.ensures.value k.memory_len.0 k.memory_len.1 k.memory_len.2 (sym c.zeroed-room.ensures.size) c.in-Err.ensures.frame_after c.rehearse.auto.frame (rw c.number-number.ensures at c.print_rehearsal-count-in-Err.ensures))
