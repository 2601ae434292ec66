-- `follow` meets its contract: the pair done, then the rows that read what it stored.
use Rattle.std.proofs.Common.{not, ap, ◌∙◌, arith}
use Rattle.flags.proofs.Derived.{display-is}
use Rattle.flags.proofs.Follows.{follows, still, left_alone}
use Rattle.flags.proofs.follow.follow.Goals as goal

pub returns-in_err-answer-clause-step : goal.returns-in_err-answer-clause-step
returns-in_err-answer-clause-step c = let s = c.args in
    let e = left_alone s.panel s.registers.now s.memory.now s.rom.now s.flags.now (record { kind = s.kind; byte = s.byte }) c.requires c.in_err-answer.field-0.0 c.access.new.registers c.access.new.memory c.in_err-answer.ensures.step in
    grind (arith, e)

pub returns-clause-step : goal.returns-clause-step
returns-clause-step c = let s = c.args in
    follows s.panel s.registers.now s.memory.now s.rom.now s.flags.now (record { kind = s.kind; byte = s.byte }) c.requires _ _ _ c.stores-n.ensures
    (c.ne-altered.ensures ∙ ap not (display-is _ _)) (omega arith) c.mark.ensures c.in_ok-answer.answer c.in_ok-answer.ensures.step

pub returns-clause-read : goal.returns-clause-read
returns-clause-read c = let s = c.args in
    still s.panel s.registers.now s.memory.now s.rom.now s.flags.now (record { kind = s.kind; byte = s.byte }) c.requires _ _ _ c.stores-n.ensures
    (c.ne-altered.ensures ∙ ap not (display-is _ _)) (omega arith) c.mark.ensures c.in_ok-answer.answer c.in_ok-answer.ensures.step c.in_ok-answer.ensures.read
