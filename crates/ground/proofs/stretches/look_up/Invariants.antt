-- `look_up` meets its contract: code by code, over those that stand there, or nothing.
use Rattle.std.proofs.Common.{◌+◌, ◌*◌, ◌%◌, ◌^◌, get_or}
use Rattle.ground.proofs.Filling.{Filled}
use Rattle.ground.proofs.stretches.look_up.Given as goal

abbrev pub invariant-loop-code : goal.invariant-loop-code
invariant-loop-code l = Filled (λ n. get_or l.table (8 * get_or l.initial.codes n 0 + l.v) 0 % 2 ^ l.width) l.initial.codes l.codes l.code-index
