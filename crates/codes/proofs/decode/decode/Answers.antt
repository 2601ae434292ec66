-- `decode` meets its contract: the group that the high four bits name, and the number of what it gives.
use Rattle.std.proofs.Common.{arith, rules}
use Rattle.codes.specs.Decoded.{decoded, Undefined}
use Rattle.codes.proofs.Numbers.{numbered}
use Rattle.codes.proofs.decode.decode.Goals as goal

pub returns-in-2-clause-result_value : goal.returns-in-2-clause-result_value
returns-in-2-clause-result_value c = numbered {r = decoded c.register.result} c.args.code (omega arith) (rw c.in-2.is c.register.ensures)

pub returns-in-4-clause-result_value : goal.returns-in-4-clause-result_value
returns-in-4-clause-result_value c = numbered {r = decoded c.control.result} c.args.code (omega arith) (rw c.in-4.is c.control.ensures)

pub returns-in-8-clause-result_value : goal.returns-in-8-clause-result_value
returns-in-8-clause-result_value c = numbered {r = decoded c.mode.result} c.args.code (omega arith) (rw c.in-8.is c.mode.ensures)

pub returns-in-9-clause-result_value : goal.returns-in-9-clause-result_value
returns-in-9-clause-result_value c = numbered {r = decoded c.display_mode.result} c.args.code (omega arith) (rw c.in-9.is c.display_mode.ensures)

pub returns-in-10-clause-result_value : goal.returns-in-10-clause-result_value
returns-in-10-clause-result_value c = numbered {r = decoded c.height.result} c.args.code (omega arith) (rw c.in-10.is c.height.ensures)

pub returns-in-11-clause-result_value : goal.returns-in-11-clause-result_value
returns-in-11-clause-result_value c = numbered {r = decoded c.auto_code.result} c.args.code (omega arith) (rw c.in-11.is c.auto_code.ensures)

pub returns-in-12-clause-result_value : goal.returns-in-12-clause-result_value
returns-in-12-clause-result_value c = numbered {r = decoded c.transfer.result} c.args.code (omega arith) (rw c.in-12.is c.transfer.ensures)

pub returns-in-14-clause-result_value : goal.returns-in-14-clause-result_value
returns-in-14-clause-result_value c = numbered {r = decoded c.sight_code.result} c.args.code (omega arith) (rw c.in-14.is c.sight_code.ensures)

pub returns-in-15-clause-result_value : goal.returns-in-15-clause-result_value
returns-in-15-clause-result_value c = numbered {r = decoded c.bit_code.result} c.args.code (omega arith) (rw c.in-15.is c.bit_code.ensures)

pub returns-in_default-clause-result_value : goal.returns-in_default-clause-result_value
returns-in_default-clause-result_value c = numbered {r = Undefined} c.args.code (omega arith) (search rules)
