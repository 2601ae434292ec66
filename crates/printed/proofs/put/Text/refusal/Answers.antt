-- `refusal` meets its contract: two fields and the line's end.
use Rattle.printed.specs.Text.{ascii}
use Rattle.printed.specs.Printed.{refusal_line}
use Rattle.printed.proofs.Puts.{puts_both}
use Rattle.printed.proofs.put.Text.refusal.Goals as goal

pub returns-clause-puts : goal.returns-clause-puts
unfolding refusal_line ascii
returns-clause-puts c = puts_both (puts_both c.field.ensures.puts c.field-2.ensures.puts) c.byte.ensures
