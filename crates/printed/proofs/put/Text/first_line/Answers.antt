-- `first_line` meets its contract: two fields, a blank and the refusal.
use Rattle.printed.specs.Text.{ascii}
use Rattle.printed.specs.Printed.{first_line}
use Rattle.printed.proofs.Puts.{puts_both}
use Rattle.printed.proofs.put.Text.first_line.Goals as goal

pub returns-clause-puts : goal.returns-clause-puts
unfolding first_line ascii
returns-clause-puts c = puts_both (puts_both (puts_both c.field.ensures.puts c.field-2.ensures.puts) c.byte.ensures) c.refusal.ensures.puts
