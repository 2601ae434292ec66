-- `put_refusal` meets its contract: a refused picture's text is its line.
use Rattle.state.proofs.RefusalNumbers.{not_zero}
use Rattle.write.proofs.Writings.{refusal-put}
use Rattle.write.proofs.put_refusal.Goals as goal

pub returns : goal.returns
returns c = let a = c.args in
    rw c.number-number.ensures at (refusal-put a.panel a.refused.place _ a.error.now (rw c.number-number.ensures (not_zero a.refused.refusal)) c.requires c.print_picture.ensures)
