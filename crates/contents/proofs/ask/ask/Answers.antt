-- `ask` meets its contract: the contents opened, then searched.
use mathlib.Core.Path.{◌∙◌}
use Rattle.std.proofs.lemmas.Result.{err_from_is_err_and}
use Rattle.contents.proofs.Asking.{asked-wrong, asked-or, key-or, asked-found}
use Rattle.contents.proofs.Numbers.{asked-numbered}
use Rattle.contents.proofs.ask.ask.Goals as goal

pub returns-in_err-spans : goal.returns-in_err-spans
returns-in_err-spans c = let s = c.args in
    let p = err_from_is_err_and c.from_residual.result c.from_residual.ensures.1 in
    let o = c.in_err-spans.ensures.contents in
    let both = asked-numbered s.book.now s.key (asked-wrong s.book.now s.key o.1) in
    rw (p.1, p.2, o.0) (record { value = both.0; result_value = both.1; key = tt })

pub returns : goal.returns
returns c = let s = c.args in
    let there = asked-found s.book.now s.key c.all.result.now (rw c.all.ensures c.in_ok-spans.ensures.contents.1) c.sought.ensures.value in
    let both = asked-numbered s.book.now s.key (asked-or c.sought.result c.from.result c.from.ensures ∙ there) in
    rw c.ok_or.ensures.value (record { value = both.0; result_value = both.1; key = key-or s.key c.sought.result c.from.result c.sought.ensures.key })
