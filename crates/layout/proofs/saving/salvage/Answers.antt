-- `salvage` meets its contract.
use mathlib.Core.Path.{◌≡◌, refl, sym, ◌∙◌}
use mathlib.Core.List.{List}
use native.Mathlib.Omega.{arith}
use Rattle.state.proofs.RefusalNumbers.{not_zero}
use Rattle.contents.specs.Contents.{Body, sound, contents_of}
use Rattle.contents.specs.Replies.{bodies}
use Rattle.layout.specs.Laid.{laid_out, screens_of}
use Rattle.layout.specs.Moved.{fitted}
use Rattle.layout.specs.Ready.{laid_size}
use Rattle.layout.specs.Saved.{cut_all}
use Prim.Native.Nat.{◌≤◌}
use lib.ListN.{length}
use Rattle.std.proofs.lemmas.Result.{err_from_is_err_and}
use Rattle.layout.proofs.Cuts.{cut-spanned, cut-size, save-panel, save-wrong, save-short, save-done}
use Rattle.layout.proofs.Laying.{sound-spanned}
use Rattle.layout.proofs.Sums.{spans-count}
use Rattle.layout.proofs.saving.salvage.Goals as goal

pub returns-then-not-valid-clause-value : goal.returns-then-not-valid-clause-value
returns-then-not-valid-clause-value c = let s = c.args in
    rw (c.into.ensures.0, c.into.ensures.1) (save-panel s.panel s.book.now s.out.now (sym c.valid.ensures ∙ c.if-not-valid.true))

pub returns-in_err-opened-clause-value : goal.returns-in_err-opened-clause-value
returns-in_err-opened-clause-value c = let s = c.args in
    let p = err_from_is_err_and c.from_residual.result c.from_residual.ensures.1 in
    let o = c.in_err-opened.ensures.contents in
    rw (p.1, p.2, o.0) (save-wrong s.panel s.book.now s.out.now (sym c.valid.ensures ∙ c.if-not-valid.false) o.1)

pub cut-torn-requires : goal.cut-torn-requires
cut-torn-requires c = sound-spanned c.args.book.now (rw c.all-spans.ensures c.in_ok-opened.ensures.contents.1)

pub fit-requires : goal.fit-requires
fit-requires c = let s = c.args in
    let h : contents_of s.book.now ≡ sound (bodies c.all-spans.result.now) = rw c.all-spans.ensures c.in_ok-opened.ensures.contents.1 in
    let cs : List Body = cut_all s.panel s.book.now (bodies c.all-spans.result.now) in
    let l : laid_size c.in_ok-opened.opened.two cs ≤ length s.book.now = rw c.in_ok-opened.ensures.contents.0 (cut-size s.panel s.book.now h) in
    rw c.cut-torn.ensures.spans (cut-spanned s.panel s.book.now h, omega (arith, l, (cut-spanned s.panel s.book.now h).short))

pub returns-in_err-size-clause-value : goal.returns-in_err-size-clause-value
returns-in_err-size-clause-value c = let s = c.args in
    let h : contents_of s.book.now ≡ sound (bodies c.all-spans.result.now) = rw c.all-spans.ensures c.in_ok-opened.ensures.contents.1 in
    let p = err_from_is_err_and c.from_residual-in_err-size.result c.from_residual-in_err-size.ensures.1 in
    rw (p.1, p.2)
    (save-short s.panel s.book.now s.out.now (sym c.valid.ensures ∙ c.if-not-valid.false) h
    (c.in_err-size.ensures.value ∙ (λ q. fitted (laid_out (c.in_ok-opened.ensures.contents.0 q) (screens_of s.book.now (c.cut-torn.ensures.spans q))) s.out.now)) (not_zero _))

pub returns-clause-value : goal.returns-clause-value
returns-clause-value c = let s = c.args in
    let h : contents_of s.book.now ≡ sound (bodies c.all-spans.result.now) = rw c.all-spans.ensures c.in_ok-opened.ensures.contents.1 in
    save-done s.panel s.book.now s.out.now (sym c.valid.ensures ∙ c.if-not-valid.false) h
    (c.in_ok-size.ensures.value ∙ (λ q. fitted (laid_out (c.in_ok-opened.ensures.contents.0 q) (screens_of s.book.now (c.cut-torn.ensures.spans q))) s.out.now)) refl
    (spans-count c.all-spans.result.now) c.cut-torn.ensures.kept c.cut-torn.ensures.dropped
