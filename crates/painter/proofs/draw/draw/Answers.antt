-- `draw` meets its contract: the door, the planes, then the dots.
use Rattle.std.proofs.Common.{◌≡◌, Err, sym, ◌∙◌, rules}
use Rattle.state.proofs.Sizes.{is-size}
use Rattle.picture.specs.Picture.{picture_frame}
use Rattle.painter.proofs.Answers.{draw-refused, draw-0}
use Rattle.painter.proofs.draw.draw.Goals as goal

pub returns-in_err-style-clause-drawn : goal.returns-in_err-style-clause-drawn
returns-in_err-style-clause-drawn c =
    let v = sym c.valid.ensures ∙ c.if-not-valid.false in
    let e : c.from_residual.result ≡ Err c.in_err-style.field-0.0 = search rules in
    rw e (draw-refused _ _ _ _ _ _ _ _ _ v (rw (is-size c.args.panel v c.frame_size.ensures.value) at c.if-not-fits.false) _ c.in_err-style.ensures.planned)

pub returns-clause-drawn : goal.returns-clause-drawn
unfolding picture_frame
returns-clause-drawn c = let v = sym c.valid.ensures ∙ c.if-not-valid.false in
    draw-0 _ _ _ _ _ _ _ _ _ v (rw (is-size c.args.panel v c.frame_size.ensures.value) at c.if-not-fits.false) _ c.in_ok-style.ensures.planned c.paint.ensures
