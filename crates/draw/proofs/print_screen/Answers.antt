-- `print_screen` meets its contract: the picture drawn, and its text.
use Rattle.std.proofs.Common.{ℕ, not, eqb, ap, ◌∙◌}
use Rattle.painter.specs.Drawn.{drew_all}
use Rattle.draw.proofs.Drawings.{draw-all}
use Rattle.draw.proofs.print_screen.Goals as goal

pub returns-in-Ok : goal.returns-in-Ok
returns-in-Ok c =
    draw-all c.args.dual c.args.input.now c.args.out.now c.requires.panel_value c.word_at-key.ensures (ap (λ (n : ℕ). not (eqb n 0)) c.byte_in-phase.ensures) c.rest_in-book.ensures
    c.requires.planes_cut c.in-Ok.ensures.drawn c.draw.auto.frame c.print_picture.ensures

pub returns-in-Err : goal.returns-in-Err
returns-in-Err c = let n = c.draw.new in
    draw-all c.args.dual c.args.input.now c.args.out.now c.requires.panel_value c.word_at-key.ensures (ap (λ (n : ℕ). not (eqb n 0)) c.byte_in-phase.ensures) c.rest_in-book.ensures
    c.requires.planes_cut
    (ap (λ (m : ℕ). drew_all (record { number = m; place = c.in-Err.refused.place }) n.graphic n.codes n.glyphs n.frame) c.number-number.ensures ∙ c.in-Err.ensures.drawn)
    c.draw.auto.frame c.print_picture-count.ensures
