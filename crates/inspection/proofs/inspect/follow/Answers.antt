-- `follow` meets its contract: what is left from here always comes to the whole.
use Rattle.std.proofs.Common.{◌≡◌, ◌∙◌, ◌/◌, ◌<◌, length, get_or, rules, ap, arith}
use Rattle.controller.specs.Access.{Pair}
use Rattle.controller.proofs.Readied.{runs-lengths}
use Rattle.inspection.proofs.Watches.{pair-is, watching, watching-names, watching-uneven, watching-stops, watching-acts, watching-reads}
use Rattle.std.proofs.lemmas.Result.{err_from_is_err_and}
use Rattle.std.specs.Prelude.{Ok}
use Rattle.inspection.proofs.PairsPlace.{given-ok, given-err}
use Rattle.inspection.proofs.inspect.follow.Goals as goal
use Rattle.inspection.proofs.inspect.follow.Goals.{in-Some, in_default}

pub loop-i-init : goal.loop-i-init
loop-i-init c = watching c.args.panel c.args.rom.now c.args.recorded.now c.args.log.now _ c.args.registers.now c.args.memory.now (search rules) c.requires.runs

pub returns-in_err-own : goal.returns-in_err-own
returns-in_err-own c =
    let here : c.loop-i.i-counter < length c.args.log.now / 2 = omega (arith, c.loop-i-test.true, c.as_chunks.ensures.front_len) in
    let e = pair-is c.args.log.now c.loop-i.i-counter here c.as_chunks.ensures.front in
    let p = err_from_is_err_and c.from_residual.result c.from_residual.ensures.1 in
    let k = given-err c.loop-i.i-counter _ c.map_err.ensures.cases c.in_err-own.was in
    rw (p.1, p.2, k.1) (watching-stops c.loop-i.invariant c.requires.runs.panel (runs-lengths c.requires.runs).1 here (omega (arith, c.requires.log_len)) _ (rw e at rw k.0 at c.access.ensures.step) (rw k.0 at c.access.ensures.err) (omega arith))

pub loop-i-preserved : goal.loop-i-preserved
loop-i-preserved c =
    let here : c.loop-i.i-counter < length c.args.log.now / 2 = omega (arith, c.loop-i-test.true, c.as_chunks.ensures.front_len) in
    let e = pair-is c.args.log.now c.loop-i.i-counter here c.as_chunks.ensures.front in
    let kind = ap (λ (q : Pair). q.kind) e in
    let at : c.unwrap_or-answer.result ≡ get_or c.args.recorded.now c.loop-i.given 0 = search rules in
    let own = given-ok c.loop-i.i-counter _ c.map_err.ensures.cases c.in_ok-own.was in
    elim c.match-own.branch [
      | in-Some w ↦ rw (w.seen-is, w.given-is)
          (watching-reads c.loop-i.invariant c.requires.runs.panel (runs-lengths c.requires.runs).1 here (omega (arith, c.requires.log_len)) w.in-Some.byte (rw e at rw (own ∙ ap (λ x. Ok x) w.in-Some.is) at c.access.ensures.step) at (rw kind at c.look.ensures) w.compare.ensures)
      | in_default w ↦ rw (w.seen-is, w.given-is)
          (watching-acts c.loop-i.invariant c.requires.runs.panel (runs-lengths c.requires.runs).1 here (omega (arith, c.requires.log_len)) (rw e at rw (own ∙ ap (λ x. Ok x) w.in_default.is) at c.access.ensures.step) at (rw kind at c.look.ensures))
    ]

pub returns-then-recorded-given : goal.returns-then-recorded-given
returns-then-recorded-given c = watching-names c.loop-i.invariant (omega (arith, c.loop-i-test.false, c.as_chunks.ensures.front_len)) (omega arith) c.if-recorded-given.true

pub returns : goal.returns
returns c = let e = watching-uneven c.loop-i.invariant (omega (arith, c.loop-i-test.false, c.as_chunks.ensures.front_len)) (omega arith) c.if-recorded-given.false in search (rules, e)
