-- `effect` meets its contract: whoever is ready is let through to peek and copy.
use Rattle.std.proofs.Common.{ap, refl}
use Rattle.effects.specs.Effect.{with_bus}
use Rattle.effects.specs.Machine.{machine}
use Rattle.sight.specs.Types.{Bus}
use Rattle.sight.proofs.Readied.{peek-ready, copy-ready}
use Rattle.single.proofs.step.effect.Goals as goal

pub returns-in-Peek : goal.returns-in-Peek
returns-in-Peek c = let r = c.args.registers.now in
    rw (c.in-Peek.is, c.peek.ensures) (ap (λ (b : Bus). machine (with_bus r b) c.args.memory.now) (peek-ready _ r _ _ c.requires refl))

pub returns-in-Copy : goal.returns-in-Copy
returns-in-Copy c = rw c.in-Copy.is (copy-ready _ c.args.registers.now _ _ c.requires c.copy.ensures)
