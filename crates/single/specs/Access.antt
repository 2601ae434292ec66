-- 01, Bus pairs: a single access.
use Rattle.std.specs.Prelude.{ℕ, cond, ◌&&◌, List}
use Rattle.state.specs.State.{valid_panel, valid_registers}
use Rattle.display.specs.Frame.{lent_lengths}
use Rattle.effects.specs.Machine.{Machine, machine}
use Rattle.sight.specs.Steps.{Pair, Step, done, answered, refused, step_of}
use Rattle.single.specs.Types.{Panel, Registers, Acted}

-- a reply, and the display memory then
pub record Accessed : Type 0 where
  pub acted : Acted
  pub memory : List ℕ

abbrev pub replied : Acted → List ℕ → Accessed
replied a m = record { acted = a; memory = m }

abbrev pub accessed : ℕ → Registers → ℕ → List ℕ → Accessed
accessed n r b m = replied (record { number = n; place = 0; registers = r; answer = b }) m

-- a single access counts as pair 0 and returns its read byte, or 0; a refused one changes nothing
abbrev pub acted_of : Registers → List ℕ → Step Machine → Accessed
acted_of r m (done s) = accessed 0 s.registers 0 s.memory
acted_of r m (answered s b) = accessed 0 s.registers b s.memory
acted_of r m (refused n) = accessed n r 0 m

-- 1 panel or state not valid, 2 a lent fixed length wrong, then the pair
unfoldable pub access_of : Panel → Registers → List ℕ → List ℕ → Pair → Accessed
access_of p r mem rom q =
    cond (valid_panel p && valid_registers r)
    (cond (lent_lengths mem rom) (acted_of r mem (step_of p rom (machine r mem) q)) (accessed 2 r 0 mem))
    (accessed 1 r 0 mem)
