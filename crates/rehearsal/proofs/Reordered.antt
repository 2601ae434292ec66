-- Request 13 from the pictures of both orders and demand 3: what a stream leaves in memory is its picture's planes.
use mathlib.Core.Path.{◌≡◌, sym, ap, ◌∙◌}
use mathlib.Core.List.{List, [], ◌∷◌, ◌++◌}
use Prim.Native.Nat.{ℕ, ◌+◌, ◌*◌}
use native.Mathlib.Omega.{arith}
use Rattle.state.specs.declared.panel.Panel.{Panel}
use Rattle.book.specs.Operation.{Operation}
use Rattle.order.proofs.Commutes.{picture-swap, count-swap}
use Rattle.writer.specs.Stream.{count_of}
use Rattle.picture.specs.Picture.{Picture, picture_of, picture_frame}
use Rattle.rehearsal.specs.Demand3.{holding}
use Rattle.rehearsal.specs.Reorders.{Reorders}
use Rattle.rehearsal.proofs.Demand3.{demand-3}

-- a screen's pairs are those of its body and of the opening
counted : (p : Panel) (a b : Operation) (os ps : List Operation) → count_of p (os ++ (a ∷ b ∷ ps)) ≡ count_of p (os ++ (b ∷ a ∷ ps))
unfolding count_of
counted p a b os ps = ap (λ (k : ℕ). 1057 + 9 * (p.columns * p.lines) + k) (count-swap a b os ps)

pub reorders : Reorders
reorders p one two m n os ps a b bytes others v whole second free =
    let same : picture_of p (os ++ (a ∷ b ∷ ps)) ≡ picture_of p (os ++ (b ∷ a ∷ ps)) = picture-swap p v one m os ps a b whole free in
    let pairs : count_of p (os ++ (a ∷ b ∷ ps)) ≡ count_of p (os ++ (b ∷ a ∷ ps)) = counted p a b os ps in
    record {
      picture = same;
      frame = λ rom phase. ap (λ (x : Picture). picture_frame p rom x phase) same;
      count = pairs;
      memory = λ room another r mem rom answers unused limit fits fit valid size characters few.
          (demand-3 p one m (os ++ (a ∷ b ∷ ps)) room r mem rom answers [] limit bytes v whole fits valid size characters few).1.memory
          ∙ ap (holding p mem) same
          ∙ sym
          (demand-3 p two n (os ++ (b ∷ a ∷ ps)) another r mem rom unused [] limit others v second (omega (arith, pairs)) valid size characters (omega (arith, pairs))).1.memory;
    }
