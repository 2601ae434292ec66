-- `put` meets its contract: the part of the list that is written over.
use Rattle.std.proofs.Common.{◌*◌, [], ◌∷◌, length, refl, ap, ◌∙◌}
use lib.Seq.{length-sets}
use Rattle.ground.proofs.Mids.{mid-sets}
use Rattle.noting.proofs.note.Notes.put.Goals as goal

pub returns : goal.returns
returns c = let a = c.args in
    let entry = a.pair ∷ a.address ∷ a.before ∷ a.after ∷ [] in
    let holds = mid-sets (4 * a.place) 4 _ entry c.copy_from_slice.ensures.after refl c.requires in
    record {
      holds = holds;
      count = refl;
      stays = record { stretch = refl; same_list = refl; long = ap length holds ∙ length-sets _ (4 * a.place) entry };
    }
