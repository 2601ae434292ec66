-- Bytes put behind an output, and when entries and bodies fit behind it.
use Rattle.std.specs.Prelude.{◌≡◌, ℕ, ◌+◌, ◌*◌, ◌≤◌, Bool, List, length}
use Rattle.std.proofs.lemmas.List.Edits.{sets}
use Rattle.contents.specs.Contents.{Body, entry_size}
use Rattle.layout.specs.declared.put.Output.{Output}
use Rattle.layout.specs.Ready.{sizes_of, laid_size, Within}

-- b is the output a with the bytes behind it, the rest unchanged
pub record Puts (a : Output) (xs : List ℕ) (b : Output) : Type 0 where
  pub holds : b.out.now ≡ sets a.out.now a.at xs
  pub ends : b.at ≡ a.at + length xs
  pub kept : length b.out.now ≡ length a.out.now
  pub same_out : b.out.ghost_name ≡ a.out.ghost_name

-- an entry for each screen, no body longer than a book
pub record EntriesFit (two : Bool) (bs : List Body) (a : Output) : Type 0 where
  pub within : Within 32768 bs
  pub few : length bs ≤ 64
  pub fits : laid_size two bs ≤ 32768
  pub lent : a.at + entry_size two * length bs ≤ length a.out.now

pub record BodiesFit (bs : List Body) (most : ℕ) (a : Output) : Type 0 where
  pub within : Within most bs
  pub lent : a.at + sizes_of bs ≤ length a.out.now
