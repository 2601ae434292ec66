-- Who wrote there, for C: what listing the stores into a stretch answers, and what it leaves in the buffers that it may write.
use Rattle.std.specs.Prelude.{ℕ, eqb, length, List}
use Rattle.writers.specs.Listed.{ListedAll, list_of}
use Rattle.writing.specs.Types.{Panel, Entry, State, Refused}
use Rattle.image.specs.Door.{door_of, kept_of, list_counts_of}

pub record WritersEnd : Type 0 where
  pub number : ℕ
  pub registers : List ℕ
  pub memory : List ℕ
  pub list : List ℕ
  pub counts : List ℕ

abbrev pub writers_end : ℕ → List ℕ → List ℕ → List ℕ → List ℕ → WritersEnd
writers_end n registers memory list counts = record { number = n; registers = registers; memory = memory; list = list; counts = counts }

abbrev pub writers_done : List ℕ → List ℕ → ListedAll → WritersEnd
writers_done b k o =
    writers_end o.listed.number (kept_of o.listed.number o.listed.registers b) o.memory o.list
    (list_counts_of o.listed.number o.listed.place o.listed.count k)

abbrev pub writers_by : Entry → Panel → List ℕ → List ℕ → List ℕ → List ℕ → ℕ → ℕ → List ℕ → List ℕ → WritersEnd
writers_by (State r) p b mem rom log first last list k = writers_done b k (list_of p r mem rom log first last list)
writers_by (Refused n) p b mem rom log first last list k = writers_end n b mem list k

-- the counts are exactly two
unfoldable pub writers_bytes : Panel → List ℕ → List ℕ → List ℕ → List ℕ → ℕ → ℕ → List ℕ → List ℕ → WritersEnd
writers_bytes p b mem rom log first last list k = writers_by (door_of p (eqb (length k) 2) b) p b mem rom log first last list k
