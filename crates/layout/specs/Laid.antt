-- 02, Req 10: a book laid out: its first bytes, an entry for each screen, their bodies one after the other.
use Rattle.std.specs.Prelude.{ℕ, ◌+◌, ◌-◌, ◌/◌, ◌%◌, Bool, cond, List, [], ◌∷◌, ◌++◌, length, take, drop}
use Rattle.contents.specs.Contents.{Body, first_body}

-- a screen: what it is asked for by, and the bytes of its body
pub record Kept : Type 0 where
  pub key : ℕ
  pub body : List ℕ

-- 16 bits, low byte first
abbrev pub word_bytes : ℕ → List ℕ
word_bytes n = n % 256 ∷ n / 256 ∷ []

-- offset and length, in form two the identity before them
abbrev pub entry_bytes : Bool → ℕ → ℕ → ℕ → List ℕ
entry_bytes two key start size = cond two (word_bytes key) [] ++ (word_bytes start ++ word_bytes size)

-- n, in form two 0 before it
abbrev pub head_bytes : Bool → ℕ → List ℕ
head_bytes two n = cond two (0 ∷ n ∷ []) (n ∷ [])

-- the first body begins at start, and each where the last one ended
unfoldable pub entries_laid : Bool → List Kept → ℕ → List ℕ
entries_laid two [] start = []
entries_laid two (k ∷ ks) start = entry_bytes two k.key start (length k.body) ++ entries_laid two ks (start + length k.body)

unfoldable pub bodies_laid : List Kept → List ℕ
bodies_laid [] = []
bodies_laid (k ∷ ks) = k.body ++ bodies_laid ks

unfoldable pub laid_out : Bool → List Kept → List ℕ
laid_out two ks = head_bytes two (length ks) ++ (entries_laid two ks (first_body two (length ks)) ++ bodies_laid ks)

-- the bytes of a book between two places
abbrev pub bytes_between : List ℕ → ℕ → ℕ → List ℕ
bytes_between book start end = take (end - start) (drop start book)

-- the screens of a book
abbrev pub screens_of : List ℕ → List Body → List Kept
screens_of book [] = []
screens_of book (b ∷ bs) = record { key = b.key; body = bytes_between book b.start b.end } ∷ screens_of book bs
