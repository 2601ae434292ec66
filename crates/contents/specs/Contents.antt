-- 01, Screens, and 02, Req 10: a book's contents, in form one and in form two.
use Rattle.std.specs.Prelude.{ℕ, zero, suc, ◌+◌, ◌*◌, Bool, cond, not, ◌&&◌, ◌||◌, List, [], ◌∷◌, ltb, leb, eqb, length, get_or}
use Rattle.ground.specs.Bytes.{word_of}
use Rattle.contents.specs.declared.entry.Entry.{Entry}

-- 16 bits, low byte first
abbrev pub word_at : List ℕ → ℕ → ℕ
word_at book at = word_of (get_or book at 0) (get_or book (at + 1) 0)

-- a screen's body: what it is asked for by, its first byte in the book and the byte behind it
pub record Body : Type 0 where
  pub key : ℕ
  pub start : ℕ
  pub end : ℕ

-- the bodies in order, or the byte of the first wrong entry, else 0
pub data Contents : Type 0 where
  sound : List Body → Contents
  wrong : ℕ → Contents

abbrev pub with_body : Body → Contents → Contents
with_body b (sound bs) = sound (b ∷ bs)
with_body b (wrong place) = wrong place

-- form two begins with 0
abbrev pub is_two : List ℕ → Bool
is_two book = eqb (get_or book 0 0) 0

-- the byte that holds n: the first, in form two the one behind it
abbrev pub count_at : Bool → ℕ
count_at two = cond two 1 0

-- the entries follow it
abbrev pub entries_at : Bool → ℕ
entries_at two = cond two 2 1

-- an entry is offset and length, in form two identity, offset and length
abbrev pub entry_size : Bool → ℕ
entry_size two = cond two 6 4

-- the identity stands before the offset
abbrev pub lead : Bool → ℕ
lead two = cond two 2 0

-- bodies follow at 1 + 4n, in form two at 2 + 6n
abbrev pub first_body : Bool → ℕ → ℕ
first_body two n = entries_at two + entry_size two * n

-- the entry at a byte; in form one a screen is asked for by its number, which is the least key that is not used yet
abbrev pub entry_at : Bool → List ℕ → ℕ → ℕ → Entry
entry_at two book at least =
    record { key = cond two (word_at book at) least; offset = word_at book (at + lead two); size = word_at book (at + lead two + 2) }

-- identities out of order; the offset isn't where the last body ended; the body passes the book's end; it is the last and falls
-- short of it
abbrev pub wrong_entry : Entry → ℕ → ℕ → ℕ → ℕ → Bool
wrong_entry e most start least left =
    ltb e.key least || not (eqb e.offset start) || ltb most (start + e.size) || (eqb left 0 && ltb (start + e.size) most)

abbrev pub body_of : Entry → ℕ → Body
body_of e start = record { key = e.key; start = start; end = start + e.size }

-- so many entries, the next at byte at, its body to begin at start, its key to be least or more
unfoldable pub entries_from : Bool → List ℕ → ℕ → ℕ → ℕ → ℕ → Contents
entries_from two book zero at start least = sound []
entries_from two book (suc left) at start least =
    cond (wrong_entry (entry_at two book at least) (length book) start least left)
    (wrong at)
    (with_body (body_of (entry_at two book at least) start)
    (entries_from two book left (at + entry_size two) (start + (entry_at two book at least).size) ((entry_at two book at least).key + 1)))

-- 1 to 32,768 bytes; n is 1 to 64; a book that ends inside its contents is none
abbrev pub opens : Bool → ℕ → ℕ → Bool
opens two n size = leb 1 size && leb size 32768 && leb 1 n && leb n 64 && leb (first_body two n) size

-- the contents of a book of n screens, place 0 where it does not open
abbrev pub contents_in : Bool → List ℕ → ℕ → Contents
contents_in two book n = cond (opens two n (length book)) (entries_from two book n (entries_at two) (first_body two n) 0) (wrong 0)

unfoldable pub contents_of : List ℕ → Contents
contents_of book = contents_in (is_two book) book (get_or book (count_at (is_two book)) 0)
