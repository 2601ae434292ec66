-- What the list says of memory: who wrote there, and that reads write nothing.
use Rattle.std.specs.Prelude.{◌≡◌, ℕ, ◌+◌, true, List, [], ◌∷◌, length, ◌≢◌, slice_index}
use Rattle.state.specs.State.{valid_registers}
use Rattle.controller.specs.Access.{Pair, code, done, refused, step_of}
use Rattle.controller.specs.Run.{pairs_of, whole, run_from}
use Rattle.controller.specs.Skip.{skip_step, begun_on}
use Rattle.noting.specs.Stretch.{Store, in_stretch}
use Rattle.writers.specs.Types.{Panel, Registers}
use Rattle.writers.specs.Listing.{Listing, listing, list_step, begun_list}

-- no entry has an address
pub data NoneAt (a : ℕ) : List Store → Type 0 where
  none : NoneAt a []
  other : {x : Store} {xs : List Store} → (x.address ≢ a) → NoneAt a xs → NoneAt a (x ∷ xs)

-- the last entry that has it says that the byte after is b
pub data LastAt (a b : ℕ) : List Store → Type 0 where
  here : {x : Store} {xs : List Store} → x.address ≡ a → x.after ≡ b → NoneAt a xs → LastAt a b (x ∷ xs)
  later : {x : Store} {xs : List Store} → LastAt a b xs → LastAt a b (x ∷ xs)

-- an address of the stretch, its byte first and last: it has no entry and keeps its byte, or its last entry's byte after is the last byte
pub data Accounts (a first last : ℕ) (es : List Store) : Type 0 where
  kept : NoneAt a es → last ≡ first → Accounts a first last es
  wrote : LastAt a last es → Accounts a first last es

-- a valid state, a whole memory, any log: an address whose last byte differs from its first has an entry, and its last entry's byte after is the
-- final byte; an address with no entry keeps its byte
abbrev pub WhoWrote : Type 0
WhoWrote =
    (p : Panel) (r : Registers) (mem rom log : List ℕ) (first last : ℕ)
    → valid_registers r ≡ true
    → length mem ≡ 65536
    → (a : ℕ)
    → in_stretch first last a ≡ true
    → let end = (run_from (list_step p rom first last) 0 (pairs_of log) (begun_list r mem)).standing.machine in
    Accounts a (slice_index mem a) (slice_index end.machine.memory a) end.stores

-- where the ordinary run has room for its answers and its list: its registers and its memory
abbrev pub Ordinary : Type 0
Ordinary =
    (p : Panel) (r : Registers) (mem rom log : List ℕ) (first last : ℕ) (answers skips : List ℕ)
    → let ordinary = run_from (skip_step true (step_of p rom)) 0 (pairs_of log) (begun_on r mem answers skips) in
    ordinary.end ≡ whole
    → (run_from (list_step p rom first last) 0 (pairs_of log) (begun_list r mem)).standing.machine.machine ≡ ordinary.standing.machine.machine

-- a data read, a status read, a peek, C1H, C3H and C5H
pub data Reads : Pair → Type 0 where
  datum_read : {b : ℕ} → Reads (record { kind = 2; byte = b })
  status_read : {b : ℕ} → Reads (record { kind = 3; byte = b })
  peek : Reads (code 0xe0)
  load_up : Reads (code 0xc1)
  load_down : Reads (code 0xc3)
  load_stay : Reads (code 0xc5)

-- the entries as they were, the memory as it was, one pair on
pub record Unwritten (s t : Listing) : Type 0 where
  pub stores : t.stores ≡ s.stores
  pub memory : t.machine.memory ≡ s.machine.memory
  pub place : t.place ≡ s.place + 1

-- the address moves, or not; nothing is written, nothing listed
abbrev pub ReadsWriteNothing : Type 0
ReadsWriteNothing =
    (p : Panel) (rom : List ℕ) (first last : ℕ) (s : Listing) (q : Pair)
    → Reads q
    → (t : Listing)
    → list_step p rom first last s q ≡ done t
    → Unwritten s t

-- a refused pair leaves everything as it was
abbrev pub RefusedWritesNothing : Type 0
RefusedWritesNothing =
    (p : Panel) (rom : List ℕ) (first last : ℕ) (s : Listing) (q : Pair) (n : ℕ)
    → step_of p rom s.machine q ≡ refused n
    → list_step p rom first last s q ≡ done (listing s.machine s.stores (s.place + 1))
