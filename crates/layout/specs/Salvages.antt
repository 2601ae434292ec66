-- 02, Req 12: the result is well formed, a sound book comes back byte for byte, and kept operations stand in their order.
use Rattle.std.specs.Prelude.{◌≡◌, true, List, [], ◌∷◌, ℕ, ◌+◌, ◌-◌, ◌<◌, length, get_or, take}
use Rattle.std.proofs.lemmas.List.Edits.{sets}
use Rattle.ground.specs.Lists.{zeros}
use Rattle.state.specs.declared.panel.Panel.{Panel}
use Rattle.state.specs.State.{valid_panel}
use Rattle.contents.specs.Contents.{Body, sound, is_two, contents_of}
use Rattle.contents.specs.Spans.{keys_of, starts_of, ends_of}
use Rattle.book.specs.Operation.{Operation}
use Rattle.book.specs.Screen.{Screen, screen, operations_from}
use Rattle.layout.specs.Moved.{fitted}
use Rattle.layout.specs.Saved.{good_operations, kept_bytes, dropped_bytes, SavedBook, saved_by, salvage_of}
use Rattle.layout.specs.Trips.{BookBytes}

-- the bytes of a saved book
abbrev pub saved_bytes : SavedBook → List ℕ
saved_bytes x = take x.reply.size x.out

-- the operations of a body
abbrev pub body_operations : Panel → List ℕ → Body → Screen
body_operations p book b = operations_from (b.end - b.start) p book b.start b.end

-- each body is well formed, and reads as the good operations of the torn one
abbrev pub ReadsAs : Panel → List ℕ → List Body → List ℕ → List Body → Type 0
ReadsAs p saved [] book [] = Unit {0}
ReadsAs p saved [] book (b ∷ bs) = ⊥
ReadsAs p saved (c ∷ cs) book [] = ⊥
ReadsAs p saved (c ∷ cs) book (b ∷ bs) =
    (body_operations p saved c ≡ screen (good_operations (b.end - b.start) p book b.start b.end)) × ReadsAs p saved cs book bs

-- a saved book has sound contents of the same form with the same count or identities, its bodies the good operations in their order;
-- kept and dropped bytes are those of each body
pub record SavedAs (p : Panel) (book out : List ℕ) : Type 0 where
  pub bodies : List Body
  pub saved : List Body
  pub contents : contents_of book ≡ sound bodies
  pub again : contents_of (saved_bytes (salvage_of p book out)) ≡ sound saved
  pub form : is_two (saved_bytes (salvage_of p book out)) ≡ is_two book
  pub keys : keys_of saved ≡ keys_of bodies
  pub reads : ReadsAs p (saved_bytes (salvage_of p book out)) saved book bodies
  pub kept : (salvage_of p book out).reply.kept ≡ sets (zeros 64) 0 (kept_bytes p book bodies)
  pub dropped : (salvage_of p book out).reply.dropped ≡ sets (zeros 64) 0 (dropped_bytes p book bodies)
  pub sums : (i : ℕ) → i < length bodies
      → get_or (kept_bytes p book bodies) i 0 + get_or (dropped_bytes p book bodies) i 0 ≡ get_or (ends_of bodies) i 0 - get_or (starts_of bodies) i 0

abbrev pub Salvages : Type 0
Salvages = (p : Panel) (book out : List ℕ) → BookBytes book → (salvage_of p book out).reply.number ≡ 0 → SavedAs p book out

-- every body is well formed on the panel; in form one it may use AND
pub record Readable (x : Screen) : Type 0 where
  pub operations : List Operation
  pub is : x ≡ screen operations

abbrev pub AllRead : Panel → List ℕ → List Body → Type 0
AllRead p book [] = Unit {0}
AllRead p book (b ∷ bs) = Readable (body_operations p book b) × AllRead p book bs

-- a sound book comes back byte for byte
abbrev pub ComesBack : Type 0
ComesBack =
    (p : Panel) (book out : List ℕ) (bs : List Body) → BookBytes book → valid_panel p ≡ true → contents_of book ≡ sound bs → AllRead p book bs
    → salvage_of p book out ≡ saved_by (fitted book out) (length bs) (kept_bytes p book bs) (dropped_bytes p book bs)
