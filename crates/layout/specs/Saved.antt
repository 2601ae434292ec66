-- 02, Req 12: a torn book saved: of each body the longest run of whole good operations from its start.
use Rattle.std.specs.Prelude.{ℕ, zero, suc, ◌-◌, cond, List, [], ◌∷◌, eqb, length}
use Rattle.std.proofs.lemmas.List.Edits.{sets}
use Rattle.ground.specs.Lists.{zeros}
use Rattle.state.specs.declared.panel.Panel.{Panel}
use Rattle.state.specs.State.{valid_panel}
use Rattle.contents.specs.Contents.{Body, Contents, sound, wrong, is_two, contents_of}
use Rattle.book.specs.declared.operation.Placed.{Placed}
use Rattle.book.specs.Replies.{Found, Operation as Found-Operation, End, Faulty}
use Rattle.book.specs.Operation.{Operation, operation_of, found_at}
use Rattle.layout.specs.Laid.{laid_out, screens_of}
use Rattle.layout.specs.Moved.{MovedBook, fitted}

-- on behind an operation, or here at the body's end or before one that is unknown, cut or out of range
abbrev pub after_good : {A : Type 0} → Found → (Placed → ℕ → A) → A → A
after_good (Found-Operation o next) on here = on o next
after_good End on here = here
after_good Faulty on here = here

-- the byte behind the last of at most n good operations, and these operations; whatever stands behind a bad one is dropped
unfoldable pub good_until : ℕ → Panel → List ℕ → ℕ → ℕ → ℕ
good_until zero p book at end = at
good_until (suc n) p book at end = after_good (found_at p book at end) (λ o next. good_until n p book next end) at

unfoldable pub good_operations : ℕ → Panel → List ℕ → ℕ → ℕ → List Operation
good_operations zero p book at end = []
good_operations (suc n) p book at end =
    after_good (found_at p book at end) (λ o next. operation_of book o ∷ good_operations n p book next end) []

-- a body has no more operations than bytes
abbrev pub good_end : Panel → List ℕ → Body → ℕ
good_end p book b = good_until (b.end - b.start) p book b.start b.end

-- the bodies cut behind their good operations
abbrev pub cut_all : Panel → List ℕ → List Body → List Body
cut_all p book [] = []
cut_all p book (b ∷ bs) = record { key = b.key; start = b.start; end = good_end p book b } ∷ cut_all p book bs

-- the bytes kept and dropped of each
abbrev pub kept_bytes : Panel → List ℕ → List Body → List ℕ
kept_bytes p book [] = []
kept_bytes p book (b ∷ bs) = (good_end p book b - b.start) ∷ kept_bytes p book bs

abbrev pub dropped_bytes : Panel → List ℕ → List Body → List ℕ
dropped_bytes p book [] = []
dropped_bytes p book (b ∷ bs) = (b.end - good_end p book b) ∷ dropped_bytes p book bs

-- a number and place, the bytes of the saved book, and of each of its screens the bytes kept and dropped. 64 of each, 0 behind the
-- count; all of it 0 where it was refused
pub record Salvaged : Type 0 where
  pub number : ℕ
  pub place : ℕ
  pub size : ℕ
  pub count : ℕ
  pub kept : List ℕ
  pub dropped : List ℕ

-- a reply, and the output
pub record SavedBook : Type 0 where
  pub reply : Salvaged
  pub out : List ℕ

abbrev pub saved_all : Salvaged → List ℕ → SavedBook
saved_all r out = record { reply = r; out = out }

-- a refusal with its place reports nothing
abbrev pub not_saved : ℕ → ℕ → List ℕ → SavedBook
not_saved n place out =
    saved_all (record { number = n; place = place; size = 0; count = 0; kept = zeros 64; dropped = zeros 64 }) out

-- the book laid out, with a report of so many screens; or 12
abbrev pub saved_by : MovedBook → ℕ → List ℕ → List ℕ → SavedBook
saved_by m count kept dropped =
    cond (eqb m.reply.number 0)
    (saved_all
    (record {
      number = 0;
      place = 0;
      size = m.reply.size;
      count = count;
      kept = sets (zeros 64) 0 kept;
      dropped = sets (zeros 64) 0 dropped;
    })
    m.out)
    (not_saved m.reply.number m.reply.place m.out)

-- the same form, with the same count or identities
abbrev pub saved_in : Panel → List ℕ → Contents → List ℕ → SavedBook
saved_in p book (sound bs) out =
    saved_by (fitted (laid_out (is_two book) (screens_of book (cut_all p book bs))) out) (length bs) (kept_bytes p book bs) (dropped_bytes p book bs)
saved_in p book (wrong place) out = not_saved 9 place out

-- 1, 9, 12
unfoldable pub salvage_of : Panel → List ℕ → List ℕ → SavedBook
salvage_of p book out = cond (valid_panel p) (saved_in p book (contents_of book) out) (not_saved 1 0 out)
