-- 02, Req 10 and 11: up then down, and down then up, give the same bytes.
use Rattle.std.specs.Prelude.{◌≡◌, List, ℕ, ◌<◌, get_or, take, true}
use Rattle.state.specs.declared.panel.Panel.{Panel}
use Rattle.state.specs.State.{valid_panel}
use Rattle.contents.specs.Contents.{Body, sound, contents_of}
use Rattle.layout.specs.BodiesRead.{Plain}
use Rattle.layout.specs.Uses.{bodies_read}
use Rattle.layout.specs.Moved.{MovedBook, fitted, up_of, down_of}

-- the bytes of a moved book
abbrev pub moved_bytes : MovedBook → List ℕ
moved_bytes x = take x.reply.size x.out

abbrev pub BookBytes : List ℕ → Type 0
BookBytes book = (i : ℕ) → get_or book i 0 < 256

-- a book that was moved up, which says that its bodies are all well formed on the panel and without AND, comes down as it was, whatever
-- output it is given, or 12 where that is shorter
abbrev pub UpDown : Type 0
UpDown =
    (p : Panel) (book out back : List ℕ) → BookBytes book → (up_of p book out).reply.number ≡ 0
    → down_of (moved_bytes (up_of p book out)) back ≡ fitted book back

-- all bodies are well formed on the panel, and without AND
abbrev pub WellFormed : Panel → List ℕ → Type 0
WellFormed p book = (bs : List Body) → contents_of book ≡ sound bs → bodies_read p book 0 bs ≡ Plain

abbrev pub DownUp : Type 0
DownUp =
    (p : Panel) (book out back : List ℕ) → valid_panel p ≡ true → BookBytes book → WellFormed p book → (down_of book out).reply.number ≡ 0
    → up_of p (moved_bytes (down_of book out)) back ≡ fitted book back
