-- Converted twice a frame is as it was, and converted once it is XBM.
use mathlib.Core.Path.{◌≡◌, refl, ap, sym, ◌∙◌}
use mathlib.Core.List.{List, map}
use mathlib.Core.Bool.{Bool, true, false}
use Prim.Native.Nat.{ℕ, ◌+◌, ◌*◌, ◌/◌, ◌%◌, ◌<◌}
use native.Mathlib.Omega.{arith}
use lib.Dec.{eqb}
use lib.ListN.{length, get_or, length-map}
use lib.Seq.{ext_get_or}
use borrow.Author.Tests.{eq-eqb}
use Rattle.ground.specs.Bytes.{bit_of}
use Rattle.state.specs.State.{valid_panel}
use Rattle.state.specs.Sizes.{row_size}
use Rattle.display.specs.Types.{Panel}
use Rattle.display.specs.Frame.{frame_fits, reply_of, Painted, painted, frame_of}
use Rattle.display.proofs.Painted.{frame-length, frame-dot}
use Rattle.mirror.specs.Order.{mirrored, convert_of}
use Rattle.mirror.specs.Claims.{ConvertTwice, XbmDot}
use Rattle.mirror.proofs.Orders.{mirror-bit, mirror-twice, mirrored-at}
use Rattle.mirror.proofs.Doors.{converts}

pub bytes-twice : (l : List ℕ) → ((i : ℕ) → get_or l i 0 < 256) → map mirrored (map mirrored l) ≡ l
bytes-twice l h =
    ext_get_or 0 (map mirrored (map mirrored l)) l (length-map (map mirrored l) mirrored ∙ length-map l mirrored)
    (λ i m. mirrored-at (map mirrored l) i ∙ ap mirrored (mirrored-at l i) ∙ mirror-twice (get_or l i 0) (h i))

fits-mirrored : (p : Panel) (frame : List ℕ) → frame_fits p frame ≡ true → frame_fits p (map mirrored frame) ≡ true
fits-mirrored p frame j = ap (λ (n : ℕ). eqb n (8 * p.lines * row_size p)) (length-map frame mirrored) ∙ j

pub convert-twice : ConvertTwice
convert-twice p frame h = go (valid_panel p) (frame_fits p frame) refl refl
  where
    -- what a second conversion makes of a first one
    through : (x : Painted) → x ≡ convert_of p frame → convert_of p x.frame ≡ painted x.reply frame
        → convert_of p (convert_of p frame).frame ≡ painted (convert_of p frame).reply frame
    through x e k =
        ap (λ (o : Painted). convert_of p o.frame) (sym e) ∙ k ∙ ap (λ (o : Painted). painted o.reply frame) e

    go : (v f : Bool) → valid_panel p ≡ v → frame_fits p frame ≡ f
        → convert_of p (convert_of p frame).frame ≡ painted (convert_of p frame).reply frame
    go true true i j =
        through (painted (reply_of 0) (map mirrored frame)) (converts p frame true true i j)
        (sym (converts p (map mirrored frame) true true i (fits-mirrored p frame j)) ∙ ap (painted (reply_of 0)) (bytes-twice frame h))
    go true false i j = through (painted (reply_of 2) frame) (converts p frame true false i j) (sym (converts p frame true false i j))
    go false f i j = through (painted (reply_of 1) frame) (converts p frame false f i j) (sym (converts p frame false f i j))

pub xbm-dot : XbmDot
xbm-dot p d mem rom v r x h k =
    ap (λ (o : Painted). bit_of (get_or o.frame at 0) (x % 8))
    (sym (converts p frame true true v (eq-eqb (length frame) (8 * p.lines * row_size p) (frame-length p d mem rom))))
    ∙ ap (λ (n : ℕ). bit_of n (x % 8)) (mirrored-at frame at)
    ∙ mirror-bit (get_or frame at 0) (x % 8) (omega arith)
    ∙ frame-dot p d mem rom r x h k
  where
    frame : List ℕ
    frame = frame_of p d mem rom

    at : ℕ
    at = r * row_size p + x / 8
