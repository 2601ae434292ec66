-- 01, Screens, and Numbers returned: what drawing a screen answers.
use Rattle.std.specs.Prelude.{ℕ, ◌*◌, Bool, cond, ◌&&◌, List, eqb, length}
use Rattle.state.specs.declared.panel.Panel.{Panel}
use Rattle.state.specs.Replies.{Reply}
use Rattle.state.specs.State.{valid_panel}
use Rattle.display.specs.Frame.{frame_fits, reply_of}
use Rattle.book.specs.Screen.{Screen, screen, refused, screen_of}
use Rattle.picture.specs.Picture.{picture_of, picture_frame}

-- a reply, and the lent planes and frame then
pub record Drew : Type 0 where
  pub reply : Reply
  pub graphic : List ℕ
  pub codes : List ℕ
  pub glyphs : List ℕ
  pub frame : List ℕ

abbrev pub drew_all : Reply → List ℕ → List ℕ → List ℕ → List ℕ → Drew
drew_all reply graphic codes glyphs frame =
    record { reply = reply; graphic = graphic; codes = codes; glyphs = glyphs; frame = frame }

-- lent: character ROM of exactly 1,024 bytes, planes of exactly C·8L, C·L and 1,024
abbrev pub planes_fit : Panel → List ℕ → List ℕ → List ℕ → List ℕ → Bool
planes_fit p rom graphic codes glyphs =
    eqb (length rom) 1024 && eqb (length graphic) (8 * p.lines * p.columns) && eqb (length codes) (p.lines * p.columns)
    && eqb (length glyphs) 1024

module _ (p : Panel) (rom : List ℕ) (normal : Bool) (graphic codes glyphs frame : List ℕ) where
  -- the picture's planes and its dots, or a refusal that leaves all as it was
  abbrev pub draw_screen : Screen → Drew
  draw_screen (screen os) =
      drew_all (reply_of 0) (picture_of p os).graphic (picture_of p os).codes (picture_of p os).glyphs (picture_frame p rom (picture_of p os) normal)
  draw_screen (refused n place) = drew_all (record { number = n; place = place }) graphic codes glyphs frame

-- 1 panel not valid, 2 a lent fixed length wrong, then 9, 10, 11
unfoldable pub draw_of : Panel → List ℕ → ℕ → List ℕ → Bool → List ℕ → List ℕ → List ℕ → List ℕ → Drew
draw_of p book number rom normal graphic codes glyphs frame =
    cond (valid_panel p)
    (cond (planes_fit p rom graphic codes glyphs && frame_fits p frame)
    (draw_screen p rom normal graphic codes glyphs frame (screen_of p book number))
    (drew_all (reply_of 2) graphic codes glyphs frame))
    (drew_all (reply_of 1) graphic codes glyphs frame)
