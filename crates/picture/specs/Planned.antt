-- 02, Req 14: a screen's picture as three planes, its combination and its cursor.
use Rattle.std.specs.Prelude.{ℕ, ◌*◌, Bool, cond, ◌&&◌, List, eqb, length, Result, Ok, Err}
use Rattle.state.specs.declared.panel.Panel.{Panel}
use Rattle.state.specs.declared.refusal.Refused.{Refused}
use Rattle.state.specs.declared.registers.Combination.{Combination}
use Rattle.state.specs.declared.registers.Combination.TheVariants.{Or}
use Rattle.state.specs.Refusals.{number_of}
use Rattle.state.specs.State.{valid_panel}
use Rattle.book.specs.Screen.{Screen, screen, refused, screen_of}
use Rattle.picture.specs.declared.style.Style.{Style}
use Rattle.picture.specs.Laid.{Laid, Nowhere, laid}
use Rattle.picture.specs.Picture.{Picture, picture_of}

-- a number and place, 0 where the screen was planned; its combination and its cursor
pub record Planned : Type 0 where
  pub number : ℕ
  pub place : ℕ
  pub combination : Combination
  pub cursor : Laid

-- a reply, and the lent planes then
pub record Plan : Type 0 where
  pub planned : Planned
  pub graphic : List ℕ
  pub codes : List ℕ
  pub glyphs : List ℕ

abbrev pub planned_all : Planned → List ℕ → List ℕ → List ℕ → Plan
planned_all planned graphic codes glyphs = record { planned = planned; graphic = graphic; codes = codes; glyphs = glyphs }

-- OR and no cursor on a refusal
abbrev pub refused_plan : ℕ → ℕ → Planned
refused_plan n place = record { number = n; place = place; combination = Or; cursor = Nowhere }

-- what a result stands for
abbrev pub styled : Result Style Refused → Planned
styled (Ok s) = record { number = 0; place = 0; combination = s.combination; cursor = laid s.cursor }
styled (Err e) = refused_plan (number_of e.refusal) e.place

abbrev pub pictured : Picture → Plan
pictured a =
    planned_all (record { number = 0; place = 0; combination = a.combination; cursor = a.cursor }) a.graphic a.codes a.glyphs

-- planes of exactly C·8L, C·L and 1,024
abbrev pub areas_fit : Panel → List ℕ → List ℕ → List ℕ → Bool
areas_fit p graphic codes glyphs =
    eqb (length graphic) (8 * p.lines * p.columns) && eqb (length codes) (p.lines * p.columns) && eqb (length glyphs) 1024

module _ (p : Panel) (graphic codes glyphs : List ℕ) where
  abbrev pub plan_screen : Screen → Plan
  plan_screen (screen os) = pictured (picture_of p os)
  plan_screen (refused n place) = planned_all (refused_plan n place) graphic codes glyphs

-- 1 panel not valid, 2 a lent fixed length wrong, then 9, 10, 11
unfoldable pub planes_of : Panel → List ℕ → ℕ → List ℕ → List ℕ → List ℕ → Plan
planes_of p book key graphic codes glyphs =
    cond (valid_panel p)
    (cond (areas_fit p graphic codes glyphs)
    (plan_screen p graphic codes glyphs (screen_of p book key))
    (planned_all (refused_plan 2 0) graphic codes glyphs))
    (planned_all (refused_plan 1 0) graphic codes glyphs)
