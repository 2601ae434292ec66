-- What being ready gives: the bytes shown; and that a door that let somebody through leaves him ready.
use Rattle.std.proofs.Common.{◌≡◌, ℕ, ◌+◌, Bool, true, ◌&&◌, eqb, List, length, sym, ap, ◌∙◌, eqb-true}
use Rattle.ground.specs.Lists.{build}
use Rattle.ground.proofs.Tests.{both, both_left, both_right}
use Rattle.state.specs.State.{valid_panel, valid_display, valid_bus, valid_registers}
use Rattle.state.proofs.Valid.{panelled}
use Rattle.display.specs.Displayed.{displayed_byte}
use Rattle.display.specs.Frame.{lent_lengths}
use Rattle.display.specs.Layers.{Stretch, stretch, row_layers_of}
use Rattle.display.proofs.Asked.{row-layers-are}
use Rattle.state.specs.Replies.{Reply}
use Rattle.effects.specs.Machine.{Machine, machine}
use Rattle.sight.specs.Types.{Panel, Display, Registers, Bus, Seen}
use Rattle.sight.specs.Seen.{layers_of}
use Rattle.sight.proofs.Cells.{layers-are}
use Rattle.sight.specs.Ready.{Seeing}
use Rattle.sight.specs.Sight.{peek_of, copy_of, position, sighted, peeked_of, copied_all}
use Rattle.sight.proofs.Sights.{peeked-on, copied_on}

pub ready : (p : Panel) (d : Display) (mem rom : List ℕ) → valid_panel p ≡ true → valid_display d ≡ true → lent_lengths mem rom ≡ true → Seeing p d mem rom
ready p d mem rom i j l =
    let q = panelled p i in
    record {
      panel = i;
      display = j;
      lent = l;
      columns = q.columns;
      lines = q.lines;
      memory = eqb-true (length mem) 65536 (both_left _ (eqb (length rom) 1024) l);
    }

-- past the door of peek and copy
pub ready-sighted : (p : Panel) (d : Display) (mem rom : List ℕ) {b : Bool} → b ≡ sighted p d mem rom → b ≡ true → Seeing p d mem rom
ready-sighted p d mem rom i e =
    let h : sighted p d mem rom ≡ true = sym i ∙ e in
    let l = both_left (valid_panel p && valid_display d) (lent_lengths mem rom) h in
    ready p d mem rom (both_left (valid_panel p) (valid_display d) l) (both_right (valid_panel p) (valid_display d) l) (both_right (valid_panel p && valid_display d) (lent_lengths mem rom) h)

-- past a door
pub ready-past : (p : Panel) (r : Registers) (mem rom : List ℕ) {a b : Bool} → a ≡ valid_panel p → b ≡ valid_registers r → (a && b) ≡ true
    → lent_lengths mem rom ≡ true → Seeing p r.display mem rom
ready-past p r mem rom {a} {b} i j e l =
    ready p r.display mem rom (sym i ∙ both_left a b e) (both_left _ (valid_bus r.bus) (sym j ∙ both_right a b e)) l

-- the byte shown, of an answer that meets the display's promise
pub shown-byte : {p : Panel} {d : Display} {mem rom : List ℕ} → Seeing p d mem rom → (r c : ℕ) {x : Seen} → x ≡ layers_of p d mem rom r c
    → x.shown ≡ displayed_byte p d mem rom r c
shown-byte {p} {d} {mem} {rom} k r c e =
    ap (λ (x : Seen). x.shown) (e ∙ layers-are p d mem rom r c k.panel k.display k.lent)

-- and the bytes of a stretch
pub shown-bytes : {p : Panel} {d : Display} {mem rom : List ℕ} → Seeing p d mem rom → (r c : ℕ) (text graphic shown : List ℕ) {x : Reply} {t g s : List ℕ}
    → stretch x t g s ≡ row_layers_of p d mem rom r c text graphic shown → length text ≡ length shown → length graphic ≡ length shown
    → s ≡ build (length shown) (λ j. displayed_byte p d mem rom r (c + j))
shown-bytes {p} {d} {mem} {rom} k r c text graphic shown e m n =
    ap (λ (x : Stretch). x.shown) (e ∙ row-layers-are p d mem rom r c text graphic shown k.panel k.display k.lent m n)

-- whoever is ready is let through
module _ (p : Panel) (r : Registers) (mem rom : List ℕ) (k : Seeing p r.display mem rom) where
  let_through : true ≡ sighted p r.display mem rom
  let_through = sym (both (both k.panel k.display) k.lent)

  pub peek-ready : {x : Bus} → x ≡ peeked_of p r mem rom → x ≡ peek_of p rom (machine r mem) (position p r)
  unfolding peeked_of
  peek-ready h = h ∙ sym (peeked-on p r mem rom let_through (λ i. true) (λ i. peek_of p rom (machine r mem) (position p r)))

  pub copy-ready : {x : Machine} → x ≡ copied_all p r mem rom → x ≡ copy_of p rom (machine r mem) (position p r)
  copy-ready h = h ∙ sym (copied_on p r mem rom let_through (λ i. true) (λ i. copy_of p rom (machine r mem) (position p r)))
