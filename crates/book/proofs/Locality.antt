-- Locality: an operation that was found is found wherever its bytes stand, in a body that goes on far enough, of a book that knows it.
use mathlib.Core.Path.{◌≡◌, refl, ap, sym, subst, ◌∙◌}
use mathlib.Core.Bool.{Bool, true, false, cond, not, ◌&&◌}
use mathlib.Core.List.{List, [], ◌∷◌}
use Prim.Native.Nat.{ℕ, zero, suc, ◌+◌, ◌-◌, ◌*◌, ◌<◌, ◌≤◌}
use native.Mathlib.Omega.{arith}
use lib.Dec.{ltb, leb, eqb}
use lib.ListN.{length, get_or, take, drop, length-drop}
use lib.Seq.{ext_get_or, get_or-take, get_or-drop, length-take-le}
use borrow.Author.Tests.{le-leb, lt-leb, leb-true}
use Rattle.ground.specs.Bytes.{word_of}
use Rattle.ground.proofs.Tests.{both_left, both_right, both}
use Rattle.state.specs.declared.panel.Panel.{Panel}
use Rattle.book.specs.declared.operation.Placed.{Placed}
use Rattle.book.specs.declared.operation.Placed.TheVariants.{Text, Rectangle, Dot, Glyph, Cursor, Combine}
use Rattle.book.specs.Replies.{Found, Operation as Found-Operation, End, Faulty}
use Rattle.contents.specs.Contents.{word_at, is_two}
use Rattle.book.specs.Operation.{Operation, text, glyph, operation_of, sized, byte_in, text_found, read_text, rectangle_found, read_rectangle, dot_found, read_dot, glyph_found, read_glyph, cursor_found, read_cursor, combination_of, known_mode, combine_found, read_combine, found_here, found_at}
use Rattle.book.specs.Screen.{screen, with_operation, operations_from}
use Rattle.book.proofs.Finding.{found-operation, found-end, at-end}
use Rattle.book.proofs.Walking.{walk-on, walk_end, step-on, step_end, step-never-faulty}

-- the same bytes in two books, so many from a place on
pub record Alike (a : List ℕ) (at : ℕ) (b : List ℕ) (at' n : ℕ) : Type 0 where
  pub bytes : (i : ℕ) → i < n → get_or a (at + i) 0 ≡ get_or b (at' + i) 0

pub alike-less : {a b : List ℕ} {at at' n m : ℕ} → Alike a at b at' n → m ≤ n → Alike a at b at' m
alike-less k l = record { bytes = λ i h. k.bytes i (omega arith) }

pub alike-on : {a b : List ℕ} {at at' n m : ℕ} → Alike a at b at' n → m ≤ n → Alike a (at + m) b (at' + m) (n - m)
alike-on {a} {b} {at} {at'} {n} {m} k l =
    record {
      bytes = λ i h.
          let x : at + m + i ≡ at + (m + i) = omega arith in
          let y : at' + m + i ≡ at' + (m + i) = omega arith in
          ap (λ (j : ℕ). get_or a j 0) x ∙ k.bytes (m + i) (omega arith) ∙ ap (λ (j : ℕ). get_or b j 0) (sym y);
    }

-- a stretch of such bytes
pub alike-stretch : (a b : List ℕ) (at at' n : ℕ) → Alike a at b at' n → at + n ≤ length a → at' + n ≤ length b → take n (drop at a) ≡ take n (drop at' b)
alike-stretch a b at at' n k h h' =
    let l : length (take n (drop at a)) ≡ n = length-take-le n (drop at a) (simp length-drop (omega arith)) in
    let l' : length (take n (drop at' b)) ≡ n = length-take-le n (drop at' b) (simp length-drop (omega arith)) in
    ext_get_or 0 (take n (drop at a)) (take n (drop at' b)) (l ∙ sym l')
    (λ i m.
    let q : i < n = omega arith in
    get_or-take n (drop at a) i 0 q ∙ get_or-drop at a i 0 ∙ k.bytes i q ∙ sym (get_or-drop at' b i 0) ∙ sym (get_or-take n (drop at' b) i 0 q))

-- by the operation's number
abbrev here_by : Panel → List ℕ → ℕ → ℕ → ℕ → Found
here_by p book at end code =
    cond (eqb code 1) (read_text p book at end)
    (cond (eqb code 2) (read_rectangle p book at end)
    (cond (eqb code 3) (read_dot p book at end)
    (cond (eqb code 4) (read_glyph p book at end)
    (cond (eqb code 5) (read_cursor p book at end)
    (cond (eqb code 6) (read_combine book at end)
    Faulty)))))

found-by : (p : Panel) (book : List ℕ) (at end : ℕ) → at < end → end ≤ length book → found_at p book at end ≡ here_by p book at end (get_or book at 0)
unfolding found_at found_here
found-by p book at end l k = λ i. cond (lt-leb end at l i) End (cond (le-leb end (length book) k i) (found_here p book at end) Faulty)

module _ (p : Panel) (a b : List ℕ) (at at' end end' : ℕ) where
  -- an operation of so many bytes that was found in the one, found in the other
  record There (o : Placed) (size : ℕ) (y : Found) : Type 0 where
    placed : Placed
    found : y ≡ Found-Operation placed (at' + size)
    same : operation_of a o ≡ operation_of b placed

  -- what is asked of the other book
  record Room (size : ℕ) : Type 0 where
    alike : Alike a at b at' size
    whole : at' + size ≤ end'

  abbrev Carried : Found → Found → Type 0
  Carried (Found-Operation o next) y = Room (next - at) → There o (next - at) y
  Carried End y = Unit {0}
  Carried Faulty y = Unit {0}

  either-carried : (t : Bool) (x x' y y' : Found) → Carried x y → Carried x' y' → Carried (cond t x x') (cond t y y')
  either-carried true x x' y y' k l = k
  either-carried false x x' y y' k l = l

  -- bytes of an operation
  byte-same : {size : ℕ} → Room size → (k : ℕ) → k < size → byte_in a at k ≡ byte_in b at' k
  byte-same r k l = r.alike.bytes k l

  word_same : {size : ℕ} → Room size → 2 < size → word_at a (at + 1) ≡ word_at b (at' + 1)
  word_same r l =
      let x : at + 1 + 1 ≡ at + 2 = omega arith in
      let y : at' + 1 + 1 ≡ at' + 2 = omega arith in
      λ i. word_of (r.alike.bytes 1 (omega arith) i) ((ap (λ (j : ℕ). get_or a j 0) x ∙ r.alike.bytes 2 l ∙ ap (λ (j : ℕ). get_or b j 0) (sym y)) i)

  module _ (inb : end ≤ length a) (inb' : end' ≤ length b) where
    sized-carried : (size : ℕ) (ranged : Bool) (o o' : Placed) (y : Found)
        → (Room size → at + size ≤ length a → ranged ≡ true → (y ≡ sized at' end' size true o') × (operation_of a o ≡ operation_of b o')) → Carried (sized at end size ranged o) y
    sized-carried size ranged o o' y f = go (leb (at + size) end && ranged) refl
      where
        go : (t : Bool) → (leb (at + size) end && ranged) ≡ t → Carried (cond t (Found-Operation o (at + size)) Faulty) y
        go true e = λ r.
            let z : at + size - at ≡ size = omega arith in
            let q : Room size = subst Room z r in
            let l : at + size ≤ end = leb-true (at + size) end (both_left (leb (at + size) end) ranged e) in
            let g = f q (omega arith) (both_right (leb (at + size) end) ranged e) in
            let w : leb (at' + size) end' ≡ true = le-leb (at' + size) end' q.whole in
            record {
              placed = o';
              found = g.0 ∙ ap (λ (t : Bool). cond (t && true) (Found-Operation o' (at' + size)) Faulty) w ∙ ap (λ (n : ℕ). Found-Operation o' (at' + n)) (sym z);
              same = g.1;
            }
        go false e = tt

    text-carried : Carried (read_text p a at end) (read_text p b at' end')
    text-carried =
        let line : ℕ = byte_in a at 1 in
        let column : ℕ = byte_in a at 2 in
        let n : ℕ = byte_in a at 3 in
        let ranged : Bool = ltb line p.lines && leb 1 n && leb n 80 && leb (column + n) p.columns in
        sized-carried (4 + n) ranged (Text line column (at + 4) n) (Text line column (at' + 4) n) (read_text p b at' end')
        (λ r l e.
        let s = r.alike in
        let m : 4 + n - 4 ≡ n = omega arith in
        let c : take n (drop (at + 4) a) ≡ take n (drop (at' + 4) b) =
        alike-stretch a b (at + 4) (at' + 4) n (subst (Alike a (at + 4) b (at' + 4)) m (alike-on s (omega arith))) (omega arith) (omega (arith, r.whole)) in (
          (λ i. text_found p at' end' (sym (byte-same r 1 (omega arith)) i) (sym (byte-same r 2 (omega arith)) i) (sym (byte-same r 3 (omega arith)) i))
              ∙ ap (λ (t : Bool). sized at' end' (4 + n) t (Text line column (at' + 4) n)) e,
          ap (text line column) c,
        ))

    rectangle-carried : Carried (read_rectangle p a at end) (read_rectangle p b at' end')
    rectangle-carried =
        let top : ℕ = byte_in a at 1 in
        let column : ℕ = byte_in a at 2 in
        let height : ℕ = byte_in a at 3 in
        let width : ℕ = byte_in a at 4 in
        let value : ℕ = byte_in a at 5 in
        let o : Placed = Rectangle top column height width value in
        sized-carried 6 (leb 1 height && leb 1 width && leb (top + height) (8 * p.lines) && leb (column + width) p.columns) o o (read_rectangle p b at' end')
        (λ r l e. (
          (λ i. rectangle_found p at' end' (sym (byte-same r 1 (omega arith)) i) (sym (byte-same r 2 (omega arith)) i) (sym (byte-same r 3 (omega arith)) i)
              (sym (byte-same r 4 (omega arith)) i) (sym (byte-same r 5 (omega arith)) i))
              ∙ ap (λ (t : Bool). sized at' end' 6 t o) e,
          refl,
        ))

    dot-carried : Carried (read_dot p a at end) (read_dot p b at' end')
    dot-carried =
        let x : ℕ = word_at a (at + 1) in
        let y : ℕ = byte_in a at 3 in
        let v : ℕ = byte_in a at 4 in
        let o : Placed = Dot x y (eqb v 1) in
        sized-carried 5 (ltb x (p.columns * p.width) && ltb y (8 * p.lines) && leb v 1) o o (read_dot p b at' end')
        (λ r l e. (
          (λ i. dot_found p at' end' (sym (word_same r (omega arith)) i) (sym (byte-same r 3 (omega arith)) i) (sym (byte-same r 4 (omega arith)) i))
              ∙ ap (λ (t : Bool). sized at' end' 5 t o) e,
          refl,
        ))

    glyph-carried : Carried (read_glyph p a at end) (read_glyph p b at' end')
    glyph-carried =
        let code : ℕ = byte_in a at 1 in
        sized-carried 10 (leb 0x80 code) (Glyph code (at + 2)) (Glyph code (at' + 2)) (read_glyph p b at' end')
        (λ r l e. (
          (λ i. glyph_found at' end' (sym (byte-same r 1 (omega arith)) i)) ∙ ap (λ (t : Bool). sized at' end' 10 t (Glyph code (at' + 2))) e,
          ap (glyph code) (alike-stretch a b (at + 2) (at' + 2) 8 (alike-on r.alike (omega arith)) (omega arith) (omega (arith, r.whole))),
        ))

    cursor-carried : Carried (read_cursor p a at end) (read_cursor p b at' end')
    cursor-carried =
        let line : ℕ = byte_in a at 1 in
        let column : ℕ = byte_in a at 2 in
        let height : ℕ = byte_in a at 3 in
        let blink : ℕ = byte_in a at 4 in
        let o : Placed = Cursor line column height (eqb blink 1) in
        sized-carried 5 (ltb line p.lines && ltb column p.columns && leb 1 height && leb height 8 && leb blink 1) o o (read_cursor p b at' end')
        (λ r l e. (
          (λ i. cursor_found p at' end' (sym (byte-same r 1 (omega arith)) i) (sym (byte-same r 2 (omega arith)) i) (sym (byte-same r 3 (omega arith)) i) (sym (byte-same r 4 (omega arith)) i))
              ∙ ap (λ (t : Bool). sized at' end' 5 t o) e,
          refl,
        ))

    -- what a form knows, form one knows
    module _ (rule : is_two b ≡ true → is_two a ≡ true) where
      known-there : (k : ℕ) → known_mode (is_two a) k ≡ true → known_mode (is_two b) k ≡ true
      known-there k e = go (is_two a) (is_two b) rule e
        where
          go : (t u : Bool) → (u ≡ true → t ≡ true) → known_mode t k ≡ true → known_mode u k ≡ true
          go t true r h = ap (λ (v : Bool). known_mode v k) (sym (r refl)) ∙ h
          go t false r h = both (both_left (leb k 2) (not (t && eqb k 2)) h) refl

      combine-carried : Carried (read_combine a at end) (read_combine b at' end')
      combine-carried =
          let k : ℕ = byte_in a at 1 in
          let o : Placed = Combine (combination_of k) in
          sized-carried 2 (known_mode (is_two a) k) o o (read_combine b at' end')
          (λ r l e.
          ((λ i. combine_found (is_two b) at' end' (sym (byte-same r 1 (omega arith)) i)) ∙ ap (λ (t : Bool). sized at' end' 2 t o) (known-there k e), refl))

      here-carried : (code : ℕ) → Carried (here_by p a at end code) (here_by p b at' end' code)
      here-carried code =
          either-carried (eqb code 1) (read_text p a at end) _ (read_text p b at' end') _ text-carried
          (either-carried (eqb code 2) (read_rectangle p a at end) _ (read_rectangle p b at' end') _ rectangle-carried
          (either-carried (eqb code 3) (read_dot p a at end) _ (read_dot p b at' end') _ dot-carried
          (either-carried (eqb code 4) (read_glyph p a at end) _ (read_glyph p b at' end') _ glyph-carried
          (either-carried (eqb code 5) (read_cursor p a at end) _ (read_cursor p b at' end') _ cursor-carried
          (either-carried (eqb code 6) (read_combine a at end) Faulty (read_combine b at' end') Faulty combine-carried tt)))))

-- an operation found in one book, in another that has its bytes
pub record FoundThere (p : Panel) (a b : List ℕ) (at' end' : ℕ) (o : Placed) (size : ℕ) : Type 0 where
  pub placed : Placed
  pub found : found_at p b at' end' ≡ Found-Operation placed (at' + size)
  pub same : operation_of a o ≡ operation_of b placed

pub found-moves : (p : Panel) (a b : List ℕ) (at at' end end' : ℕ) {o : Placed} {next : ℕ} → found_at p a at end ≡ Found-Operation o next
    → Alike a at b at' (next - at) → at' + (next - at) ≤ end' → end' ≤ length b → (is_two b ≡ true → is_two a ≡ true) → FoundThere p a b at' end' o (next - at)
found-moves p a b at at' end end' {o} {next} h s w inb' rule =
    let k = found-operation p a at end h in
    let z : at + 0 ≡ at = omega arith in
    let z' : at' + 0 ≡ at' = omega arith in
    let first : get_or a at 0 ≡ get_or b at' 0 = ap (λ (n : ℕ). get_or a n 0) (sym z) ∙ s.bytes 0 (omega (arith, k.on)) ∙ ap (λ (n : ℕ). get_or b n 0) z' in
    let here : here_by p a at end (get_or a at 0) ≡ Found-Operation o next = sym (found-by p a at end (omega (arith, k.on, k.to_end)) k.in_book) ∙ h in
    let c : Carried p a b at at' end end' (Found-Operation o next) (here_by p b at' end' (get_or a at 0)) =
    subst (λ (x : Found). Carried p a b at at' end end' x (here_by p b at' end' (get_or a at 0))) here (here-carried p a b at at' end end' k.in_book inb' rule (get_or a at 0)) in
    let t = c (record { alike = s; whole = w }) in
    record {
      placed = t.placed;
      found = found-by p b at' end' (omega (arith, k.on)) inb' ∙ ap (here_by p b at' end') (sym first) ∙ t.found;
      same = t.same;
    }

-- a body whose operations are all sound reads the same wherever its bytes stand
pub operations-move : (p : Panel) (a b : List ℕ) (n at at' end end' : ℕ) {os : List Operation} → end - at ≤ n → at ≤ end → operations_from (end - at) p a at end ≡ screen os
    → Alike a at b at' (end - at) → at' + (end - at) ≡ end' → end' ≤ length b → (is_two b ≡ true → is_two a ≡ true) → operations_from (end' - at') p b at' end' ≡ screen os
operations-move p a b zero at at' end end' {os} f l h s w inb' rule =
    let e : os ≡ [] = step_end p a at end h (at-end p a at end (omega arith)) in
    walk_end p b end' at' (at-end p b at' end' (omega arith)) ∙ ap screen (sym e)
operations-move p a b (suc n) at at' end end' {os} f l h s w inb' rule =
    go (found_at p a at end) refl (λ next next' rest i j left alike q. operations-move p a b n next next' end end' i j left alike q inb' rule)
  where
    go : (x : Found) → found_at p a at end ≡ x
        → ((next next' : ℕ) (rest : List Operation) → end - next ≤ n → next ≤ end → operations_from (end - next) p a next end ≡ screen rest
        → Alike a next b next' (end - next) → next' + (end - next) ≡ end' → operations_from (end' - next') p b next' end' ≡ screen rest)
        → operations_from (end' - at') p b at' end' ≡ screen os
    go End e ih =
        let m : end ≤ at = found-end p a at end e in
        walk_end p b end' at' (at-end p b at' end' (omega arith)) ∙ ap screen (sym (step_end p a at end h e))
    go Faulty e ih = absurd (step-never-faulty p a at end h e)
    go (Found-Operation o next) e ih =
        let k = found-operation p a at end e in
        let m : ℕ = next - at in
        let st = step-on p a at end h e in
        let t = found-moves p a b at at' end end' e (alike-less s (omega (arith, k.to_end))) (omega (arith, k.on, k.to_end)) inb' rule in
        let x : at + m ≡ next = omega (arith, k.on) in
        let y : end - at - m ≡ end - next = omega (arith, k.on) in
        let c : Alike a (at + m) b (at' + m) (end - at - m) = alike-on s (omega (arith, k.to_end)) in
        let d : Alike a next b (at' + m) (end - next) = subst (λ (j : ℕ). Alike a j b (at' + m) (end - next)) x (subst (Alike a (at + m) b (at' + m)) y c) in
        walk-on p b end' at' t.found
        ∙ ap (with_operation (operation_of b t.placed)) (ih next (at' + m) st.rest (omega (arith, k.on)) k.to_end st.left d (omega (arith, k.on, k.to_end)))
        ∙ ap (λ (u : Operation). screen (u ∷ st.rest)) (sym t.same) ∙ ap screen (sym st.is)
