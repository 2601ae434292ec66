-- What each look at a row's bytes comes to.
use Rattle.std.proofs.Common.{◌≡◌, ℕ, ◌+◌, ◌-◌, ◌*◌, ◌/◌, ◌%◌, ◌<◌, ◌≤◌, min, Bool, true, false, cond, not, ◌&&◌, ◌||◌, eqb, ltb, List, get_or, sym, refl, ap, ◌∙◌, ⊎_elim, arith, ltb-false, ltb-true, le-ltb, lt-ltb, eqb-true}
use native.Mathlib.Decide.{dec_lt}
use borrow.Author.Tests.{eqb-false}
use Rattle.ground.proofs.Tests.{both, both_right, either}
use Rattle.state.specs.Address.{address_of}
use Rattle.display.specs.Displayed.{text_code}
use Rattle.display.specs.Layers.{from_memory}
use Rattle.stores.specs.Stores.{from_address}
use Rattle.touch.specs.Types.{Panel, Plane, Display}
use Rattle.touch.specs.Touch.{any_of, in_row, glyph_byte_at, glyph_at, plane_row, touches, touched_by}
use Rattle.touch.specs.Ready.{row_meets, span_of, reaches_of, planes_meet, code_meets, line_meets, glyph_meets, near_bank}
use Rattle.touch.proofs.Anys.{alike, or_left, or_right, not-both, any_found, any_none, any-or, any_swap, within, across}

there_and_back : (a s : ℕ) → a < 65536 → s < 65536 → ((a + (65536 - s)) % 65536 + (s + (65536 - a)) % 65536) % 65536 ≡ 0
there_and_back a s la ls = omega arith

-- two places that go round into one another, and a third C - 1 behind the one
module _ (a b C x m : ℕ) (wide : 0 < C) (few : C ≤ 80) (la : a < 65536) (lb : b < 65536) (e : x ≡ (a + (C - 1)) % 65536) (f : (b + a) % 65536 ≡ 0) where
  outside : C ≤ b → x < m + C - 1 → a < m
  outside h l = omega arith

  before-it : b < C → 0 < m → x < m + C - 1
  before-it h l = omega arith

  inside-it : a < m → x < m + C - 1
  inside-it l = omega arith

-- a row of a plane: where it begins, counted from C - 1 before the first address, is below the span exactly where the two stretches meet
module _ (C at n x low start : ℕ) (wide : 0 < C) (few : C ≤ 80) (la : at < 65536) (ls : start < 65536) (lx : x < 65536)
    (l : (low + (C - 1)) % 65536 ≡ at) (e : (x + low) % 65536 ≡ start) where
  abbrev past : ℕ
  past = (at + (65536 - start)) % 65536

  abbrev ahead : ℕ
  ahead = (start + (65536 - at)) % 65536

  from-ahead : x ≡ (ahead + (C - 1)) % 65536
  from-ahead = omega arith

  round : (past + ahead) % 65536 ≡ 0
  round = there_and_back at start la ls

  small : ahead < n → ahead < min n 65536
  small h = omega arith

  inside : x < min n 65536 + C - 1 → C ≤ past → ahead < n
  inside h far = let k = outside ahead past C x (min n 65536) wide few (omega arith) (omega arith) from-ahead round far h in omega (arith, k)

  spanned : ltb x (span_of C n) ≡ (ltb 0 n && ltb 0 C && (ltb past C || ltb ahead n))
  spanned = go (eqb n 0) refl
    where
      go : (t : Bool) → eqb n 0 ≡ t → ltb x (cond t 0 (min n 65536 + C - 1)) ≡ (ltb 0 n && ltb 0 C && (ltb past C || ltb ahead n))
      go true z =
          let k : n ≤ 0 = let y = eqb-true n 0 z in omega arith in
          le-ltb x 0 (omega arith) ∙ sym (λ i. le-ltb 0 n k i && ltb 0 C && (ltb past C || ltb ahead n))
      go false z =
          let some : 0 < n = let y = eqb-false n 0 z in omega arith in
          alike (ltb x (min n 65536 + C - 1)) (ltb 0 n && ltb 0 C && (ltb past C || ltb ahead n))
          (λ h. both (both (lt-ltb 0 n some) (lt-ltb 0 C wide)) (near some (ltb-true x (min n 65536 + C - 1) h) (dec_lt past C)))
          (λ h. lt-ltb x (min n 65536 + C - 1)
          (⊎_elim (λ a. before-it ahead past C x (min n 65536) wide few (omega arith) (omega arith) from-ahead round (ltb-true past C a) (omega (arith, some)))
          (λ a. inside-it ahead past C x (min n 65536) wide few (omega arith) (omega arith) from-ahead round (small (ltb-true ahead n a)))
          (either (ltb past C) (ltb ahead n) (both_right (ltb 0 n && ltb 0 C) (ltb past C || ltb ahead n) h))))
        where
          near : 0 < n → x < min n 65536 + C - 1 → Dec (past < C) → (ltb past C || ltb ahead n) ≡ true
          near some h (yes k) = or_left (ltb past C) (ltb ahead n) (lt-ltb past C k)
          near some h (no k) = or_right (ltb past C) (ltb ahead n) (lt-ltb ahead n (inside h (omega (arith, k))))

-- what `reaches` comes to
module _ (q : Plane) (row C at n low : ℕ) (wide : 0 < C) (few : C ≤ 80) (la : at < 65536) (ll : low < 65536) (l : (low + (C - 1)) % 65536 ≡ at) where
  abbrev S : ℕ
  S = q.home + row * q.area

  abbrev start : ℕ
  start = S % 65536

  abbrev x : ℕ
  x = (start + (65536 - low)) % 65536

  from_low : (x + low) % 65536 ≡ start
  from_low = omega arith

  pub row-reach : reaches_of q row low (span_of C n) ≡ row_meets q row C at n
  unfolding row_meets in_row
  row-reach =
      spanned C at n x low start wide few la (omega arith) (omega arith) l from_low
      ∙ across S start at ((at + (65536 - start)) % 65536) ((start + (65536 - at)) % 65536) C n refl la (omega arith) (omega arith) (omega arith) (omega arith)

any-and : (n : ℕ) (a : Bool) (f : ℕ → Bool) → (a && any_of n f) ≡ any_of n (λ j. a && f j)
any-and n true f = refl
any-and n false f = sym (any_none n (λ j. false) (λ i l e. not-both e refl))

-- a code's glyph byte
pub code_meets_lem : (d : Display) (code v at n : ℕ) {ahead : ℕ} → at < 65536 → ahead < 65536 → 2048 * d.offset + 8 * code + v < 65536
    → (ahead + at) % 65536 ≡ 2048 * d.offset + 8 * code + v
    → (not (not d.external && ltb code 128) && ltb ahead n) ≡ code_meets d code v at n
unfolding code_meets glyph_byte_at
code_meets_lem d code v at n {ahead} la lh lg e =
    ap (λ (t : Bool). from_memory d code && t) (within at (2048 * d.offset + 8 * code + v) ahead n la lg lh e)
    ∙ any-and n (from_memory d code) (λ j. eqb (from_address at j) (2048 * d.offset + 8 * code + v))

-- cell by cell, or address by address
pub line-glyphs : (p : Panel) (d : Display) (mem : List ℕ) (r at n : ℕ) → line_meets p d mem r at n ≡ glyph_meets p d mem r at n
unfolding line_meets code_meets glyph_meets glyph_at
line-glyphs p d mem r at n =
    any_swap p.columns n (λ c j. glyph_byte_at d (text_code d mem (r / 8) c) (r % 8) (from_address at j))

-- a glyph byte lies in the 2,048 bytes at the offset, and has its row's last three bits
module _ (d : Display) (at n : ℕ) (la : at < 65536) where
  bank-meets : {past ahead : ℕ} (g : ℕ) → past < 65536 → ahead < 65536 → (past + 2048 * d.offset) % 65536 ≡ at → (ahead + at) % 65536 ≡ 2048 * d.offset
      → d.offset < 32 → 2048 * d.offset ≤ g → g < 2048 * d.offset + 2048 → (j : ℕ) → j < n → (at + j) % 65536 ≡ g → 2048 ≤ past → ahead < n
  bank-meets {past} {ahead} g lp lh e f o below above j l q far = omega arith

  bits-meet : (v g : ℕ) → v < 8 → g % 8 ≡ v → (j : ℕ) → j < n → (at + j) % 65536 ≡ g → (v + 8 - at % 8) % 8 < n
  bits-meet v g lv e j l q =
      let a : (at + j) % 8 ≡ v = last-bits (at + j) g q ∙ e in
      let b = first-such v j lv a in
      omega (arith, b, l)
    where
      last-bits : (a g : ℕ) → a % 65536 ≡ g → a % 8 ≡ g % 8
      last-bits a g q = omega arith

      first-such : (v j : ℕ) → v < 8 → (at + j) % 8 ≡ v → (v + 8 - at % 8) % 8 ≤ j
      first-such v j l e = omega arith

-- nothing to look for
none-there : (p : Panel) (d : Display) (mem : List ℕ) (r at n : ℕ) (past ahead : ℕ) → at < 65536 → d.offset < 32 → ((i : ℕ) → get_or mem i 0 < 256)
    → past < 65536 → ahead < 65536 → (past + 2048 * d.offset) % 65536 ≡ at → (ahead + at) % 65536 ≡ 2048 * d.offset
    → ((ltb past 2048 || ltb ahead n) && ltb ((r % 8 + 8 - at % 8) % 8) n) ≡ false → false ≡ glyph_meets p d mem r at n
unfolding glyph_meets glyph_at glyph_byte_at text_code
none-there p d mem r at n past ahead la lo bytes lp lh e f h =
    sym
    (any_none n (λ j. glyph_at p d mem r (from_address at j))
    (λ j l t.
    let x = any_found p.columns (λ c. glyph_byte_at d (text_code d mem (r / 8) c) (r % 8) (from_address at j)) t in
    let code : ℕ = get_or mem (address_of d.text (r / 8) x.at) 0 in
    let small : code < 256 = bytes (address_of d.text (r / 8) x.at) in
    let g : ℕ = 2048 * d.offset + 8 * code + r % 8 in
    let q : (at + j) % 65536 ≡ g = eqb-true (from_address at j) g (both_right (from_memory d code) _ x.holds) in
    let bits : (r % 8 + 8 - at % 8) % 8 < n = bits-meet d at n la (r % 8) g (omega arith) (omega arith) j l q in
    not-both
    (both (near (ltb past 2048) refl (λ far. bank-meets d at n la g lp lh e f lo (omega arith) (omega (arith, small)) j l q far)) (lt-ltb ((r % 8 + 8 - at % 8) % 8) n bits))
    h))
  where
    near : (t : Bool) → ltb past 2048 ≡ t → (2048 ≤ past → ahead < n) → (t || ltb ahead n) ≡ true
    near true z k = refl
    near false z k = lt-ltb ahead n (k (ltb-false past 2048 z))

pub none-near : (p : Panel) (d : Display) (mem : List ℕ) (r at n : ℕ) → at < 65536 → d.offset < 32 → ((i : ℕ) → get_or mem i 0 < 256)
    → (near_bank d at n && ltb ((r % 8 + 8 - at % 8) % 8) n) ≡ false → false ≡ glyph_meets p d mem r at n
none-near p d mem r at n la lo bytes h =
    none-there p d mem r at n ((at + (65536 - 2048 * d.offset)) % 65536) ((2048 * d.offset + (65536 - at)) % 65536) la lo bytes (omega arith) (omega arith) (omega arith) (omega arith) h

-- no address has the row's last three bits
pub none-next : (p : Panel) (d : Display) (mem : List ℕ) (r at n : ℕ) → at < 65536 → d.offset < 32 → ((i : ℕ) → get_or mem i 0 < 256)
    → n ≤ (r % 8 + 8 - at % 8) % 8 → false ≡ glyph_meets p d mem r at n
none-next p d mem r at n la lo bytes h =
    none-near p d mem r at n la lo bytes (and-false (near_bank d at n) (ltb ((r % 8 + 8 - at % 8) % 8) n) (le-ltb ((r % 8 + 8 - at % 8) % 8) n h))
  where
    and-false : (a b : Bool) → b ≡ false → (a && b) ≡ false
    and-false true b e = e
    and-false false b e = refl

shuffle : (x a b c : Bool) → (b || (x || (a || c))) ≡ (x || (a || (b || c)))
shuffle x a true c = sym (or_right x (a || true) (or_right a true refl))
shuffle x a false c = refl

-- all three, joined
pub row_reads : (p : Panel) (d : Display) (mem : List ℕ) (r at n : ℕ) (altered : Bool)
    → (glyph_meets p d mem r at n || (altered || planes_meet p d at n r)) ≡ (altered || touched_by p d mem at n r)
unfolding row_meets glyph_meets touched_by touches
row_reads p d mem r at n altered =
    shuffle altered (any_of n text) (any_of n glyph) (any_of n graphic) ∙ ap (λ (t : Bool). altered || t) (sym (any-or n text glyph graphic))
  where
    text : ℕ → Bool
    text m = in_row d.text (r / 8) p.columns (from_address at m)

    glyph : ℕ → Bool
    glyph m = glyph_at p d mem r (from_address at m)

    graphic : ℕ → Bool
    graphic m = in_row d.graphic (plane_row d.combination r) p.columns (from_address at m)
