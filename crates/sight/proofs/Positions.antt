-- Where the pointer stands: found at a position that no earlier one shares, or nowhere.
use Rattle.std.proofs.Common.{◌≡◌, ℕ, Option, Some, None, refl, ◌+◌, ◌*◌, ◌%◌, ◌<◌, ◌≤◌, Bool, true, false, cond, sym, ap, ◌∙◌, mod-eq_of_lt, suc-mul, zero-mul, add-one, arith, eq-eqb, ne_eqb, eqb-true}
use native.Mathlib.Nat.{mod-add-mod}
use native.Mathlib.Decide.{dec_lt}
use Rattle.ground.specs.Lists.{build}
use Rattle.ground.proofs.Searches.{Passed, each-built, each-joined, first-has, first-none, first_found, build-passed, build-finds, joined-passed, joined-finds}
use Rattle.sight.specs.Types.{Panel, Plane, Position, At, Nowhere}
use Rattle.state.specs.State.{valid_panel}
use Rattle.state.specs.Address.{address_of}
use Rattle.sight.specs.Position.{positions, stands_at, position_of, located_of}
use Rattle.sight.specs.Located.{located}
use Rattle.sight.specs.declared.position.Position.{Position as Place}

module _ (p : Panel) (q : Plane) (pointer : ℕ) where
  -- no column of dot row r
  pub row-passed : (r : ℕ) → ((c : ℕ) → c < p.columns → pointer ≡ address_of q r c → ⊥)
      → Passed (stands_at q pointer) (build p.columns (λ c. At r c))
  row-passed r h = build-passed (stands_at q pointer) p.columns (λ c. At r c) (λ c l. ne_eqb pointer (address_of q r c) (h c l))

  pub position-none : ((r c : ℕ) → r < 8 * p.lines → c < p.columns → pointer ≡ address_of q r c → ⊥)
      → position_of p q pointer ≡ Nowhere
  unfolding position_of positions
  position-none h =
      first-none (stands_at q pointer) Nowhere
      (joined-passed (stands_at q pointer) (8 * p.lines) (λ r. build p.columns (λ c. At r c)) (λ r l. row-passed r (λ c k. h r c l k)))

  pub position_at : (r c : ℕ) → r < 8 * p.lines → c < p.columns
      → ((i j : ℕ) → i < r → j < p.columns → pointer ≡ address_of q i j → ⊥)
      → ((j : ℕ) → j < c → pointer ≡ address_of q r j → ⊥)
      → pointer ≡ address_of q r c → position_of p q pointer ≡ At r c
  unfolding position_of positions
  position_at r c l k above left e =
      first_found (stands_at q pointer) Nowhere
      (joined-finds (stands_at q pointer) (8 * p.lines) (λ r. build p.columns (λ c. At r c)) r l
      (λ i m. row-passed i (λ j n. above i j m n))
      (build-finds (stands_at q pointer) p.columns (λ c. At r c) c k
      (λ j m. ne_eqb pointer (address_of q r j) (left j m)) (eq-eqb pointer (address_of q r c) e)))

-- what is found stands where the pointer is, on the panel
abbrev pub Within : Panel → Plane → ℕ → Position → Type 0
Within p q pointer (At r c) = (r < 8 * p.lines) × (c < p.columns) × (pointer ≡ address_of q r c)
Within p q pointer Nowhere = Unit {0}

pub position-within : (p : Panel) (q : Plane) (pointer : ℕ) → Within p q pointer (position_of p q pointer)
unfolding position_of positions
position-within p q pointer =
    first-has (stands_at q pointer) (Within p q pointer) Nowhere tt
    (each-joined (λ x. stands_at q pointer x ≡ true → Within p q pointer x) (8 * p.lines) (λ r. build p.columns (λ c. At r c))
    (λ r l. each-built (λ x. stands_at q pointer x ≡ true → Within p q pointer x) p.columns (λ c. At r c)
    (λ c k e. (l, k, eqb-true pointer (address_of q r c) e))))

-- the search row by row: where the row begins, and that no earlier row had it
pub record Searching (C home area pointer start row : ℕ) : Type 0 where
  pub begins : start ≡ (home + row * area) % 65536
  pub missed : (i c : ℕ) → i < row → c < C → pointer ≡ (home + i * area + c) % 65536 → ⊥

pub searching : (C home area pointer : ℕ) → home < 65536 → Searching C home area pointer home 0
searching C home area pointer h =
    record {
      begins = sym (ap (λ (n : ℕ). (home + n) % 65536) (zero-mul area) ∙ mod-eq_of_lt (omega arith) ∙ (omega arith));
      missed = λ i c l k e. omega arith;
    }

module _ {C home area pointer start row : ℕ} (k : Searching C home area pointer start row) {across : ℕ} (e : (across + start) % 65536 ≡ pointer) (l : across < 65536) where
  here : pointer ≡ (home + row * area + across) % 65536
  here = sym e ∙ ap (λ (n : ℕ). (across + n) % 65536) k.begins ∙ (omega arith)

  -- in a row one column at most has the pointer
  only : (c : ℕ) → c < 65536 → pointer ≡ (home + row * area + c) % 65536 → c ≡ across
  only c m h =
      let s : ℕ = home + row * area in
      let a : pointer ≡ (home + row * area + across) % 65536 = here in
      omega arith

  pub search-on : C ≤ 80 → C ≤ across → {next : ℕ} → next ≡ (start + area) % 65536 → Searching C home area pointer next (row + 1)
  search-on few past {next} n =
      record {
        begins = n ∙ ap (λ (m : ℕ). (m + area) % 65536) k.begins ∙ mod-add-mod (home + row * area) 65536 area
            ∙ ap (λ (m : ℕ). m % 65536) (let f : (row + 1) * area ≡ row * area + area = ap (λ (m : ℕ). m * area) (add-one row) ∙ suc-mul row area in omega arith);
        missed = λ i c m q h. go (dec_lt i row) m q h;
      }
    where
      go : {i c : ℕ} → Dec (i < row) → i < row + 1 → c < C → pointer ≡ (home + i * area + c) % 65536 → ⊥
      go {i} {c} (yes t) m q h = k.missed i c t q h
      go {i} {c} (no t) m q h =
          let f : i ≡ row = omega arith in
          let g : c ≡ across = only c (omega arith) (h ∙ ap (λ (n : ℕ). (home + n * area + c) % 65536) f) in
          omega arith

module _ (p : Panel) (q : Plane) {pointer start row : ℕ} (k : Searching p.columns q.home q.area pointer start row) where
  pub search-found : {across : ℕ} → (across + start) % 65536 ≡ pointer → across < 65536 → row < 8 * p.lines → p.columns ≤ 80
      → across < p.columns → At row across ≡ position_of p q pointer
  search-found {across} e l t few h =
      sym
      (position_at p q pointer row across t h (λ i j m n f. k.missed i j m n f)
      (λ j m f. let g : j ≡ across = only k e l j (omega arith) f in omega arith)
      (here k e l))

  pub search-over : 8 * p.lines ≤ row → Nowhere ≡ position_of p q pointer
  search-over h = sym (position-none p q pointer (λ i c l m e. k.missed i c (omega arith) m e))

-- asked of any panel
module _ (p : Panel) (q : Plane) (pointer : ℕ) where
  pub located-on : {x : Position} → valid_panel p ≡ true → x ≡ position_of p q pointer → x ≡ located_of p q pointer
  located-on v e = e ∙ sym (ap (λ (t : Bool). cond t (position_of p q pointer) Nowhere) v)

  pub located-off : valid_panel p ≡ false → Nowhere ≡ located_of p q pointer
  located-off v = sym (ap (λ (t : Bool). cond t (position_of p q pointer) Nowhere) v)

-- two answers that meet the promise are equal
placed : Position → Option Place
placed (At row column) = Some (record { row = row; column = column })
placed Nowhere = None

placed-is : (x : Option Place) → x ≡ placed (located x)
unfolding placed
placed-is (Some place) = refl
placed-is None = refl

pub locate-result-settled : {x y : Option Place} (p : Panel) (q : Plane) (pointer : ℕ) → located x ≡ located_of p q pointer → located y ≡ located_of p q pointer → x ≡ y
locate-result-settled {x} {y} p q pointer h k = placed-is x ∙ ap placed (h ∙ sym k) ∙ sym (placed-is y)
