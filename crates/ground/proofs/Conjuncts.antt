-- Several tests that hold together, and two of which neither holds.
use Rattle.std.proofs.Common.{◌≡◌, Bool, true, false, ◌&&◌, ◌||◌, refl}
use Rattle.ground.proofs.Tests.{both_left, both_right}

pub three : (a b c : Bool) → (a && b && c) ≡ true → (a ≡ true) × (b ≡ true) × (c ≡ true)
three a b c e =
    let l = both_left (a && b) c e in
    (both_left a b l, both_right a b l, both_right (a && b) c e)

pub four : (a b c d : Bool) → (a && b && c && d) ≡ true → (a ≡ true) × (b ≡ true) × (c ≡ true) × (d ≡ true)
four a b c d e =
    let l = three a b c (both_left (a && b && c) d e) in
    (l.0, l.1, l.2, both_right (a && b && c) d e)

pub five : (a b c d f : Bool) → (a && b && c && d && f) ≡ true → (a ≡ true) × (b ≡ true) × (c ≡ true) × (d ≡ true) × (f ≡ true)
five a b c d f e =
    let l = four a b c d (both_left (a && b && c && d) f e) in
    (l.0, l.1, l.2, l.3, both_right (a && b && c && d) f e)

pub neither : (a b : Bool) → (a || b) ≡ false → (a ≡ false) × (b ≡ false)
neither true b e = (e, let z : ◌≡◌ {A = Bool} true false = e in cc)
neither false b e = (refl, e)
