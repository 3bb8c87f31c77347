-- The product of the distances from 0 is exact, and no further than most; the signs decide on which side it lies.
use Rattle.std.proofs.Common.{◌≡◌, ℕ, ◌*◌, ◌%◌, ◌^◌, ◌<◌, min, nat_abs, sym, ◌∙◌, arith}
use Rattle.signs.specs.Signed.{signed_of}
use Rattle.sums.proofs.Factors.{alike, unlike}
use Rattle.sums.proofs.product.product.Goals as goal

distance : (x y most m n p : ℕ) → nat_abs (signed_of x) < 2 ^ 32 → nat_abs (signed_of y) < 2 ^ 32
    → m ≡ nat_abs (signed_of x) → n ≡ nat_abs (signed_of y) → p ≡ min ((m % 2 ^ 32) * (n % 2 ^ 32)) most
    → p ≡ min (nat_abs (signed_of x) * nat_abs (signed_of y)) most
distance x y most m n p h k em en ep =
    let e : m % 2 ^ 32 ≡ nat_abs (signed_of x) = omega arith in
    let f : n % 2 ^ 32 ≡ nat_abs (signed_of y) = omega arith in
    ep ∙ (λ i. min (e i * f i) most)

pub returns-then-x-y : goal.returns-then-x-y
returns-then-x-y c =
    let a = c.args in
    let r = c.ranges in
    distance a.x a.y a.most c.magnitude-m.result c.magnitude-n.result c.min-p.result c.requires.0 c.requires.1
    c.magnitude-m.ensures c.magnitude-n.ensures c.min-p.ensures
    ∙ sym (alike a.x a.y a.most r.x.fits r.y.fits r.most.fits c.if-x-y.true)

pub returns-else-x-y : goal.returns-else-x-y
returns-else-x-y c =
    let a = c.args in
    let r = c.ranges in
    let d = distance a.x a.y a.most c.magnitude-m.result c.magnitude-n.result c.min-p.result c.requires.0 c.requires.1
    c.magnitude-m.ensures c.magnitude-n.ensures c.min-p.ensures in
    omega (arith, d, c.wrapping_neg.ensures)
    ∙ sym (unlike a.x a.y a.most r.x.fits r.y.fits r.most.fits c.if-x-y.false)
