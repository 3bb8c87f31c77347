-- How far from 0 an integer is: sums, products, summands, and values of 32 bits at most. A word is exact of an integer that is near.
use Rattle.std.proofs.Common.{◌≡◌, ℕ, zero, suc, ◌+◌, ◌-◌, ◌*◌, ◌/◌, ◌%◌, ◌^◌, ◌<◌, ◌≤◌, Bool, true, false, cond, eqb, ltb, ℤ, pos, negsuc, ◌+ℤ◌, ◌*ℤ◌, neg_ℤ, nat_abs, refl, ap, ◌∙◌, mul-le-mul, arith, pow_mono, ltb-false, ltb-true, lt-ltb}
use native.Mathlib.Nat.{zero-div}
use lib.IntN.{sub_ℕ}
use lib.Signed.{mag}
use borrow.Author.Tests.{eqb-false}
use Rattle.machine.specs.Integer.{modulo, sign_extend, ◌<<◌}
use Rattle.machine.specs.Meaning.{negated, scaled, extended, is_set}
use Rattle.signs.specs.Signed.{signed_of}
use Rattle.signs.proofs.Modulo.{signed_modulo}

pub signed_near : (z : ℤ) (x : ℕ) → nat_abs z < 2 ^ 63 → x ≡ modulo z 64 → signed_of x ≡ z
signed_near z x h e = ap signed_of e ∙ signed_modulo z (within z h)
  where
    within : (z : ℤ) → nat_abs z < 2 ^ 63 → mag z < 2 ^ 63
    within (pos n) h = h
    within (negsuc n) h = omega arith

difference : (a b : ℕ) → nat_abs (sub_ℕ a (suc b)) ≤ a + suc b
difference a b = go (ltb a (suc b)) refl
  where
    go : (t : Bool) → ltb a (suc b) ≡ t → nat_abs (cond t (negsuc (suc b - suc a)) (pos (a - suc b))) ≤ a + suc b
    go true e = omega (arith, ltb-true a (suc b) e)
    go false e = omega (arith, ltb-false a (suc b) e)

pub nat_abs_add : (x y : ℤ) → nat_abs (x +ℤ y) ≤ nat_abs x + nat_abs y
nat_abs_add (pos a) (pos b) = omega arith
nat_abs_add (pos a) (negsuc b) = difference a b
nat_abs_add (negsuc a) (pos b) = omega (arith, difference b a)
nat_abs_add (negsuc a) (negsuc b) = omega arith

pub nat_abs_neg : (z : ℤ) → nat_abs (neg_ℤ z) ≡ nat_abs z
nat_abs_neg (pos zero) = refl
nat_abs_neg (pos (suc n)) = refl
nat_abs_neg (negsuc n) = refl

pub nat_abs_mul : (x y : ℤ) → nat_abs (x *ℤ y) ≡ nat_abs x * nat_abs y
nat_abs_mul (pos a) (pos b) = refl
nat_abs_mul (pos a) (negsuc b) = nat_abs_neg (pos (a * suc b))
nat_abs_mul (negsuc a) (pos b) = nat_abs_neg (pos (suc a * b))
nat_abs_mul (negsuc a) (negsuc b) = refl

pub product_lt : (m n : ℕ) → m < 2 ^ 32 → n < 2 ^ 32 → m * n < 2 ^ 64
product_lt m n h k =
    let a : m ≤ 2 ^ 32 - 1 = omega arith in
    let b : n ≤ 2 ^ 32 - 1 = omega arith in
    omega (arith, mul-le-mul a b)

-- ---- the second summand, where nothing is shifted

unshifted : (z : ℤ) → nat_abs (z << 0) ≡ nat_abs z
unshifted (pos a) = omega arith
unshifted (negsuc a) = nat_abs_neg (pos (suc a * 1)) ∙ omega arith

pub nat_abs_term : (N shift : ℕ) (z : ℤ) → shift ≡ 0 → nat_abs (scaled shift (negated N z)) ≡ nat_abs z
unfolding scaled negated
nat_abs_term N shift z e = rw e (go (is_set N))
  where
    go : (t : Bool) → nat_abs (cond t (neg_ℤ z) z << 0) ≡ nat_abs z
    go true = unshifted (neg_ℤ z) ∙ nat_abs_neg z
    go false = unshifted z

-- ---- values of 32 bits at most

below_power : (x p : ℕ) → 0 < x → x < p → nat_abs (pos x +ℤ neg_ℤ (pos p)) < p
below_power x zero g h = absurd (omega arith)
below_power x (suc n) g h = rw (lt-ltb x (suc n) h) (omega arith)

pub nat_abs_extended : (s size x : ℕ) → size ≤ 32 → x < 2 ^ size → nat_abs (extended s size x) < 2 ^ 32
unfolding extended sign_extend
nat_abs_extended s size x h k = go (is_set s) (eqb (x / 2 ^ (size - 1) % 2) 0) refl
  where
    m : 2 ^ size ≤ 2 ^ 32
    m = pow_mono h

    plain : x < 2 ^ 32
    plain = omega (arith, m)

    positive : (n : ℕ) → (n / 2 ^ (size - 1) % 2 ≡ 0 → ⊥) → 0 < n
    positive zero f = absurd (f (ap (λ (q : ℕ). q % 2) (zero-div (2 ^ (size - 1)))))
    positive (suc n) f = omega arith

    go : (t u : Bool) → eqb (x / 2 ^ (size - 1) % 2) 0 ≡ u
        → nat_abs (cond t (cond u (pos x) (pos x +ℤ neg_ℤ (pos (2 ^ size)))) (pos x)) < 2 ^ 32
    go false u e = plain
    go true true e = plain
    go true false e = omega (arith, m, below_power x (2 ^ size) (positive x (eqb-false (x / 2 ^ (size - 1) % 2) 0 e)) k)
