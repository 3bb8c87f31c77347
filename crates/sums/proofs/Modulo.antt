-- Sums, negatives and summands of integers modulo 2^64.
use Rattle.std.proofs.Common.{◌≡◌, ℕ, zero, suc, ◌+◌, ◌-◌, ◌*◌, ◌%◌, ◌^◌, ◌<◌, Bool, true, false, cond, ltb, ℤ, pos, negsuc, ◌+ℤ◌, neg_ℤ, sym, refl, ap, ◌∙◌, arith, ltb-false, ltb-true}
use lib.IntN.{sub_ℕ}
use Rattle.machine.specs.Integer.{modulo, ◌<<◌}
use Rattle.machine.specs.Meaning.{negated, scaled, is_set}
use Rattle.signs.proofs.Shifts.{modulo_up}

pub modulo_lt : (z : ℤ) → modulo z 64 < 2 ^ 64
unfolding modulo
modulo_lt (pos n) = omega arith
modulo_lt (negsuc n) = omega arith

pub modulo_pos : (x : ℕ) → x < 2 ^ 64 → modulo (pos x) 64 ≡ x
unfolding modulo
modulo_pos x h = omega arith

difference : (a b : ℕ) → modulo (sub_ℕ a (suc b)) 64 ≡ (modulo (pos a) 64 + modulo (negsuc b) 64) % 2 ^ 64
unfolding modulo
difference a b = go (ltb a (suc b)) refl
  where
    go : (t : Bool) → ltb a (suc b) ≡ t
        → modulo (cond t (negsuc (suc b - suc a)) (pos (a - suc b))) 64 ≡ (a % 2 ^ 64 + (2 ^ 64 - 1 - b % 2 ^ 64)) % 2 ^ 64
    go true e = omega (arith, ltb-true a (suc b) e)
    go false e = omega (arith, ltb-false a (suc b) e)

pub modulo_add : (x y : ℤ) → modulo (x +ℤ y) 64 ≡ (modulo x 64 + modulo y 64) % 2 ^ 64
unfolding modulo
modulo_add (pos a) (pos b) = omega arith
modulo_add (pos a) (negsuc b) = difference a b
modulo_add (negsuc a) (pos b) = difference b a ∙ omega arith
modulo_add (negsuc a) (negsuc b) = omega arith

pub modulo_neg : (z : ℤ) → modulo (neg_ℤ z) 64 ≡ (2 ^ 64 - modulo z 64) % 2 ^ 64
unfolding modulo
modulo_neg (pos zero) = refl
modulo_neg (pos (suc n)) = omega arith
modulo_neg (negsuc n) = omega arith

-- the second summand goes by its operand modulo 2^64 only
pub same_term : (N shift : ℕ) (x y : ℤ) → modulo x 64 ≡ modulo y 64
    → modulo (scaled shift (negated N x)) 64 ≡ modulo (scaled shift (negated N y)) 64
unfolding scaled negated
same_term N shift x y e = go (ltb shift 5) (is_set N)
  where
    minus : (t : Bool) → modulo (cond t (neg_ℤ x) x) 64 ≡ modulo (cond t (neg_ℤ y) y) 64
    minus true = modulo_neg x ∙ ap (λ (n : ℕ). (2 ^ 64 - n) % 2 ^ 64) e ∙ sym (modulo_neg y)
    minus false = e

    go : (t u : Bool) → modulo (cond t (cond u (neg_ℤ x) x << shift) (pos 0)) 64 ≡ modulo (cond t (cond u (neg_ℤ y) y << shift) (pos 0)) 64
    go true u =
        modulo_up (cond u (neg_ℤ x) x) shift ∙ ap (λ (n : ℕ). n * 2 ^ shift % 2 ^ 64) (minus u)
        ∙ sym (modulo_up (cond u (neg_ℤ y) y) shift)
    go false u = refl
