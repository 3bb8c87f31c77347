-- The product of two words whose top bits are signs, by the signs and the distances from 0.
use Rattle.std.proofs.Common.{◌≡◌, ℕ, zero, suc, ◌-◌, ◌*◌, ◌/◌, ◌%◌, ◌^◌, ◌<◌, min, Bool, true, false, cond, ltb, ℤ, pos, negsuc, ◌*ℤ◌, neg_ℤ, nat_abs, refl, ap, ◌∙◌, arith, ltb-false, ltb-true}
use Rattle.machine.specs.Integer.{modulo}
use Rattle.signs.specs.Signed.{signed_of}
use Rattle.sums.specs.Capped.{capped}
use Rattle.sums.proofs.Modulo.{modulo_pos, modulo_neg}
use Rattle.sums.proofs.Caps.{limit_pos, limit_neg}

capped_pos : (most n : ℕ) → most < 2 ^ 64 → modulo (capped most (pos n)) 64 ≡ min n most
capped_pos most n h = ap (λ (z : ℤ). modulo z 64) (limit_pos most most n) ∙ modulo_pos (min n most) (omega arith)

capped_neg : (most n : ℕ) → most < 2 ^ 64 → modulo (capped most (neg_ℤ (pos n))) 64 ≡ (2 ^ 64 - min n most) % 2 ^ 64
capped_neg most zero h = capped_pos most zero h ∙ omega arith
capped_neg most (suc n) h =
    ap (λ (z : ℤ). modulo z 64) (limit_neg most most n) ∙ modulo_neg (pos (min (suc n) most))
    ∙ ap (λ (m : ℕ). (2 ^ 64 - m) % 2 ^ 64) (modulo_pos (min (suc n) most) (omega arith))

module _ (x y most : ℕ) (hx : x < 2 ^ 64) (hy : y < 2 ^ 64) (h : most < 2 ^ 64) where
  pub alike : x / 2 ^ 63 ≡ y / 2 ^ 63
      → modulo (capped most (signed_of x *ℤ signed_of y)) 64 ≡ min (nat_abs (signed_of x) * nat_abs (signed_of y)) most
  unfolding signed_of
  alike e = go (ltb x (2 ^ 63)) (ltb y (2 ^ 63)) refl refl
    where
      go : (t u : Bool) → ltb x (2 ^ 63) ≡ t → ltb y (2 ^ 63) ≡ u
          → modulo (capped most (cond t (pos x) (negsuc (2 ^ 64 - 1 - x)) *ℤ cond u (pos y) (negsuc (2 ^ 64 - 1 - y)))) 64
          ≡ min (nat_abs (cond t (pos x) (negsuc (2 ^ 64 - 1 - x))) * nat_abs (cond u (pos y) (negsuc (2 ^ 64 - 1 - y)))) most
      go true true f g = capped_pos most (x * y) h
      go true false f g = absurd (omega (arith, ltb-true x (2 ^ 63) f, ltb-false y (2 ^ 63) g))
      go false true f g = absurd (omega (arith, ltb-false x (2 ^ 63) f, ltb-true y (2 ^ 63) g))
      go false false f g = capped_pos most (suc (2 ^ 64 - 1 - x) * suc (2 ^ 64 - 1 - y)) h

  pub unlike : (x / 2 ^ 63 ≡ y / 2 ^ 63 → ⊥)
      → modulo (capped most (signed_of x *ℤ signed_of y)) 64 ≡ (2 ^ 64 - min (nat_abs (signed_of x) * nat_abs (signed_of y)) most) % 2 ^ 64
  unfolding signed_of
  unlike e = go (ltb x (2 ^ 63)) (ltb y (2 ^ 63)) refl refl
    where
      go : (t u : Bool) → ltb x (2 ^ 63) ≡ t → ltb y (2 ^ 63) ≡ u
          → modulo (capped most (cond t (pos x) (negsuc (2 ^ 64 - 1 - x)) *ℤ cond u (pos y) (negsuc (2 ^ 64 - 1 - y)))) 64
          ≡ (2 ^ 64 - min (nat_abs (cond t (pos x) (negsuc (2 ^ 64 - 1 - x))) * nat_abs (cond u (pos y) (negsuc (2 ^ 64 - 1 - y)))) most) % 2 ^ 64
      go true true f g = absurd (e (omega (arith, ltb-true x (2 ^ 63) f, ltb-true y (2 ^ 63) g)))
      go true false f g = capped_neg most (x * suc (2 ^ 64 - 1 - y)) h
      go false true f g = capped_neg most (suc (2 ^ 64 - 1 - x) * y) h
      go false false f g = absurd (e (omega (arith, ltb-false x (2 ^ 63) f, ltb-false y (2 ^ 63) g)))
