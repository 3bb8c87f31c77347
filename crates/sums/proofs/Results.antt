-- The results of iadd and imadd from those of their parts, which are words of 64 bits.
use Rattle.std.proofs.Common.{◌≡◌, ℕ, ◌+◌, ◌-◌, ◌%◌, ◌^◌, ◌<◌, ◌≤◌, Bool, true, false, cond, eqb, leb, ℤ, pos, ◌+ℤ◌, ◌*ℤ◌, nat_abs, sym, refl, ap, ◌∙◌, arith, eqb-true, leb-true}
use Rattle.machine.specs.Integer.{modulo, saturate_integer}
use Rattle.machine.specs.Meaning.{Sum, both, either, is_set, extended, negated, scaled, iadd, imadd}
use Rattle.signs.specs.Signed.{signed_of}
use Rattle.sums.specs.Capped.{capped}
use Rattle.sums.proofs.Modulo.{modulo_lt, modulo_pos, modulo_add, same_term}
use Rattle.sums.proofs.Distance.{signed_near, nat_abs_add, nat_abs_term, nat_abs_mul, product_lt}
use Rattle.sums.proofs.Caps.{capped_near}

-- ---- the test for saturation

both_left : (p q : Bool) → both p q ≡ true → p ≡ true
both_left true q e = refl
both_left false q e = e

both_right : (p q : Bool) → both p q ≡ true → q ≡ true
both_right true q e = e
both_right false q e = cc

abbrev pub saturates : ℕ → ℕ → ℕ → ℕ → ℕ → Bool
saturates S shift x y z = both (is_set S) (both (eqb shift 0) (both (leb x 32) (both (leb y 32) (leb z 32))))

pub record Saturates (shift x y z : ℕ) : Type 0 where
  pub unshifted : shift ≡ 0
  pub first : x ≤ 32
  pub second : y ≤ 32
  pub third : z ≤ 32

pub saturates_true : (S shift x y z : ℕ) → saturates S shift x y z ≡ true → Saturates shift x y z
saturates_true S shift x y z e =
    let p = both (leb y 32) (leb z 32) in
    let q = both (leb x 32) p in
    let f = both_right (is_set S) (both (eqb shift 0) q) e in
    let g = both_right (eqb shift 0) q f in
    let h = both_right (leb x 32) p g in
    record {
      unshifted = eqb-true shift 0 (both_left (eqb shift 0) q f);
      first = leb-true x 32 (both_left (leb x 32) p g);
      second = leb-true y 32 (both_left (leb y 32) (leb z 32) h);
      third = leb-true z 32 (both_right (leb y 32) (leb z 32) h);
    }

-- ---- words

-- a sum of words is the sum of the integers that they stand for
pub added : (N shift : ℕ) (X Y : ℤ) (x y t r : ℕ) → x ≡ modulo X 64 → y ≡ modulo Y 64
    → t ≡ modulo (scaled shift (negated N (pos y))) 64 → r ≡ (x + t) % 2 ^ 64
    → r ≡ modulo (X +ℤ scaled shift (negated N Y)) 64
added N shift X Y x y t r ex ey et er =
    let h : y < 2 ^ 64 = rw ey (modulo_lt Y) in
    let f = et ∙ same_term N shift (pos y) Y (modulo_pos y h ∙ ey) in
    er ∙ (λ i. (ex i + f i) % 2 ^ 64) ∙ sym (modulo_add X (scaled shift (negated N Y)))

-- a sum that is near is limited as its word is
pub limited_word : (N shift size : ℕ) (X Y : ℤ) (signed : Bool) (x r : ℕ) → shift ≡ 0 → nat_abs X + nat_abs Y < 2 ^ 63
    → x ≡ modulo (X +ℤ scaled shift (negated N Y)) 64 → r ≡ modulo (saturate_integer (signed_of x) size signed) 64
    → r ≡ modulo (saturate_integer (X +ℤ scaled shift (negated N Y)) size signed) 64
limited_word N shift size X Y signed x r e h ex er =
    let z = scaled shift (negated N Y) in
    er ∙ ap (λ (y : ℤ). modulo (saturate_integer y size signed) 64)
    (signed_near (X +ℤ z) x (omega (arith, nat_abs_add X z, nat_abs_term N shift Y e)) ex)

-- nothing is cut short at the largest word
pub capped-none : (x y : ℤ) → nat_abs x < 2 ^ 32 → nat_abs y < 2 ^ 32 → capped (2 ^ 64 - 1) (x *ℤ y) ≡ x *ℤ y
capped-none x y h k = capped_near (2 ^ 64 - 1) (x *ℤ y) (omega (arith, nat_abs_mul x y, product_lt (nat_abs x) (nat_abs y) h k))

-- ---- the pages

abbrev pub iadd_sum : Sum → ℕ → ℕ → ℤ
iadd_sum o a b = extended o.As o.size_a a +ℤ scaled o.shift (negated o.N (extended o.Bs o.size_b b))

abbrev pub imadd_sum : Sum → ℕ → ℕ → ℕ → ℤ
imadd_sum o a b c =
    extended o.As o.size_a a *ℤ extended o.Bs o.size_b b
    +ℤ scaled o.shift (negated o.N (extended o.Cs o.size_c c))

abbrev pub saturated : Bool → ℤ → ℕ → Bool → ℤ
saturated t z size signed = cond t (saturate_integer z size signed) z

pub iadd-is : (o : Sum) (a b c : ℕ) {t : Bool} → saturates o.S o.shift o.size_a o.size_b o.size_d ≡ t
    → saturated t (iadd_sum o a b) o.size_d (either (is_set o.As) (is_set o.Bs)) ≡ iadd o a b c
unfolding iadd
iadd-is o a b c e =
    ap (λ (u : Bool). saturated u (iadd_sum o a b) o.size_d (either (is_set o.As) (is_set o.Bs))) (sym e)

pub imadd-is : (o : Sum) (a b c : ℕ) {t : Bool} → saturates o.S o.shift 0 o.size_c o.size_d ≡ t
    → saturated t (imadd_sum o a b c) o.size_d (either (is_set o.As) (either (is_set o.Bs) (is_set o.Cs))) ≡ imadd o a b c
unfolding imadd
imadd-is o a b c e =
    let signed = either (is_set o.As) (either (is_set o.Bs) (is_set o.Cs)) in
    ap (λ (u : Bool). saturated u (imadd_sum o a b c) o.size_d signed) (sym e)
