-- Limits of an integer by its sign and its distance from 0. A summand that is far from 0 may be cut short before the sum is limited.
use Rattle.std.proofs.Common.{◌≡◌, ℕ, zero, suc, ◌+◌, ◌-◌, ◌%◌, ◌^◌, ◌<◌, ◌≤◌, min, Bool, true, false, cond, ltb, ℤ, pos, negsuc, ◌+ℤ◌, neg_ℤ, nat_abs, sym, refl, ap, ◌∙◌, arith, pow_pos, pow_mono, ltb-false, ltb-true, le-ltb, lt-ltb}
use lib.Signed.{lt_z}
use Rattle.machine.specs.Integer.{limit, modulo, saturate_integer}
use Rattle.signs.specs.Signed.{signed_of}
use Rattle.sums.specs.Capped.{capped}
use Rattle.sums.proofs.Modulo.{modulo_pos, modulo_neg}
use Rattle.sums.proofs.Distance.{nat_abs_neg}

not_below : (below n : ℕ) → lt_z (pos n) (neg_ℤ (pos below)) ≡ false
not_below zero n = le-ltb n 0 (omega arith)
not_below (suc b) n = refl

pub limit_pos : (below high n : ℕ) → limit (neg_ℤ (pos below)) (pos high) (pos n) ≡ pos (min n high)
limit_pos below high n = rw (not_below below n) (go (ltb high n) refl)
  where
    go : (t : Bool) → ltb high n ≡ t → cond t (pos high) (pos n) ≡ pos (min n high)
    go true e = ap pos (omega (arith, ltb-true high n e))
    go false e = ap pos (omega (arith, ltb-false high n e))

pub limit_neg : (below high n : ℕ) → limit (neg_ℤ (pos below)) (pos high) (negsuc n) ≡ neg_ℤ (pos (min (suc n) below))
limit_neg zero high n =
    let e : 0 ≡ min (suc n) 0 = omega arith in
    ap (λ (k : ℕ). neg_ℤ (pos k)) e
limit_neg (suc b) high n = go (ltb b n) refl
  where
    go : (t : Bool) → ltb b n ≡ t → cond t (negsuc b) (negsuc n) ≡ neg_ℤ (pos (min (suc n) (suc b)))
    go true e =
        let m : suc b ≡ min (suc n) (suc b) = omega (arith, ltb-true b n e) in
        ap (λ (k : ℕ). neg_ℤ (pos k)) m
    go false e =
        let m : suc n ≡ min (suc n) (suc b) = omega (arith, ltb-false b n e) in
        ap (λ (k : ℕ). neg_ℤ (pos k)) m

-- ---- a summand cut short at 2^40

over : (below high n q : ℕ) (c : ℤ) → high < 2 ^ 32 → nat_abs c < 2 ^ 32 → q ≡ min n (2 ^ 40)
    → limit (neg_ℤ (pos below)) (pos high) (pos n +ℤ c) ≡ limit (neg_ℤ (pos below)) (pos high) (pos q +ℤ c)
over below high n q (pos m) h k e = limit_pos below high (n + m) ∙ ap pos (omega arith) ∙ sym (limit_pos below high (q + m))
over below high n q (negsuc m) h k e = go (ltb n (suc m)) (ltb q (suc m)) refl refl
  where
    go : (t u : Bool) → ltb n (suc m) ≡ t → ltb q (suc m) ≡ u
        → limit (neg_ℤ (pos below)) (pos high) (cond t (negsuc (suc m - suc n)) (pos (n - suc m)))
        ≡ limit (neg_ℤ (pos below)) (pos high) (cond u (negsuc (suc m - suc q)) (pos (q - suc m)))
    go true true f g =
        let i : n ≡ q = omega (arith, ltb-true n (suc m) f) in
        ap (λ (r : ℕ). limit (neg_ℤ (pos below)) (pos high) (negsuc (suc m - suc r))) i
    go true false f g = absurd (omega (arith, ltb-true n (suc m) f, ltb-false q (suc m) g))
    go false true f g = absurd (omega (arith, ltb-false n (suc m) f, ltb-true q (suc m) g))
    go false false f g =
        limit_pos below high (n - suc m) ∙ ap pos (omega (arith, ltb-false n (suc m) f, ltb-false q (suc m) g))
        ∙ sym (limit_pos below high (q - suc m))

under : (below high n q : ℕ) (c : ℤ) → below ≤ 2 ^ 32 → nat_abs c < 2 ^ 32 → suc q ≡ min (suc n) (2 ^ 40)
    → limit (neg_ℤ (pos below)) (pos high) (negsuc n +ℤ c) ≡ limit (neg_ℤ (pos below)) (pos high) (negsuc q +ℤ c)
under below high n q (negsuc m) h k e =
    let i : min (suc (suc (n + m))) below ≡ min (suc (suc (q + m))) below = omega arith in
    limit_neg below high (suc (n + m)) ∙ ap (λ (r : ℕ). neg_ℤ (pos r)) i ∙ sym (limit_neg below high (suc (q + m)))
under below high n q (pos m) h k e = go (ltb m (suc n)) (ltb m (suc q)) refl refl
  where
    go : (t u : Bool) → ltb m (suc n) ≡ t → ltb m (suc q) ≡ u
        → limit (neg_ℤ (pos below)) (pos high) (cond t (negsuc (suc n - suc m)) (pos (m - suc n)))
        ≡ limit (neg_ℤ (pos below)) (pos high) (cond u (negsuc (suc q - suc m)) (pos (m - suc q)))
    go true true f g =
        let i : min (suc (suc n - suc m)) below ≡ min (suc (suc q - suc m)) below
        = omega (arith, ltb-true m (suc n) f, ltb-true m (suc q) g) in
        limit_neg below high (suc n - suc m) ∙ ap (λ (r : ℕ). neg_ℤ (pos r)) i ∙ sym (limit_neg below high (suc q - suc m))
    go true false f g = absurd (omega (arith, ltb-true m (suc n) f, ltb-false m (suc q) g))
    go false true f g = absurd (omega (arith, ltb-false m (suc n) f, ltb-true m (suc q) g))
    go false false f g =
        let i : n ≡ q = omega (arith, ltb-false m (suc n) f) in
        ap (λ (r : ℕ). limit (neg_ℤ (pos below)) (pos high) (pos (m - suc r))) i

-- limits that are within 2^32 do not tell a summand from the same, capped at 2^40
limit-capped : (below high : ℕ) (p c : ℤ) → below ≤ 2 ^ 32 → high < 2 ^ 32 → nat_abs c < 2 ^ 32
    → limit (neg_ℤ (pos below)) (pos high) (p +ℤ c) ≡ limit (neg_ℤ (pos below)) (pos high) (capped (2 ^ 40) p +ℤ c)
limit-capped below high (pos n) c b h k =
    over below high n (min n (2 ^ 40)) c h k refl
    ∙ ap (λ (z : ℤ). limit (neg_ℤ (pos below)) (pos high) (z +ℤ c)) (sym (limit_pos (2 ^ 40) (2 ^ 40) n))
limit-capped below high (negsuc n) c b h k =
    let q = min n (2 ^ 40 - 1) in
    let e : suc q ≡ min (suc n) (2 ^ 40) = omega arith in
    under below high n q c b k e
    ∙ ap (λ (z : ℤ). limit (neg_ℤ (pos below)) (pos high) (z +ℤ c))
    (ap (λ (m : ℕ). neg_ℤ (pos m)) e ∙ sym (limit_neg (2 ^ 40) (2 ^ 40) n))

-- so for a destination of 32 bits at most
pub saturate_capped : (size : ℕ) (signed : Bool) (p c : ℤ) → size ≤ 32 → nat_abs c < 2 ^ 32
    → saturate_integer (capped (2 ^ 40) p +ℤ c) size signed ≡ saturate_integer (p +ℤ c) size signed
unfolding saturate_integer
saturate_capped size true p c h k =
    let l : size - 1 ≤ 32 = omega arith in
    let m : 2 ^ (size - 1) ≤ 2 ^ 32 = pow_mono l in
    sym (limit-capped (2 ^ (size - 1)) (2 ^ (size - 1) - 1) p c m (omega (arith, pow_pos (size - 1))) k)
saturate_capped size false p c h k =
    let m : 2 ^ size ≤ 2 ^ 32 = pow_mono h in
    sym (limit-capped 0 (2 ^ size - 1) p c (omega arith) (omega (arith, pow_pos size)) k)

pub nat_abs_capped : (most : ℕ) (z : ℤ) → nat_abs (capped most z) ≤ most
nat_abs_capped most (pos n) = rw (limit_pos most most n) (omega arith)
nat_abs_capped most (negsuc n) = rw (limit_neg most most n, nat_abs_neg (pos (min (suc n) most))) (omega arith)

pub capped_near : (most : ℕ) (z : ℤ) → nat_abs z ≤ most → capped most z ≡ z
capped_near most (pos n) h = limit_pos most most n ∙ ap pos (omega arith)
capped_near most (negsuc n) h =
    let e : min (suc n) most ≡ suc n = omega arith in
    limit_neg most most n ∙ ap (λ (m : ℕ). neg_ℤ (pos m)) e

-- ---- of a word whose top bit is a sign

pub signed_low : (x : ℕ) → x < 2 ^ 63 → signed_of x ≡ pos x
unfolding signed_of
signed_low x h = rw (lt-ltb x (2 ^ 63) h)

pub signed_high : (x : ℕ) → 2 ^ 63 ≤ x → signed_of x ≡ negsuc (2 ^ 64 - 1 - x)
unfolding signed_of
signed_high x h = rw (le-ltb x (2 ^ 63) h)

pub limit_low : (below high x : ℕ) → x < 2 ^ 63 → modulo (limit (neg_ℤ (pos below)) (pos high) (signed_of x)) 64 ≡ min x high
limit_low below high x h =
    ap (λ (z : ℤ). modulo (limit (neg_ℤ (pos below)) (pos high) z) 64) (signed_low x h)
    ∙ ap (λ (z : ℤ). modulo z 64) (limit_pos below high x) ∙ modulo_pos (min x high) (omega arith)

pub limit_high : (below high x : ℕ) → below < 2 ^ 64 → 2 ^ 63 ≤ x
    → modulo (limit (neg_ℤ (pos below)) (pos high) (signed_of x)) 64 ≡ (2 ^ 64 - min (suc (2 ^ 64 - 1 - x)) below) % 2 ^ 64
limit_high below high x b h =
    let n = 2 ^ 64 - 1 - x in
    ap (λ (z : ℤ). modulo (limit (neg_ℤ (pos below)) (pos high) z) 64) (signed_high x h)
    ∙ ap (λ (z : ℤ). modulo z 64) (limit_neg below high n) ∙ modulo_neg (pos (min (suc n) below))
    ∙ ap (λ (m : ℕ). (2 ^ 64 - m) % 2 ^ 64) (modulo_pos (min (suc n) below) (omega arith))
