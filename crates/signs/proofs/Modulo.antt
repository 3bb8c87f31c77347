-- Laws of integers modulo 2^64, and of sign extension.
use Rattle.std.proofs.Common.{◌≡◌, ℕ, zero, suc, ◌+◌, ◌-◌, ◌*◌, ◌/◌, ◌%◌, ◌^◌, ◌<◌, ◌≤◌, Bool, true, false, cond, eqb, ltb, ℤ, pos, negsuc, ◌+ℤ◌, neg_ℤ, sym, refl, ap, ◌∙◌, mod-lt, div-lt_iff_lt-mul, div-add-mod', arith, pow_pos, pow_mono, pow-add, shl_exact, ltb-false, ltb-true, le-ltb, lt-ltb, eqb-true}
use lib.Bits.{bit_and, bit_xor, xor_add_and, and_high}
use lib.Pow.{suc_ones}
use lib.IntN.{sub_ℕ}
use lib.Signed.{mag}
use borrow.Author.Tests.{eqb-false}
use Rattle.machine.specs.Integer.{modulo, sign_extend}
use Rattle.operations.specs.Operation.{Sized}
use Rattle.signs.specs.Signed.{signed_of}

-- the difference of two naturals
sub-modulo : (x n : ℕ) → n < 2 ^ 64 → modulo (sub_ℕ x (suc n)) 64 ≡ (x + (2 ^ 64 - suc n)) % 2 ^ 64
unfolding modulo
sub-modulo x n h = go (ltb x (suc n)) refl
  where
    go : (b : Bool) → ltb x (suc n) ≡ b
        → modulo (cond b (negsuc (suc n - suc x)) (pos (x - suc n))) 64 ≡ (x + (2 ^ 64 - suc n)) % 2 ^ 64
    go true e = omega (arith, ltb-true x (suc n) e)
    go false e = omega (arith, ltb-false x (suc n) e)

-- a natural less a power
less_power : (x k : ℕ) → k ≤ 64 → modulo (pos x +ℤ neg_ℤ (pos (2 ^ k))) 64 ≡ (x + (2 ^ 64 - 2 ^ k)) % 2 ^ 64
less_power x k h =
    let m : 2 ^ k ≤ 2 ^ 64 = pow_mono h in
    let e : 2 ^ k ≡ suc (2 ^ k - 1) = sym (suc_ones k) in
    ap (λ (p : ℕ). modulo (pos x +ℤ neg_ℤ (pos p)) 64) e
    ∙ sub-modulo x (2 ^ k - 1) (omega (arith, pow_pos k))
    ∙ ap (λ (p : ℕ). (x + (2 ^ 64 - p)) % 2 ^ 64) (suc_ones k)

-- a bit turned over
xor_bit : (x k : ℕ) → bit_xor x (2 ^ k) + (x / 2 ^ k % 2) * 2 ^ k * 2 ≡ x + 2 ^ k
xor_bit x k =
    let e : 2 ^ (1 + k) - 2 ^ k ≡ 2 ^ k = rw (pow-add 2 1 k) (omega arith) in
    let a : bit_and x (2 ^ k) ≡ (x / 2 ^ k % 2) * 2 ^ k = rw e at (and_high x 1 k) in
    rw (← a) (xor_add_and x (2 ^ k))

-- twice the power of the sign bit
pow_pred : (s : ℕ) → 0 < s → 2 ^ s ≡ 2 * 2 ^ (s - 1)
pow_pred zero h = absurd (omega arith)
pow_pred (suc k) h =
    let e : suc k - 1 ≡ k = omega arith in
    rw e (omega arith)

-- the power of the sign bit, shifted into place
pub sign_power : (s : ℕ) → Sized s → 1 * 2 ^ (s - 1) % 2 ^ 64 ≡ 2 ^ (s - 1)
sign_power s h = shl_exact 1 (s - 1) 64 (omega arith) (omega arith) ∙ omega arith

-- the sign bit turned over, less its power, is the sign-extended value
pub xor_extends : (x s : ℕ) → Sized s
    → (bit_xor x (2 ^ (s - 1)) + (2 ^ 64 - 2 ^ (s - 1))) % 2 ^ 64 ≡ modulo (sign_extend x s) 64
unfolding modulo sign_extend
xor_extends x s h = go (eqb (x / 2 ^ (s - 1) % 2) 0) refl
  where
    m : 2 ^ s ≤ 2 ^ 64
    m = pow_mono h.1

    p : 2 ^ s ≡ 2 * 2 ^ (s - 1)
    p = pow_pred s h.0

    go : (b : Bool) → eqb (x / 2 ^ (s - 1) % 2) 0 ≡ b
        → (bit_xor x (2 ^ (s - 1)) + (2 ^ 64 - 2 ^ (s - 1))) % 2 ^ 64 ≡ modulo (cond b (pos x) (pos x +ℤ neg_ℤ (pos (2 ^ s)))) 64
    go true t =
        let z : x / 2 ^ (s - 1) % 2 ≡ 0 = eqb-true (x / 2 ^ (s - 1) % 2) 0 t in
        let f : bit_xor x (2 ^ (s - 1)) + 0 * 2 ^ (s - 1) * 2 ≡ x + 2 ^ (s - 1) = rw z at (xor_bit x (s - 1)) in
        omega (arith, m, p)
    go false t =
        let z : x / 2 ^ (s - 1) % 2 ≡ 1 = omega (arith, eqb-false (x / 2 ^ (s - 1) % 2) 0 t) in
        let f : bit_xor x (2 ^ (s - 1)) + 1 * 2 ^ (s - 1) * 2 ≡ x + 2 ^ (s - 1) = rw z at (xor_bit x (s - 1)) in
        let g : bit_xor x (2 ^ (s - 1)) + (2 ^ 64 - 2 ^ (s - 1)) ≡ x + (2 ^ 64 - 2 ^ s) = omega (arith, f, m, p) in
        rw (less_power x s h.1, ← g) refl

-- ---- the signed reading

pub modulo_signed : (x : ℕ) → x < 2 ^ 64 → modulo (signed_of x) 64 ≡ x
unfolding modulo signed_of
modulo_signed x h = go (ltb x (2 ^ 63)) refl
  where
    go : (b : Bool) → ltb x (2 ^ 63) ≡ b → modulo (cond b (pos x) (negsuc (2 ^ 64 - 1 - x))) 64 ≡ x
    go true e = omega arith
    go false e = omega arith

-- of a number from -2^63 to 2^63 - 1
pub signed_modulo : (z : ℤ) → mag z < 2 ^ 63 → signed_of (modulo z 64) ≡ z
unfolding modulo signed_of
signed_modulo (pos n) h =
    let e : n % 2 ^ 64 ≡ n = omega arith in
    rw (e, lt-ltb n (2 ^ 63) h)
signed_modulo (negsuc n) h =
    let e : 2 ^ 64 - 1 - n % 2 ^ 64 ≡ 2 ^ 64 - 1 - n = omega arith in
    let t : ltb (2 ^ 64 - 1 - n) (2 ^ 63) ≡ false = le-ltb (2 ^ 64 - 1 - n) (2 ^ 63) (omega arith) in
    let f : 2 ^ 64 - 1 - (2 ^ 64 - 1 - n) ≡ n = omega arith in
    rw (e, t, f)

-- within the size, where h is the power of the sign bit
sign_range : (a h : ℕ) (b : Bool) → 0 < h → h ≤ 2 ^ 63 → a < 2 * h → eqb (a / h % 2) 0 ≡ b
    → mag (cond b (pos a) (pos a +ℤ neg_ℤ (pos (2 * h)))) < 2 ^ 63
sign_range a h true p q l t =
    let d : a / h < 2 = (div-lt_iff_lt-mul p).1 l in
    let z : a / h ≡ 0 = omega (arith, eqb-true (a / h % 2) 0 t) in
    let e : 0 * h + a % h ≡ a = rw z at (div-add-mod' a h) in
    omega (arith, mod-lt a p)
sign_range a h false p q l t =
    let d : a / h < 2 = (div-lt_iff_lt-mul p).1 l in
    let z : a / h ≡ 1 = omega (arith, eqb-false (a / h % 2) 0 t) in
    let e : 1 * h + a % h ≡ a = rw z at (div-add-mod' a h) in
    let n : 2 * h ≡ suc (2 * h - 1) = omega arith in
    let g : ltb a (suc (2 * h - 1)) ≡ true = lt-ltb a (suc (2 * h - 1)) (omega arith) in
    rw (n, g) (omega arith)

pub extended_range : (a s : ℕ) → Sized s → a < 2 ^ s → mag (sign_extend a s) < 2 ^ 63
unfolding sign_extend
extended_range a s h k =
    let e = pow_pred s h.0 in
    let l : a < 2 * 2 ^ (s - 1) = rw e at k in
    let m : 2 ^ (s - 1) ≤ 2 ^ 63 = pow_mono {i = s - 1} {j = 63} (omega arith) in
    rw e (sign_range a (2 ^ (s - 1)) (eqb (a / 2 ^ (s - 1) % 2) 0) (pow_pos (s - 1)) m l refl)

-- the word of a sign-extended value reads as that value
pub extended_reads : (a s x : ℕ) → Sized s → a < 2 ^ s → x ≡ modulo (sign_extend a s) 64 → signed_of x ≡ sign_extend a s
extended_reads a s x h k e = ap signed_of e ∙ signed_modulo (sign_extend a s) (extended_range a s h k)
