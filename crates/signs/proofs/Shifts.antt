-- Laws of shifts: of an integer up and down again, and modulo 2^64.
use Rattle.std.proofs.Common.{◌≡◌, ℕ, suc, ◌+◌, ◌-◌, ◌*◌, ◌/◌, ◌%◌, ◌^◌, ◌<◌, ◌≤◌, ℤ, pos, negsuc, neg_ℤ, sym, ap, ◌∙◌, lt_of_lt_of_le, mul_assoc, div-le_self, arith, pow_pos, pow_mono, pow-add, shr-shr, le-ltb, lt-ltb}
use native.Mathlib.Nat.{mul-add-mod_self_right, div-eq_of_lt}
use lib.Pow.{ones_split, ones_lt, suc_ones, shl-shr, high}
use Rattle.machine.specs.Integer.{modulo, ◌<<◌, ◌>>◌}
use Rattle.signs.specs.Signed.{signed_of}

-- -(n + 1) shifted up, below which all bits are set
neg_up : (n k : ℕ) → negsuc n << k ≡ negsuc (n * 2 ^ k + (2 ^ k - 1))
neg_up n k =
    let e : suc n * 2 ^ k ≡ suc (n * 2 ^ k + (2 ^ k - 1)) = omega (arith, suc_ones k) in
    ap (λ (x : ℕ). neg_ℤ (pos x)) e

-- down by no more than up
pub up_down : (z : ℤ) (j s : ℕ) → (z << (j + s)) >> s ≡ z << j
up_down (pos a) j s =
    ap (λ (x : ℕ). pos (x / 2 ^ s)) (ap (λ (p : ℕ). a * p) (pow-add 2 j s) ∙ sym (mul_assoc a (2 ^ j) (2 ^ s)))
    ∙ ap pos (shl-shr (a * 2 ^ j) s)
up_down (negsuc n) j s =
    let e : n * 2 ^ (j + s) + (2 ^ (j + s) - 1) ≡ (n * 2 ^ j + (2 ^ j - 1)) * 2 ^ s + (2 ^ s - 1) =
    rw (ones_split j s, pow-add 2 j s) (omega arith) in
    ap (λ (z : ℤ). z >> s) (neg_up n (j + s))
    ∙ ap (λ (x : ℕ). negsuc (x / 2 ^ s)) e
    ∙ ap negsuc (high (n * 2 ^ j + (2 ^ j - 1)) s (ones_lt s))
    ∙ sym (neg_up n j)

-- down by no less than up
pub down_up : (z : ℤ) (k j : ℕ) → (z << k) >> (k + j) ≡ z >> j
down_up (pos a) k j = ap pos (sym (shr-shr (a * 2 ^ k) k j) ∙ ap (λ (x : ℕ). x / 2 ^ j) (shl-shr a k))
down_up (negsuc n) k j =
    ap (λ (z : ℤ). z >> (k + j)) (neg_up n k)
    ∙ ap negsuc (sym (shr-shr (n * 2 ^ k + (2 ^ k - 1)) k j) ∙ ap (λ (x : ℕ). x / 2 ^ j) (high n k (ones_lt k)))

-- d is the complement of m
complement : (d m p : ℕ) → d + m + 1 ≡ 2 ^ 64 → 0 < p → d * p % 2 ^ 64 ≡ 2 ^ 64 - 1 - (m * p + (p - 1)) % 2 ^ 64
complement d m p e h =
    let f : (d + m + 1) * p ≡ 2 ^ 64 * p = ap (λ (x : ℕ). x * p) e in
    go (d * p) (m * p + (p - 1)) p (omega arith)
  where
    go : (x y q : ℕ) → x + y + 1 ≡ 2 ^ 64 * q → x % 2 ^ 64 ≡ 2 ^ 64 - 1 - y % 2 ^ 64
    go x y q g = omega arith

-- of a product, multiples of 2^64 in a factor drop out
factor : (n p e : ℕ) → (n * p + e) % 2 ^ 64 ≡ (n % 2 ^ 64 * p + e) % 2 ^ 64
factor n p e =
    let d : n / 2 ^ 64 * 2 ^ 64 + n % 2 ^ 64 ≡ n = omega arith in
    let f : (n / 2 ^ 64 * 2 ^ 64 + n % 2 ^ 64) * p ≡ n * p = ap (λ (x : ℕ). x * p) d in
    let g : n * p + e ≡ n / 2 ^ 64 * p * 2 ^ 64 + (n % 2 ^ 64 * p + e) = omega arith in
    rw g (mul-add-mod_self_right (n / 2 ^ 64 * p) (2 ^ 64) (n % 2 ^ 64 * p + e))

-- a shift up
pub modulo_up : (z : ℤ) (k : ℕ) → modulo (z << k) 64 ≡ modulo z 64 * 2 ^ k % 2 ^ 64
unfolding modulo
modulo_up (pos a) k = let f = factor a (2 ^ k) 0 in omega arith
modulo_up (negsuc n) k =
    ap (λ (z : ℤ). modulo z 64) (neg_up n k)
    ∙ ap (λ (x : ℕ). 2 ^ 64 - 1 - x) (factor n (2 ^ k) (2 ^ k - 1))
    ∙ sym (complement (2 ^ 64 - 1 - n % 2 ^ 64) (n % 2 ^ 64) (2 ^ k) (omega arith) (pow_pos k))

-- a shift by 64 or more
pub shift_out : (x k : ℕ) → x < 2 ^ 64 → 64 ≤ k → 0 ≡ x / 2 ^ k
shift_out x k h l = sym (div-eq_of_lt (lt_of_lt_of_le h (pow_mono l)))

-- a shift down of the signed reading, by its sign
pub down_clear : (x k : ℕ) → x < 2 ^ 63 → x / 2 ^ k ≡ modulo (signed_of x >> k) 64
unfolding modulo signed_of
down_clear x k h =
    let l : x / 2 ^ k ≤ x = div-le_self x (2 ^ k) in
    rw (lt-ltb x (2 ^ 63) h) (omega arith)

pub down_set : (x k : ℕ) → 2 ^ 63 ≤ x → 2 ^ 64 - 1 - (2 ^ 64 - 1 - x) / 2 ^ k ≡ modulo (signed_of x >> k) 64
unfolding modulo signed_of
down_set x k h =
    let l : (2 ^ 64 - 1 - x) / 2 ^ k ≤ 2 ^ 64 - 1 - x = div-le_self (2 ^ 64 - 1 - x) (2 ^ k) in
    rw (le-ltb x (2 ^ 63) h) (omega arith)

-- asrh: the two shifts are one
pub up_left : (z : ℤ) (s : ℕ) → s ≤ 32 → modulo z 64 * 2 ^ (32 - s) % 2 ^ 64 ≡ modulo ((z << 32) >> s) 64
up_left z s h =
    let e : 32 ≡ 32 - s + s = omega arith in
    sym (ap (λ (k : ℕ). modulo ((z << k) >> s) 64) e ∙ ap (λ (y : ℤ). modulo y 64) (up_down z (32 - s) s) ∙ modulo_up z (32 - s))

pub down_left : (z : ℤ) (s : ℕ) → 32 ≤ s → z >> (s - 32) ≡ (z << 32) >> s
down_left z s h =
    let e : s ≡ 32 + (s - 32) = omega arith in
    sym (ap (λ (k : ℕ). (z << 32) >> k) e ∙ down_up z 32 (s - 32))
