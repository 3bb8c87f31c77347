-- Shifts by any amount, and the mask of a bit field.
use mathlib.Core.Path.{◌≡◌, sym, ap, ◌∙◌}
use Prim.Native.Nat.{ℕ, ◌+◌, ◌*◌, ◌-◌, ◌/◌, ◌%◌, ◌^◌, ◌≤◌, ◌<◌}
use native.Mathlib.Nat.{mod-eq_of_lt, mul-add-mod_self_right, mul-mod_left, mul_assoc, div-eq_of_lt, lt_of_lt_of_le, lt_of_le_of_lt}
use native.Mathlib.Omega.{arith}
use lib.Pow.{pow_pos, pow-add, pow_mono, pow-lt, shl-shr, shr-shr, shr_le, split, low, ones_lt, ones_split}

-- the bits above two to the k do not come down
pub shl_mod : (x s k : ℕ) → x * 2 ^ s % 2 ^ k ≡ x % 2 ^ k * 2 ^ s % 2 ^ k
shl_mod x s k =
    let q : ℕ = x / 2 ^ k in
    let e : x * 2 ^ s ≡ q * 2 ^ s * 2 ^ k + x % 2 ^ k * 2 ^ s = ap (λ (n : ℕ). n * 2 ^ s) (sym (split x k)) ∙ omega arith in
    ap (λ (n : ℕ). n % 2 ^ k) e ∙ mul-add-mod_self_right (q * 2 ^ s) (2 ^ k) (x % 2 ^ k * 2 ^ s)

pub shl_past : (x s k : ℕ) → k ≤ s → 0 ≡ x * 2 ^ s % 2 ^ k
shl_past x s k h =
    let e : s ≡ (s - k) + k = omega arith in
    sym (ap (λ (n : ℕ). x * 2 ^ n % 2 ^ k) e
    ∙ ap (λ (n : ℕ). x * n % 2 ^ k) (pow-add 2 (s - k) k)
    ∙ ap (λ (n : ℕ). n % 2 ^ k) (sym (mul_assoc x (2 ^ (s - k)) (2 ^ k)))
    ∙ mul-mod_left (x * 2 ^ (s - k)) (2 ^ k))

pub shr_past : (x s k : ℕ) → x < 2 ^ k → k ≤ s → 0 ≡ x / 2 ^ s
shr_past x s k l h = sym (div-eq_of_lt (lt_of_lt_of_le l (pow_mono h)))

-- up by j, then down by k
pub across_up : (x j k : ℕ) → k ≤ j → x * 2 ^ j / 2 ^ k ≡ x * 2 ^ (j - k)
across_up x j k h =
    let e : j ≡ (j - k) + k = omega arith in
    ap (λ (n : ℕ). x * 2 ^ n / 2 ^ k) e
    ∙ ap (λ (n : ℕ). x * n / 2 ^ k) (pow-add 2 (j - k) k)
    ∙ ap (λ (n : ℕ). n / 2 ^ k) (sym (mul_assoc x (2 ^ (j - k)) (2 ^ k)))
    ∙ shl-shr (x * 2 ^ (j - k)) k

pub across_down : (x j k : ℕ) → j ≤ k → x * 2 ^ j / 2 ^ k ≡ x / 2 ^ (k - j)
across_down x j k h =
    let e : k ≡ j + (k - j) = omega arith in
    ap (λ (n : ℕ). x * 2 ^ j / 2 ^ n) e ∙ sym (shr-shr (x * 2 ^ j) j (k - j)) ∙ ap (λ (n : ℕ). n / 2 ^ (k - j)) (shl-shr x j)

pub shr_within : (x s k : ℕ) → x < 2 ^ k → x / 2 ^ s % 2 ^ k ≡ x / 2 ^ s
shr_within x s k h = mod-eq_of_lt (lt_of_le_of_lt (shr_le x s) h)

-- m ones
pub ones_past : (m k : ℕ) → k ≤ m → 2 ^ k - 1 ≡ (2 ^ m - 1) % 2 ^ k
ones_past m k h =
    let e : m ≡ (m - k) + k = omega arith in
    sym (ap (λ (n : ℕ). (2 ^ n - 1) % 2 ^ k) e
    ∙ ap (λ (n : ℕ). n % 2 ^ k) (ones_split (m - k) k)
    ∙ low (2 ^ (m - k) - 1) k (ones_lt k))

pub ones-within : (m k : ℕ) → m < k → 1 * 2 ^ m % 2 ^ k - 1 ≡ (2 ^ m - 1) % 2 ^ k
ones-within m k h =
    let l : 2 ^ m < 2 ^ k = pow-lt h in
    let p : 1 * 2 ^ m ≡ 2 ^ m = omega arith in
    ap (λ (n : ℕ). n % 2 ^ k - 1) p ∙ ap (λ (n : ℕ). n - 1) (mod-eq_of_lt l) ∙ sym (mod-eq_of_lt (omega arith))

pub ones_positive : (m k : ℕ) → m < k → 1 ≤ 1 * 2 ^ m % 2 ^ k
ones_positive m k h =
    let l : 2 ^ m < 2 ^ k = pow-lt h in
    let p : 1 * 2 ^ m ≡ 2 ^ m = omega arith in
    rw (p, mod-eq_of_lt l) (pow_pos m)
