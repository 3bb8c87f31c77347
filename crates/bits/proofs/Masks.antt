-- Masks of a word: what several cut out of it, one after the other and together.
use mathlib.Core.Path.{◌≡◌, refl, sym, ap, ap₂, ◌∙◌}
use Prim.Native.Nat.{ℕ, ◌+◌, ◌*◌, ◌-◌, ◌/◌, ◌%◌, ◌^◌, ◌≤◌, ◌<◌, min, max}
use native.Mathlib.Nat.{mod-lt, mod-eq_of_lt, lt_of_le_of_lt}
use native.Mathlib.Omega.{arith}
use lib.Arith.{bin_ind}
use lib.Bits.{bit_and, bit_or, and_step, or_step, and_comm, and_high, and_mask, and_shr, and_mod, and_le_r}
use lib.Pow.{pow_pos, shl_exact}
use Rattle.bits.specs.Word.{field_of}

-- a number's half and its last digit
half : (x q d : ℕ) → d < 2 → x ≡ q * 2 + d → x / 2 ≡ q
half x q d h e = omega arith

last : (x q d : ℕ) → d < 2 → x ≡ q * 2 + d → x % 2 ≡ d
last x q d h e = omega arith

digit_and : (x a b : ℕ) → min (min x a) b ≡ min (min x b) a
digit_and x a b = omega arith

and_swap_step : (n a b : ℕ) → bit_and (bit_and (n / 2) (a / 2)) (b / 2) ≡ bit_and (bit_and (n / 2) (b / 2)) (a / 2)
    → bit_and (bit_and n a) b ≡ bit_and (bit_and n b) a
and_swap_step n a b ih =
    let a1 = half (bit_and n a) (bit_and (n / 2) (a / 2)) (min (n % 2) (a % 2)) (omega arith) (and_step n a) in
    let a2 = last (bit_and n a) (bit_and (n / 2) (a / 2)) (min (n % 2) (a % 2)) (omega arith) (and_step n a) in
    let b1 = half (bit_and n b) (bit_and (n / 2) (b / 2)) (min (n % 2) (b % 2)) (omega arith) (and_step n b) in
    let b2 = last (bit_and n b) (bit_and (n / 2) (b / 2)) (min (n % 2) (b % 2)) (omega arith) (and_step n b) in
    and_step (bit_and n a) b
    ∙ ap₂ (λ (x y : ℕ). bit_and x (b / 2) * 2 + min y (b % 2)) a1 a2
    ∙ ap₂ (λ (x y : ℕ). x * 2 + y) ih (digit_and (n % 2) (a % 2) (b % 2))
    ∙ sym (and_step (bit_and n b) a ∙ ap₂ (λ (x y : ℕ). bit_and x (a / 2) * 2 + min y (a % 2)) b1 b2)

-- the order of two masks does not matter
pub and_swap : (w a b : ℕ) → bit_and (bit_and w a) b ≡ bit_and (bit_and w b) a
and_swap w =
    bin_ind (λ (n : ℕ). (a b : ℕ) → bit_and (bit_and n a) b ≡ bit_and (bit_and n b) a)
    (λ a b. refl)
    (λ n ih a b. and_swap_step n a b (ih (a / 2) (b / 2)))
    w

-- a mask of k bits does not see past them
pub and_within : (w m k : ℕ) → m < 2 ^ k → bit_and (w % 2 ^ k) m ≡ bit_and w m
and_within w m k h =
    ap (λ (x : ℕ). bit_and (w % 2 ^ k) x) (sym (mod-eq_of_lt h)) ∙ sym (and_mod w m k) ∙ mod-eq_of_lt (lt_of_le_of_lt (and_le_r w m) h)

-- one mask after the other is the mask of both
pub and_assoc : (w a b : ℕ) → bit_and w (bit_and a b) ≡ bit_and (bit_and w a) b
and_assoc w a b = and_comm w (bit_and a b) ∙ and_swap a b w ∙ ap (λ (x : ℕ). bit_and x b) (and_comm a w)

digit_or : (x a b : ℕ) → min x (max a b) ≡ max (min x a) (min x b)
digit_or x a b = omega arith

and_or_step : (n a b : ℕ) → bit_and (n / 2) (bit_or (a / 2) (b / 2)) ≡ bit_or (bit_and (n / 2) (a / 2)) (bit_and (n / 2) (b / 2))
    → bit_and n (bit_or a b) ≡ bit_or (bit_and n a) (bit_and n b)
and_or_step n a b ih =
    let o1 = half (bit_or a b) (bit_or (a / 2) (b / 2)) (max (a % 2) (b % 2)) (omega arith) (or_step a b) in
    let o2 = last (bit_or a b) (bit_or (a / 2) (b / 2)) (max (a % 2) (b % 2)) (omega arith) (or_step a b) in
    let a1 = half (bit_and n a) (bit_and (n / 2) (a / 2)) (min (n % 2) (a % 2)) (omega arith) (and_step n a) in
    let a2 = last (bit_and n a) (bit_and (n / 2) (a / 2)) (min (n % 2) (a % 2)) (omega arith) (and_step n a) in
    let b1 = half (bit_and n b) (bit_and (n / 2) (b / 2)) (min (n % 2) (b % 2)) (omega arith) (and_step n b) in
    let b2 = last (bit_and n b) (bit_and (n / 2) (b / 2)) (min (n % 2) (b % 2)) (omega arith) (and_step n b) in
    and_step n (bit_or a b)
    ∙ ap₂ (λ (x y : ℕ). bit_and (n / 2) x * 2 + min (n % 2) y) o1 o2
    ∙ ap₂ (λ (x y : ℕ). x * 2 + y) ih (digit_or (n % 2) (a % 2) (b % 2))
    ∙ sym (or_step (bit_and n a) (bit_and n b)
    ∙ ap₂ (λ (x y : ℕ). bit_or x y * 2 + max (bit_and n a % 2) (bit_and n b % 2)) a1 b1
    ∙ ap₂ (λ (x y : ℕ). bit_or (bit_and (n / 2) (a / 2)) (bit_and (n / 2) (b / 2)) * 2 + max x y) a2 b2)

-- a mask of two masks cuts out what the two cut out
pub and_or : (w a b : ℕ) → bit_and w (bit_or a b) ≡ bit_or (bit_and w a) (bit_and w b)
and_or w =
    bin_ind (λ (n : ℕ). (a b : ℕ) → bit_and n (bit_or a b) ≡ bit_or (bit_and n a) (bit_and n b))
    (λ a b. refl)
    (λ n ih a b. and_or_step n a b (ih (a / 2) (b / 2)))
    w

-- what a mask cuts out of two numbers together
pub or_and : (a b m : ℕ) → bit_and (bit_or a b) m ≡ bit_or (bit_and a m) (bit_and b m)
or_and a b m = and_comm (bit_or a b) m ∙ and_or m a b ∙ ap₂ bit_or (and_comm m a) (and_comm m b)

-- a field, put back, is what its mask cuts out
pub put_field : (w p n : ℕ) → n + p ≤ 64 → field_of w p n * 2 ^ p % 2 ^ 64 ≡ bit_and w (2 ^ (n + p) - 2 ^ p)
put_field w p n h = shl_exact n p 64 (mod-lt (w / 2 ^ p) (pow_pos n)) h ∙ sym (and_high w n p)

-- a field that a mask covers is the same in what the mask cuts out
pub fixed_field : (w m p n : ℕ) → field_of m p n ≡ 2 ^ n - 1 → field_of (bit_and w m) p n ≡ field_of w p n
fixed_field w m p n h =
    ap (λ (x : ℕ). x % 2 ^ n) (and_shr w m p)
    ∙ and_mod (w / 2 ^ p) (m / 2 ^ p) n
    ∙ ap (λ (x : ℕ). bit_and (w / 2 ^ p % 2 ^ n) x) h
    ∙ and_mask (w / 2 ^ p % 2 ^ n) n
    ∙ mod-eq_of_lt (mod-lt (w / 2 ^ p) (pow_pos n))

-- a mask of all k bits cuts out nothing of a number that has no more
pub and_all : (w k : ℕ) → w < 2 ^ k → bit_and w (2 ^ k - 1) ≡ w
and_all w k h = and_mask w k ∙ mod-eq_of_lt h
