-- A mask is its bits.
use mathlib.Core.Path.{◌≡◌, refl, sym, ap, ◌∙◌}
use mathlib.Core.Bool.{Bool, true, false, cond}
use Prim.Native.Nat.{ℕ, zero, suc, ◌+◌, ◌*◌, ◌-◌, ◌/◌, ◌%◌, ◌^◌, ◌<◌}
use native.Mathlib.Omega.{arith}
use native.Mathlib.Nat.{add-mul-div_right, div-eq_of_lt, div-div-eq-div-mul}
use native.Mathlib.Decide.{dec_lt}
use borrow.Author.Tests.{eq-eqb}
use lib.Dec.{eqb}
use lib.Pow.{pow_pos, pow-add, high, ones_split, ones_lt}
use Rattle.machine.specs.Lanes.{active_in, pack}

pub pack_lt : (n : ℕ) (f : ℕ → Bool) → pack n f < 2 ^ n
unfolding pack
pack_lt zero f = omega arith
pack_lt (suc n) f = go (f n) (pack_lt n f)
  where
    go : (b : Bool) → pack n f < 2 ^ n → pack n f + cond b (2 ^ n) 0 < 2 ^ suc n
    go true h = omega arith
    go false h = omega arith

-- a bit below n does not see 2 ^ n
low_bit : (p n t : ℕ) → t < n → (p + 2 ^ n) / 2 ^ t % 2 ≡ p / 2 ^ t % 2
low_bit p n t h =
    let k : ℕ = n - suc t in
    let e : n ≡ suc k + t = omega arith in
    let f : 2 ^ n ≡ 2 ^ suc k * 2 ^ t = ap (λ (x : ℕ). 2 ^ x) e ∙ pow-add 2 (suc k) t in
    let g : (p + 2 ^ n) / 2 ^ t ≡ p / 2 ^ t + 2 ^ suc k = ap (λ (x : ℕ). (p + x) / 2 ^ t) f ∙ add-mul-div_right p (2 ^ suc k) (pow_pos t) in
    ap (λ (x : ℕ). x % 2) g ∙ omega arith

bit_at : (n : ℕ) (p : ℕ) (b : Bool) → p < 2 ^ n → eqb ((p + cond b (2 ^ n) 0) / 2 ^ n % 2) 1 ≡ b
bit_at n p true h =
    let o : p + 2 ^ n ≡ p + 1 * 2 ^ n = omega arith in
    rw (o, add-mul-div_right p 1 (pow_pos n), div-eq_of_lt h)
bit_at n p false h =
    let o : p + 0 ≡ p = omega arith in
    rw (o, div-eq_of_lt h)

-- bit t of a packed mask
pub pack_bit : (n : ℕ) (f : ℕ → Bool) (t : ℕ) → t < n → active_in (pack n f) t ≡ f t
unfolding pack active_in
pack_bit zero f t h = absurd (omega arith)
pack_bit (suc n) f t h = go (dec_lt t n) (pack_bit n f t)
  where
    same : (b : Bool) → t < n → eqb ((pack n f + cond b (2 ^ n) 0) / 2 ^ t % 2) 1 ≡ eqb (pack n f / 2 ^ t % 2) 1
    same true l = rw (low_bit (pack n f) n t l)
    same false l = let o : pack n f + 0 ≡ pack n f = omega arith in rw o

    go : Dec (t < n) → (t < n → eqb (pack n f / 2 ^ t % 2) 1 ≡ f t) → eqb ((pack n f + cond (f n) (2 ^ n) 0) / 2 ^ t % 2) 1 ≡ f t
    go (yes l) ih = same (f n) l ∙ ih l
    go (no l) ih =
        let e : t ≡ n = omega arith in
        rw e (bit_at n (pack n f) (f n) (pack_lt n f))

pub pack_cong : (n : ℕ) (f g : ℕ → Bool) → ((t : ℕ) → t < n → f t ≡ g t) → pack n f ≡ pack n g
unfolding pack
pack_cong zero f g h = refl
pack_cong (suc n) f g h = λ i. pack_cong n f g (λ t k. h t (omega arith)) i + cond (h n (omega arith) i) (2 ^ n) 0

same_parity : (a b : ℕ) → a < 2 → b < 2 → eqb a 1 ≡ eqb b 1 → a ≡ b
same_parity zero zero h k e = refl
same_parity zero (suc zero) h k e = absurd (let z : ◌≡◌ {A = ℕ} 0 1 = cc in omega arith)
same_parity (suc zero) zero h k e = absurd (let z : ◌≡◌ {A = ℕ} 0 1 = cc in omega arith)
same_parity (suc zero) (suc zero) h k e = refl
same_parity (suc (suc a)) b h k e = absurd (omega arith)
same_parity zero (suc (suc b)) h k e = absurd (omega arith)
same_parity (suc zero) (suc (suc b)) h k e = absurd (omega arith)

-- a number below 2 ^ n is its n bits
pub bits_ext : (n a b : ℕ) → a < 2 ^ n → b < 2 ^ n → ((t : ℕ) → t < n → active_in a t ≡ active_in b t) → a ≡ b
unfolding active_in
bits_ext zero a b h k e = omega arith
bits_ext (suc n) a b h k e =
    let p : a % 2 ≡ b % 2 = same_parity (a % 2) (b % 2) (omega arith) (omega arith) (one a ∙ e 0 (omega arith) ∙ sym (one b)) in
    let q : a / 2 ≡ b / 2 = bits_ext n (a / 2) (b / 2) (omega arith) (omega arith) (λ t g. half a t ∙ e (suc t) (omega arith) ∙ sym (half b t)) in
    omega arith
  where
    one : (x : ℕ) → eqb (x % 2) 1 ≡ eqb (x / 2 ^ 0 % 2) 1
    one x = let o : x / 1 ≡ x = omega arith in rw o

    half : (x t : ℕ) → eqb (x / 2 / 2 ^ t % 2) 1 ≡ eqb (x / 2 ^ suc t % 2) 1
    half x t =
        let o : 2 ^ suc t ≡ 2 * 2 ^ t = omega arith in
        rw (o, div-div-eq-div-mul x 2 (2 ^ t))

-- every bit of the mask of 32 ones is set
pub all_active_lem : (t : ℕ) → t < 32 → active_in 4294967295 t ≡ true
unfolding active_in
all_active_lem t h =
    let m : ℕ = 31 - t in
    let e : 32 ≡ suc m + t = omega arith in
    let s : 4294967295 ≡ (2 ^ suc m - 1) * 2 ^ t + (2 ^ t - 1) = ap (λ (x : ℕ). 2 ^ x - 1) e ∙ ones_split (suc m) t in
    let d : 4294967295 / 2 ^ t ≡ 2 ^ suc m - 1 = ap (λ (x : ℕ). x / 2 ^ t) s ∙ high (2 ^ suc m - 1) t (ones_lt t) in
    eq-eqb (4294967295 / 2 ^ t % 2) 1 (ap (λ (x : ℕ). x % 2) d ∙ omega (arith, pow_pos m))
