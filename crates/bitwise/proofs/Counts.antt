-- Counting the set bits below n, and finding the highest.
use mathlib.Core.Path.{◌≡◌, refl, sym, ap, ap₂, ◌∙◌}
use mathlib.Core.Bool.{Bool, true, false, cond}
use Prim.Native.Nat.{ℕ, zero, suc, ◌+◌, ◌*◌, ◌-◌, ◌/◌, ◌%◌, ◌^◌, ◌≤◌, ◌<◌}
use native.Mathlib.Nat.{mod-lt, mod-one}
use native.Mathlib.Decide.{dec_lt}
use native.Mathlib.Omega.{arith}
use borrow.Author.Tests.{eqb-true, eqb-false}
use lib.Dec.{eqb}
use lib.Count.{ones, ones_cat, ones-le, count_leading_zeros, leading_top}
use lib.IntN.{pos, negsuc}
use lib.Pow.{pow_pos, pow_mono, mod-pow-add}
use Rattle.machine.specs.Integer.{modulo}
use Rattle.machine.specs.Meaning.{counted, highest, has_bit}

-- one bit more
more_bits : (n a : ℕ) → a % 2 ^ suc n ≡ a / 2 ^ n % 2 * 2 ^ n + a % 2 ^ n
more_bits n a = let e : suc n ≡ 1 + n = omega arith in ap (λ (k : ℕ). a % 2 ^ k) e ∙ mod-pow-add a 1 n

ones-digit : (d : ℕ) → d < 2 → ones d ≡ cond (eqb d 1) 1 0
unfolding ones
ones-digit zero h = refl
ones-digit (suc zero) h = refl
ones-digit (suc (suc d)) h = absurd (omega arith)

pub counted-ones : (n a : ℕ) → counted n a ≡ ones (a % 2 ^ n)
unfolding counted ones
counted-ones zero a = ap ones (sym (mod-one a))
counted-ones (suc n) a =
    let d : ℕ = a / 2 ^ n % 2 in
    sym (ap ones (more_bits n a)
    ∙ ones_cat n d (a % 2 ^ n) (mod-lt a (pow_pos n))
    ∙ ap₂ (λ (x y : ℕ). x + y) (ones-digit d (omega arith)) (sym (counted-ones n a))
    ∙ omega arith)

pub count_small : (a : ℕ) → ones (a % 2 ^ 32) ≤ 32
count_small a = ones-le 32 (a % 2 ^ 32) (mod-lt a (pow_pos 32))

pub count-is : (a : ℕ) → ones (a % 2 ^ 32) ≡ modulo (pos (counted 32 a)) 64
unfolding modulo
count-is a =
    let h = count_small a in
    let e : ones (a % 2 ^ 32) % 2 ^ 64 ≡ ones (a % 2 ^ 32) = omega arith in
    sym (ap (λ (n : ℕ). n % 2 ^ 64) (counted-ones 32 a) ∙ e)

pub highest-none : (n a : ℕ) → a % 2 ^ n ≡ 0 → highest n a ≡ negsuc 0
unfolding highest
highest-none zero a e = refl
highest-none (suc n) a e = go (has_bit a n) refl (highest-none n a)
  where
    go : (b : Bool) → has_bit a n ≡ b → (a % 2 ^ n ≡ 0 → highest n a ≡ negsuc 0) → cond b (pos n) (highest n a) ≡ negsuc 0
    go true f ih =
        let d = eqb-true (a / 2 ^ n % 2) 1 f in
        let m : a % 2 ^ suc n ≡ 1 * 2 ^ n + a % 2 ^ n = rw d at (more_bits n a) in
        let p = pow_pos n in
        absurd (omega arith)
    go false f ih = let m = more_bits n a in ih (omega arith)

-- two powers that a number lies between
same_power : (v i j : ℕ) → 2 ^ i ≤ v → v < 2 ^ suc i → 2 ^ j ≤ v → v < 2 ^ suc j → i ≡ j
same_power v i j p q r s = go (dec_lt i j) (dec_lt j i)
  where
    go : Dec (i < j) → Dec (j < i) → i ≡ j
    go (yes l) d = absurd (let m : 2 ^ suc i ≤ 2 ^ j = pow_mono l in omega arith)
    go (no l) (yes k) = absurd (let m : 2 ^ suc j ≤ 2 ^ i = pow_mono k in omega arith)
    go (no l) (no k) = omega arith

pub highest-at : (n a j : ℕ) → 2 ^ j ≤ a % 2 ^ n → a % 2 ^ n < 2 ^ suc j → highest n a ≡ pos j
unfolding highest
highest-at zero a j h g = absurd (let p = pow_pos j in omega arith)
highest-at (suc n) a j h g = go (has_bit a n) refl (highest-at n a j)
  where
    go : (b : Bool) → has_bit a n ≡ b → (2 ^ j ≤ a % 2 ^ n → a % 2 ^ n < 2 ^ suc j → highest n a ≡ pos j)
        → cond b (pos n) (highest n a) ≡ pos j
    go true f ih =
        let d = eqb-true (a / 2 ^ n % 2) 1 f in
        let m : a % 2 ^ suc n ≡ 1 * 2 ^ n + a % 2 ^ n = rw d at (more_bits n a) in
        let l = mod-lt a (pow_pos (suc n)) in
        ap pos (same_power (a % 2 ^ suc n) n j (omega arith) l h g)
    go false f ih =
        let d : a / 2 ^ n % 2 ≡ 0 = let e = eqb-false (a / 2 ^ n % 2) 1 f in omega arith in
        let m : a % 2 ^ suc n ≡ 0 * 2 ^ n + a % 2 ^ n = rw d at (more_bits n a) in
        ih (omega arith) (omega arith)

-- the place of the highest bit of some, by the zeros above it
pub record Place (a zeros : ℕ) : Type 0 where
  pub small : zeros ≤ 31
  pub place : 31 - zeros ≡ modulo (highest 32 a) 64

pub place_of : (a : ℕ) → (a % 2 ^ 32 ≡ 0 → ⊥) → Place a (count_leading_zeros 32 (a % 2 ^ 32))
unfolding modulo
place_of a h =
    let t = leading_top 32 (a % 2 ^ 32) (omega arith) (mod-lt a (pow_pos 32)) in
    let j : ℕ = t.0 in
    let e : highest 32 a ≡ pos j = highest-at 32 a j t.2 t.3 in
    let s : count_leading_zeros 32 (a % 2 ^ 32) + suc j ≡ 32 = t.1 in
    let m : j % 2 ^ 64 ≡ j = omega arith in
    let p : 31 - count_leading_zeros 32 (a % 2 ^ 32) ≡ j = omega arith in
    record { small = omega arith; place = rw e (p ∙ sym m) }

pub no_place : (a : ℕ) → a % 2 ^ 32 ≡ 0 → 2 ^ 64 - 1 ≡ modulo (highest 32 a) 64
unfolding modulo
no_place a h = rw (highest-none 32 a h)
