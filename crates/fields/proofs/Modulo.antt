-- The operations of unbounded integers, modulo two to the k: each is the operation of words of k bits.
use mathlib.Core.Path.{◌≡◌, refl, sym, ap, ap₂, ◌∙◌}
use Prim.Native.Nat.{ℕ, zero, suc, ◌+◌, ◌*◌, ◌-◌, ◌/◌, ◌%◌, ◌^◌, ◌≤◌, ◌<◌, min}
use native.Mathlib.Nat.{pow-suc, mod-lt}
use native.Mathlib.Omega.{arith}
use lib.Bits.{bit_and, bit_or, and_step, and_comm, and_le_l, and_block, and_mod, or_mod, or_lt, or_add_and}
use lib.Pow.{pow_pos, split, low}
use lib.IntN.{ℤ, pos, negsuc}
use Rattle.machine.specs.Integer.{~◌, ◌&◌, ◌∣◌, without, modulo}

digit : (x y : ℕ) → x < 2 → y < 2 → min x (1 - y) + min x y ≡ x
digit x y h g = omega arith

-- the bits of a that b has not, and those that it has
pub and_comp : (k a b : ℕ) → a < 2 ^ k → b < 2 ^ k → bit_and a (2 ^ k - 1 - b) + bit_and a b ≡ a
and_comp zero a b h g = let e : a ≡ 0 = omega arith in rw e
and_comp (suc k) a b h g =
    let p : 2 ^ suc k ≡ 2 ^ k * 2 = pow-suc 2 k in
    let q : (2 ^ suc k - 1 - b) / 2 ≡ 2 ^ k - 1 - b / 2 = omega arith in
    let d : (2 ^ suc k - 1 - b) % 2 ≡ 1 - b % 2 = omega arith in
    let s : bit_and a (2 ^ suc k - 1 - b) ≡ bit_and (a / 2) (2 ^ k - 1 - b / 2) * 2 + min (a % 2) (1 - b % 2) =
    and_step a (2 ^ suc k - 1 - b) ∙ ap₂ (λ (x y : ℕ). bit_and (a / 2) x * 2 + min (a % 2) y) q d in
    let ih = and_comp k (a / 2) (b / 2) (omega arith) (omega arith) in
    joined a (bit_and (a / 2) (2 ^ k - 1 - b / 2)) (bit_and (a / 2) (b / 2)) (min (a % 2) (1 - b % 2)) (min (a % 2) (b % 2))
    (bit_and a (2 ^ suc k - 1 - b)) (bit_and a b) s (and_step a b) ih (digit (a % 2) (b % 2) (omega arith) (omega arith))
  where
    joined : (n x y d e u v : ℕ) → u ≡ x * 2 + d → v ≡ y * 2 + e → x + y ≡ n / 2 → d + e ≡ n % 2 → u + v ≡ n
    joined n x y d e u v s t p q = omega arith

-- what both have not
pub de_morgan : (k a b : ℕ) → a < 2 ^ k → b < 2 ^ k → bit_and (2 ^ k - 1 - a) (2 ^ k - 1 - b) ≡ 2 ^ k - 1 - bit_or a b
de_morgan k a b h g =
    let n : ℕ = 2 ^ k - 1 - a in
    let p : bit_and n (2 ^ k - 1 - b) + bit_and n b ≡ n = and_comp k n b (omega arith) g in
    let q : bit_and b n + bit_and b a ≡ b = and_comp k b a g h in
    let r = or_add_and a b in
    let s = and_comm b n in
    let t = and_comm b a in
    omega arith

without_mod : (a b k : ℕ) → without a b % 2 ^ k ≡ bit_and (a % 2 ^ k) (2 ^ k - 1 - b % 2 ^ k)
without_mod a b k =
    let x : ℕ = a / 2 ^ k in
    let d : ℕ = bit_and x (b / 2 ^ k) in
    let e : ℕ = bit_and (a % 2 ^ k) (b % 2 ^ k) in
    let l = mod-lt a (pow_pos k) in
    let m = mod-lt b (pow_pos k) in
    let c : bit_and a b ≡ d * 2 ^ k + e =
    ap₂ bit_and (sym (split a k)) (sym (split b k)) ∙ and_block k x (b / 2 ^ k) (a % 2 ^ k) (b % 2 ^ k) l m in
    let f : without a b ≡ (x - d) * 2 ^ k + (a % 2 ^ k - e) =
    parts a (bit_and a b) x d (a % 2 ^ k) e (2 ^ k) (split a k) c (and_le_l x (b / 2 ^ k)) (and_le_l (a % 2 ^ k) (b % 2 ^ k)) in
    ap (λ (n : ℕ). n % 2 ^ k) f ∙ low (x - d) k (omega arith) ∙ rest (a % 2 ^ k) e _ (and_comp k (a % 2 ^ k) (b % 2 ^ k) l m)
  where
    parts : (a c x d r e p : ℕ) → x * p + r ≡ a → c ≡ d * p + e → d ≤ x → e ≤ r → a - c ≡ (x - d) * p + (r - e)
    parts a c x d r e p s t h g =
        let q : ℕ = x - d in
        let u : x ≡ d + q = omega arith in
        let v : x * p ≡ d * p + q * p = ap (λ (n : ℕ). n * p) u ∙ omega arith in
        omega arith

    rest : (a e u : ℕ) → u + e ≡ a → a - e ≡ u
    rest a e u h = omega arith

pub mod_lt_pow : (z : ℤ) (k : ℕ) → modulo z k < 2 ^ k
unfolding modulo
mod_lt_pow (pos n) k = mod-lt n (pow_pos k)
mod_lt_pow (negsuc n) k = let p = pow_pos k in omega arith

pub mod_not : (z : ℤ) (k : ℕ) → modulo (~ z) k ≡ 2 ^ k - 1 - modulo z k
unfolding modulo
mod_not (pos n) k = refl
mod_not (negsuc n) k = let l = mod-lt n (pow_pos k) in omega arith

pub mod_and : (x y : ℤ) (k : ℕ) → modulo (x & y) k ≡ bit_and (modulo x k) (modulo y k)
unfolding modulo
mod_and (pos a) (pos b) k = and_mod a b k
mod_and (pos a) (negsuc b) k = without_mod a b k
mod_and (negsuc a) (pos b) k = without_mod b a k ∙ and_comm (b % 2 ^ k) (2 ^ k - 1 - a % 2 ^ k)
mod_and (negsuc a) (negsuc b) k =
    ap (λ (n : ℕ). 2 ^ k - 1 - n) (or_mod a b k)
    ∙ sym (de_morgan k (a % 2 ^ k) (b % 2 ^ k) (mod-lt a (pow_pos k)) (mod-lt b (pow_pos k)))

or_not : (x y : ℤ) → x ∣ y ≡ ~ (~ x & ~ y)
or_not (pos a) (pos b) = refl
or_not (pos a) (negsuc b) = refl
or_not (negsuc a) (pos b) = refl
or_not (negsuc a) (negsuc b) = refl

-- a number below two to the k is what its complement has not
or_comp : (k a b : ℕ) → a < 2 ^ k → b < 2 ^ k → 2 ^ k - 1 - bit_and (2 ^ k - 1 - a) (2 ^ k - 1 - b) ≡ bit_or a b
or_comp k a b h g = let d = de_morgan k a b h g in let l = or_lt k a b h g in omega arith

pub mod_or : (x y : ℤ) (k : ℕ) → modulo (x ∣ y) k ≡ bit_or (modulo x k) (modulo y k)
mod_or x y k =
    ap (λ (z : ℤ). modulo z k) (or_not x y)
    ∙ mod_not (~ x & ~ y) k
    ∙ ap (λ (n : ℕ). 2 ^ k - 1 - n) (mod_and (~ x) (~ y) k ∙ ap₂ bit_and (mod_not x k) (mod_not y k))
    ∙ or_comp k (modulo x k) (modulo y k) (mod_lt_pow x k) (mod_lt_pow y k)
