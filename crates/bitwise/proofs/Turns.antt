-- The reversal of 32 bits by exchanges of neighbours: bits, pairs, fours, bytes and halves.
use mathlib.Core.Path.{◌≡◌, refl, sym, ap, ap₂, ◌∙◌}
use mathlib.Core.Bool.{Bool, true, false, cond}
use Prim.Native.Nat.{ℕ, zero, suc, ◌+◌, ◌*◌, ◌-◌, ◌/◌, ◌%◌, ◌^◌, ◌≤◌, ◌<◌}
use native.Mathlib.Nat.{pow-suc, mul_assoc, mod-lt, mod-one, lt_of_lt_of_le}
use native.Mathlib.Omega.{arith}
use borrow.Author.Tests.{eqb-true, eqb-false}
use lib.Dec.{eqb}
use lib.Bits.{bit_and, bit_or, and_mask, and_block, and_zero_r, or_block, or_shifted, or_zero_r}
use lib.Arith.{digits_lt}
use lib.Pow.{pow_pos, pow-add, pow-lt, pow_mono, shr-shr, split, high, low, ones_lt, mod-pow-add}
use lib.IntN.{pos}
use Rattle.machine.specs.Integer.{modulo}
use Rattle.machine.specs.Meaning.{reversed, has_bit}

-- the low n bits of a, the lowest on top
unfoldable turned : ℕ → ℕ → ℕ
turned zero a = 0
turned (suc i) a = turned i a * 2 + a / 2 ^ i % 2

turned_lt : (i a : ℕ) → turned i a < 2 ^ i
unfolding turned
turned_lt zero a = omega arith
turned_lt (suc i) a = let h = turned_lt i a in omega arith

-- the low i bits, then the next j
turned_add : (i j a : ℕ) → turned (i + j) a ≡ turned i a * 2 ^ j + turned j (a / 2 ^ i)
unfolding turned
turned_add i zero a = let e : i + 0 ≡ i = omega arith in rw e (omega arith)
turned_add i (suc j) a =
    let e : i + suc j ≡ suc (i + j) = omega arith in
    let ih = turned_add i j a in
    let b : a / 2 ^ i / 2 ^ j ≡ a / 2 ^ (i + j) = shr-shr a i j in
    let t : ℕ = turned i a in
    let p : t * 2 ^ suc j ≡ t * 2 ^ j * 2 = ap (λ (n : ℕ). t * n) (pow-suc 2 j) ∙ sym (mul_assoc t (2 ^ j) 2) in
    rw (e, b) (omega arith)

-- ---- the document's loop

or_bit : (t i : ℕ) (b : Bool) → bit_or (t * 2 ^ suc i) (cond b (2 ^ i) 0) ≡ (t * 2 + cond b 1 0) * 2 ^ i
or_bit t i true =
    or_shifted t (suc i) (2 ^ i) (pow-lt (omega arith))
    ∙ ap (λ (n : ℕ). t * n + 2 ^ i) (pow-suc 2 i) ∙ omega arith
or_bit t i false = or_zero_r (t * 2 ^ suc i) ∙ ap (λ (n : ℕ). t * n) (pow-suc 2 i) ∙ omega arith

-- a digit by its test
bit_cond : (d : ℕ) → d < 2 → cond (eqb d 1) 1 0 ≡ d
bit_cond d h = go (eqb d 1) refl
  where
    go : (b : Bool) → eqb d 1 ≡ b → cond b 1 0 ≡ d
    go true e = let f = eqb-true d 1 e in omega arith
    go false e = let f = eqb-false d 1 e in omega arith

reversed-turned : (i a : ℕ) → i ≤ 32 → reversed i a ≡ turned i a * 2 ^ (32 - i)
unfolding reversed turned
reversed-turned zero a h = refl
reversed-turned (suc i) a h =
    let e : 32 - i ≡ suc (31 - i) = omega arith in
    let f : 32 - suc i ≡ 31 - i = omega arith in
    ap (λ (n : ℕ). bit_or n (cond (has_bit a i) (2 ^ (31 - i)) 0))
    (reversed-turned i a (omega arith) ∙ ap (λ (n : ℕ). turned i a * 2 ^ n) e)
    ∙ or_bit (turned i a) (31 - i) (has_bit a i)
    ∙ ap₂ (λ (x y : ℕ). (turned i a * 2 + x) * 2 ^ y) (bit_cond (a / 2 ^ i % 2) (omega arith)) (sym f)

-- ---- exchanges

-- n blocks of w bits, each turned round in its place
unfoldable blocks : ℕ → ℕ → ℕ → ℕ
blocks zero w x = 0
blocks (suc n) w x = blocks n w (x / 2 ^ w) * 2 ^ w + turned w x

-- ones at the lower w bits of each of n pairs of blocks
unfoldable lower : ℕ → ℕ → ℕ
lower zero w = 0
lower (suc n) w = lower n w * 2 ^ (w + w) + (2 ^ w - 1)

abbrev pub exchanged : ℕ → ℕ → ℕ → ℕ
exchanged mask w x = bit_or (bit_and x mask * 2 ^ w) (bit_and (x / 2 ^ w) mask)

-- blocks of one bit
single_bits : (n x : ℕ) → blocks n 1 x ≡ x % 2 ^ n
unfolding blocks turned
single_bits zero x = sym (mod-one x)
single_bits (suc n) x =
    let e : suc n ≡ n + 1 = omega arith in
    let ih = single_bits n (x / 2) in
    let m : x % 2 ^ (n + 1) ≡ x / 2 % 2 ^ n * 2 + x % 2 = mod-pow-add x n 1 in
    let d : x / 2 ^ 0 ≡ x = omega arith in
    rw (e, m, ← ih, d) (omega arith)

pair_lt : (w h l : ℕ) → h < 2 ^ w → l < 2 ^ w → h * 2 ^ w + l < 2 ^ (w + w)
pair_lt w h l p q = rw (pow-add 2 w w) (digits_lt p q)

-- the lower block of the first pair, and what the mask has of the others
and_pair : (w y s h l : ℕ) → h < 2 ^ w → l < 2 ^ w
    → bit_and (y * 2 ^ (w + w) + (h * 2 ^ w + l)) (s * 2 ^ (w + w) + (2 ^ w - 1)) ≡ bit_and y s * 2 ^ (w + w) + l
and_pair w y s h l p q =
    let o : 2 ^ w - 1 < 2 ^ (w + w) = lt_of_lt_of_le (ones_lt w) (pow_mono (omega arith)) in
    and_block (w + w) y s (h * 2 ^ w + l) (2 ^ w - 1) (pair_lt w h l p q) o
    ∙ ap (λ (n : ℕ). bit_and y s * 2 ^ (w + w) + n) (and_mask (h * 2 ^ w + l) w ∙ low h w q)

-- the pairs as they stand without the lowest block
upper : (w y h l : ℕ) → l < 2 ^ w
    → (y * 2 ^ (w + w) + (h * 2 ^ w + l)) / 2 ^ w ≡ y / 2 ^ w * 2 ^ (w + w) + (y % 2 ^ w * 2 ^ w + h)
upper w y h l q =
    let p : ℕ = 2 ^ w in
    let e : 2 ^ (w + w) ≡ p * p = pow-add 2 w w in
    let f : y * (p * p) + (h * p + l) ≡ (y * p + h) * p + l = omega arith in
    let g : (y / p * p + y % p) * p + h ≡ y / p * (p * p) + (y % p * p + h) = omega arith in
    ap (λ (n : ℕ). (y * n + (h * p + l)) / p) e ∙ ap (λ (n : ℕ). n / p) f ∙ high (y * p + h) w q
    ∙ ap (λ (n : ℕ). n * p + h) (sym (split y w)) ∙ g ∙ ap (λ (n : ℕ). y / p * n + (y % p * p + h)) (sym e)

-- one pair more
one_pair : (w y s h l : ℕ) → h < 2 ^ w → l < 2 ^ w
    → exchanged (s * 2 ^ (w + w) + (2 ^ w - 1)) w (y * 2 ^ (w + w) + (h * 2 ^ w + l))
    ≡ exchanged s w y * 2 ^ (w + w) + (l * 2 ^ w + h)
one_pair w y s h l p q =
    let d : ℕ = 2 ^ (w + w) in
    let m : ℕ = s * d + (2 ^ w - 1) in
    let a : ℕ = bit_and y s in
    let b : ℕ = bit_and (y / 2 ^ w) s in
    let f : (a * d + l) * 2 ^ w ≡ a * 2 ^ w * d + l * 2 ^ w = omega arith in
    let t = pair_lt w l h q p in
    ap₂ (λ (u v : ℕ). bit_or (u * 2 ^ w) (bit_and v m)) (and_pair w y s h l p q) (upper w y h l q)
    ∙ ap₂ bit_or f (and_pair w (y / 2 ^ w) s (y % 2 ^ w) h (mod-lt y (pow_pos w)) p)
    ∙ or_block (w + w) (a * 2 ^ w) b (l * 2 ^ w) h (omega arith) (omega arith)
    ∙ ap (λ (n : ℕ). bit_or (a * 2 ^ w) b * d + n) (or_shifted l w h p)

-- exchanging the blocks of each pair makes blocks of twice the width
exchanged-blocks : (n w x : ℕ) → exchanged (lower n w) w (blocks (n * 2) w x) ≡ blocks n (w + w) x
unfolding blocks lower
exchanged-blocks zero w x =
    let e : 0 * 2 ^ w ≡ 0 = omega arith in
    ap (λ (n : ℕ). bit_or n (bit_and (0 / 2 ^ w) 0)) e ∙ and_zero_r (0 / 2 ^ w)
exchanged-blocks (suc n) w x =
    let e : suc n * 2 ≡ suc (suc (n * 2)) = omega arith in
    let y : ℕ = blocks (n * 2) w (x / 2 ^ w / 2 ^ w) in
    let h : ℕ = turned w (x / 2 ^ w) in
    let l : ℕ = turned w x in
    let f : (y * 2 ^ w + h) * 2 ^ w + l ≡ y * (2 ^ w * 2 ^ w) + (h * 2 ^ w + l) = omega arith in
    let g = f ∙ ap (λ (k : ℕ). y * k + (h * 2 ^ w + l)) (sym (pow-add 2 w w)) in
    ap (λ (k : ℕ). exchanged (lower (suc n) w) w (blocks k w x)) e
    ∙ ap (exchanged (lower (suc n) w) w) g
    ∙ one_pair w y (lower n w) h l (turned_lt w (x / 2 ^ w)) (turned_lt w x)
    ∙ ap₂ (λ (u v : ℕ). u * 2 ^ (w + w) + v)
    (exchanged-blocks n w (x / 2 ^ w / 2 ^ w) ∙ ap (blocks n (w + w)) (shr-shr x w w))
    (sym (turned_add w w x))

-- ---- the five exchanges

step : (n w x y z : ℕ) → y ≡ blocks (n * 2) w x → z ≡ exchanged (lower n w) w y → z ≡ blocks n (w + w) x
step n w x y z e f = f ∙ ap (exchanged (lower n w) w) e ∙ exchanged-blocks n w x

pub by_exchanges : (a p q r s t : ℕ)
    → p ≡ exchanged 0x55555555 1 (a % 2 ^ 32)
    → q ≡ exchanged 0x33333333 2 p
    → r ≡ exchanged 0x0f0f0f0f 4 q
    → s ≡ exchanged 0x00ff00ff 8 r
    → t ≡ exchanged 0x0000ffff 16 s
    → t ≡ modulo (pos (reversed 32 a)) 64
unfolding lower blocks modulo
by_exchanges a p q r s t e f g h k =
    let bits = step 16 1 a (a % 2 ^ 32) p (sym (single_bits 32 a)) e in
    let pairs = step 8 2 a p q bits f in
    let fours = step 4 4 a q r pairs g in
    let bytes = step 2 8 a r s fours h in
    let whole : t ≡ 0 * 2 ^ 32 + turned 32 a = step 1 16 a s t bytes k in
    let u : reversed 32 a ≡ turned 32 a * 2 ^ (32 - 32) = reversed-turned 32 a (omega arith) in
    let l : turned 32 a < 2 ^ 32 = turned_lt 32 a in
    omega arith
