-- The halves of a word by shifts and masks, as the loops read and write them.
use mathlib.Core.Path.{◌≡◌, ap, ap₂, ◌∙◌}
use mathlib.Core.Bool.{Bool, true, false, cond}
use Prim.Native.Nat.{ℕ, ◌+◌, ◌*◌, ◌/◌, ◌%◌, ◌^◌, ◌<◌}
use native.Mathlib.Omega.{arith}
use lib.Dec.{eqb}
use lib.Bits.{bit_and, bit_or, and_high, and_mask, or_shifted, or_shifted_r}
use lib.Pow.{shr_mod}
use Rattle.machine.specs.Words.{half_of, with_half}

pub place_lt : (even : Bool) → cond even 0 16 < 32
place_lt true = omega arith
place_lt false = omega arith

module _ (h word : ℕ) (b : word < 2 ^ 32) where
  -- a half is the 16 bits of the word from its place on
  pub half_part : word / 2 ^ cond (eqb (h % 2) 0) 0 16 % 2 ^ 16 ≡ half_of h word
  half_part = go (eqb (h % 2) 0)
    where
      go : (even : Bool) → word / 2 ^ cond even 0 16 % 2 ^ 16 ≡ cond even (word % 2 ^ 16) (word / 2 ^ 16)
      go true = omega arith
      go false = omega arith

  -- with a new half, a word is the bits of the other half and the value at its place
  pub half_merge : (x : ℕ)
      → bit_or (bit_and word (cond (eqb (h % 2) 0) 4294901760 65535)) (x % 2 ^ 16 * 2 ^ cond (eqb (h % 2) 0) 0 16 % 2 ^ 32)
      ≡ with_half h (x % 2 ^ 16) word
  half_merge x = go (eqb (h % 2) 0)
    where
      go : (even : Bool)
          → bit_or (bit_and word (cond even 4294901760 65535)) (x % 2 ^ 16 * 2 ^ cond even 0 16 % 2 ^ 32)
          ≡ cond even (word / 2 ^ 16 * 2 ^ 16 + x % 2 ^ 16) (x % 2 ^ 16 * 2 ^ 16 + word % 2 ^ 16)
      go true =
          let q = shr_mod 16 16 b in
          let k : bit_and word 4294901760 ≡ word / 2 ^ 16 * 2 ^ 16 = and_high word 16 16 ∙ ap (λ (y : ℕ). y * 2 ^ 16) q in
          let s : x % 2 ^ 16 * 1 % 2 ^ 32 ≡ x % 2 ^ 16 = omega arith in
          ap₂ bit_or k s ∙ or_shifted (word / 2 ^ 16) 16 (x % 2 ^ 16) (omega arith)
      go false =
          let s : x % 2 ^ 16 * 2 ^ 16 % 2 ^ 32 ≡ x % 2 ^ 16 * 2 ^ 16 = omega arith in
          ap₂ bit_or (and_mask word 16) s ∙ or_shifted_r (x % 2 ^ 16) 16 (word % 2 ^ 16) (omega arith)
