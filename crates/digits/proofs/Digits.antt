-- Digits and bytes taken back: the number that a digit stands for, and which characters a digit can be; how long the digits of bytes are.
use mathlib.Core.Path.{◌≡◌, refl, sym, ap, ◌∙◌}
use mathlib.Core.Bool.{true, cond}
use mathlib.Core.List.{List, [], ◌∷◌, ◌++◌}
use Prim.Native.Nat.{ℕ, ◌*◌, ◌-◌, ◌/◌, ◌%◌, ◌<◌}
use native.Mathlib.Omega.{arith}
use lib.Dec.{ltb}
use lib.ListN.{length}
use borrow.Author.Tests.{ltb-true}
use Rattle.bits.proofs.Table.{agree}
use Rattle.digits.specs.Digits.{digit, hex_byte, hex_bytes}

abbrev pub value_of : ℕ → ℕ
value_of c = cond (ltb c 65) (c - 48) (c - 55)

pub value-digit : (n : ℕ) → n < 16 → value_of (digit n) ≡ n
value-digit = agree 16 (λ n. value_of (digit n)) (λ n. n) refl

pub digit-same : (m n : ℕ) → m < 16 → n < 16 → digit m ≡ digit n → m ≡ n
digit-same m n h g e = sym (value-digit m h) ∙ ap value_of e ∙ value-digit n g

-- a digit is neither a space nor a lower-case letter
pub digit_above : (n : ℕ) → n < 16 → 32 < digit n
digit_above n h = ltb-true 32 (digit n) (agree 16 (λ k. ltb 32 (digit k)) (λ k. true) refl n h)

pub digit_below : (n : ℕ) → n < 16 → digit n < 97
digit_below n h = ltb-true (digit n) 97 (agree 16 (λ k. ltb (digit k) 97) (λ k. true) refl n h)

pub byte_same : (a b : ℕ) → a < 256 → b < 256 → digit (a / 16) ≡ digit (b / 16) → digit (a % 16) ≡ digit (b % 16) → a ≡ b
byte_same a b h g e f =
    let p = digit-same (a / 16) (b / 16) (omega arith) (omega arith) e in
    let q = digit-same (a % 16) (b % 16) (omega arith) (omega arith) f in
    omega arith

pub length-hex_bytes : (s : List ℕ) → length (hex_bytes s) ≡ 2 * length s
length-hex_bytes [] = refl
length-hex_bytes (b ∷ s) = let ih = length-hex_bytes s in omega arith

pub hex_append : (s t : List ℕ) → hex_bytes (s ++ t) ≡ hex_bytes s ++ hex_bytes t
hex_append [] t = refl
hex_append (b ∷ s) t = ap (λ (l : List ℕ). hex_byte b ++ l) (hex_append s t)
