-- Unbounded integers with the operations of document 002's pseudocode, whose values are "Python-style arbitrary-precision
-- integers"; sign_extend and saturate_integer of its operand descriptions (docs/DECISIONS.md, entry 1).
use Rattle.std.specs.Prelude.{ℕ, ◌-◌, ◌/◌, ◌%◌, ◌^◌, Bool, cond, eqb, ℤ, pos, negsuc, neg_ℤ, ◌+ℤ◌, ◌*ℤ◌}
use Rattle.std.specs.Int.Bits.{bit_and, bit_or}
use Rattle.std.specs.Int.Signed.{lt_z, shr_z}

infixl 95 ~◌
infixl 90 ◌<<◌ ◌>>◌
infixl 85 ◌&◌
infixl 82 ◌∣◌
abbrev pub ◌<<◌ : ℤ → ℕ → ℤ
z << k = z *ℤ pos (2 ^ k)

-- rounded down
abbrev pub ◌>>◌ : ℤ → ℕ → ℤ
z >> k = shr_z z (2 ^ k)

-- negsuc n is -(n + 1), the complement of n
abbrev pub ~◌ : ℤ → ℤ
~ (pos n) = negsuc n
~ (negsuc n) = pos n

-- the bits of a that b does not have
abbrev pub without : ℕ → ℕ → ℕ
without a b = a - bit_and a b

abbrev pub ◌&◌ : ℤ → ℤ → ℤ
pos a & pos b = pos (bit_and a b)
pos a & negsuc b = pos (without a b)
negsuc a & pos b = pos (without b a)
negsuc a & negsuc b = negsuc (bit_or a b)

abbrev pub ◌∣◌ : ℤ → ℤ → ℤ
pos a ∣ pos b = pos (bit_or a b)
pos a ∣ negsuc b = negsuc (without b a)
negsuc a ∣ pos b = negsuc (without a b)
negsuc a ∣ negsuc b = negsuc (bit_and a b)

-- x where its bit (bits-1) is 0, x - 2^bits where it is 1
unfoldable pub sign_extend : ℕ → ℕ → ℤ
sign_extend x bits = cond (eqb (x / 2 ^ (bits - 1) % 2) 0) (pos x) (pos x +ℤ neg_ℤ (pos (2 ^ bits)))

-- z, limited to what lies between low and high
abbrev pub limit : ℤ → ℤ → ℤ → ℤ
limit low high z = cond (lt_z z low) low (cond (lt_z high z) high z)

-- -2^(bits-1) to 2^(bits-1) - 1 where signed, 0 to 2^bits - 1 where not
unfoldable pub saturate_integer : ℤ → ℕ → Bool → ℤ
saturate_integer z bits signed =
    cond signed
    (limit (neg_ℤ (pos (2 ^ (bits - 1)))) (pos (2 ^ (bits - 1) - 1)) z)
    (limit (pos 0) (pos (2 ^ bits - 1)) z)

-- the integer modulo two to the number of bits: what a destination of that size holds of it
unfoldable pub modulo : ℤ → ℕ → ℕ
modulo (pos n) bits = n % 2 ^ bits
modulo (negsuc n) bits = 2 ^ bits - 1 - n % 2 ^ bits
