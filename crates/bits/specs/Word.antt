-- A word of little-endian bytes, and a field of a word.
use Rattle.std.specs.Prelude.{ℕ, zero, suc, ◌+◌, ◌*◌, ◌-◌, ◌/◌, ◌%◌, ◌^◌, List, [], ◌∷◌, take}

-- the number that little-endian bytes say
abbrev pub le : List ℕ → ℕ
le [] = 0
le (b ∷ bs) = b + 256 * le bs

-- the first n little-endian bytes of a number
abbrev pub bytes_of : ℕ → ℕ → List ℕ
bytes_of zero w = []
bytes_of (suc n) w = w % 256 ∷ bytes_of n (w / 256)

-- the first eight bytes as a number; absent bytes are zero
abbrev pub word_of : List ℕ → ℕ
word_of code = le (take 8 code)

-- ones at all the bits of n bytes
abbrev pub ones : ℕ → ℕ
ones n = 2 ^ (8 * n) - 1

-- the n bits of w from the bit at
abbrev pub field_of : ℕ → ℕ → ℕ → ℕ
field_of w at n = w / 2 ^ at % 2 ^ n
