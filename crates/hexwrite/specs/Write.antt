-- The text of a kernel in Intel HEX: its rows, with upper-case digits and a line feed, and the end row. Follows "Kernels arrive as Intel HEX" of
-- the change requests.
use Rattle.std.specs.Prelude.{ℕ, zero, suc, ◌+◌, ◌-◌, ◌/◌, ◌%◌, List, [], ◌∷◌, ◌++◌, length, take, drop}
use Rattle.isa.specs.Text.{ascii}
use Rattle.digits.specs.Digits.{hex_bytes}
use Rattle.hexpairs.specs.Pairs.{total}

-- the byte that makes the sum of a row's bytes a multiple of 256
abbrev pub sum_for : List ℕ → ℕ
sum_for bytes = (256 - total bytes % 256) % 256

-- the bytes of a row before its sum
abbrev pub head_of : ℕ → ℕ → List ℕ → List ℕ
head_of type at bytes = length bytes ∷ at / 256 ∷ at % 256 ∷ type ∷ bytes

abbrev pub with_sum : List ℕ → List ℕ
with_sum bytes = bytes ++ (sum_for bytes ∷ [])

-- a row of some type, at an address
unfoldable pub row_for : ℕ → ℕ → List ℕ → List ℕ
row_for type at bytes = ascii ":" ++ hex_bytes (with_sum (head_of type at bytes)) ++ ascii "\n"

-- the row at the end
abbrev pub end_row : List ℕ
end_row = ascii ":00000001FF\n"

-- rows of 16 bytes, the last of as many as are left, from an address on; then the end row. The first number bounds the rows
unfoldable pub rows_from : ℕ → ℕ → List ℕ → List ℕ
rows_from zero at s = end_row
rows_from (suc k) at [] = end_row
rows_from (suc k) at (b ∷ s) = row_for 0 at (take 16 (b ∷ s)) ++ rows_from k (at + 16) (drop 16 (b ∷ s))

unfoldable pub hex_of : List ℕ → List ℕ
hex_of code = rows_from (length code) 0 code
