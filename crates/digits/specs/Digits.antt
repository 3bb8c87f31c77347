-- Numbers in upper-case hexadecimal digits, as "The lister" of the statement of what to build has them.
use Rattle.std.specs.Prelude.{ℕ, ◌+◌, ◌/◌, ◌%◌, cond, List, [], ◌∷◌, ◌++◌, ltb}

-- an upper-case hexadecimal digit: 0 to 9 are the characters from 48, A to F those from 65
abbrev pub digit : ℕ → ℕ
digit n = cond (ltb n 10) (n + 48) (n + 55)

abbrev pub hex_byte : ℕ → List ℕ
hex_byte b = digit (b / 16) ∷ digit (b % 16) ∷ []

abbrev pub hex_bytes : List ℕ → List ℕ
hex_bytes [] = []
hex_bytes (b ∷ bs) = hex_byte b ++ hex_bytes bs

-- four digits
abbrev pub hex_address : ℕ → List ℕ
hex_address at = hex_byte (at / 256) ++ hex_byte (at % 256)
