-- What the functions of this crate answer of a text's start, in the shape of the code.
use Rattle.std.specs.Prelude.{ℕ, ◌%◌, cond, ◌&&◌, List, eqb, ltb, get_or, Option, Some, None}
use Rattle.hexpairs.specs.Pairs.{pairs, spelled, total}

-- the number of characters of the end of a line that stands at the start of s; 0 where there is none
abbrev pub end_size : List ℕ → ℕ
end_size s = cond (eqb (get_or s 0 0) 10) 1 (cond (eqb (get_or s 0 0) 13 && eqb (get_or s 1 0) 10) 2 0)

-- the sum of the bytes of n pairs, modulo 256; 256 where a character is no digit
abbrev pub sum_by : ℕ → List ℕ → ℕ
sum_by n s = cond (pairs n s) (total (spelled n s) % 256) 256

-- what a function answers for such a number: a byte, or none where a character is no digit
abbrev pub byte_in : ℕ → Option ℕ
byte_in n = cond (ltb n 256) (Some n) None

-- a number of characters, or none for 0
abbrev pub counted : ℕ → Option ℕ
counted n = cond (ltb 0 n) (Some n) None
