-- Pairs of hexadecimal digits, the bytes that they spell, and the end of a line, as Intel HEX has them. Follows "Kernels arrive as Intel HEX" of
-- the change requests.
use Rattle.std.specs.Prelude.{ℕ, zero, suc, ◌+◌, ◌*◌, ◌-◌, Bool, true, cond, ◌&&◌, ◌||◌, List, [], ◌∷◌, leb, ltb, get_or, drop}
use Rattle.bits.specs.Lists.{eq_list}
use Rattle.isa.specs.Text.{ascii}

abbrev within : ℕ → ℕ → ℕ → Bool
within low high c = leb low c && leb c high

-- the number that a hexadecimal digit stands for, in either case; 256 for every other character
abbrev pub digit_value : ℕ → ℕ
digit_value c =
    cond (within 48 57 c) (c - 48)
    (cond (within 65 70 c) (c - 55)
    (cond (within 97 102 c) (c - 87)
    256))

-- the byte that a pair of digits at the start of s spells; 256 or above where one of the two is no digit
abbrev pub pair_value : List ℕ → ℕ
pair_value s = 16 * digit_value (get_or s 0 0) + digit_value (get_or s 1 0)

-- whether n pairs of digits stand at the start of s
unfoldable pub pairs : ℕ → List ℕ → Bool
pairs zero s = true
pairs (suc n) s = ltb (pair_value s) 256 && pairs n (drop 2 s)

-- the bytes that n pairs of digits spell
unfoldable pub spelled : ℕ → List ℕ → List ℕ
spelled zero s = []
spelled (suc n) s = pair_value s ∷ spelled n (drop 2 s)

abbrev pub total : List ℕ → ℕ
total [] = 0
total (b ∷ bs) = b + total bs

-- the end of a line: a line feed, with or without a carriage return before it
abbrev pub is_end : List ℕ → Bool
is_end s = eq_list s (ascii "\n") || eq_list s (ascii "\r\n")
