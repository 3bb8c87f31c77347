-- The first row of a table that matches a word of which n bytes are lent, the others being zero: how the loop finds an instruction.
-- That it is what the finding rule answers is the law `first_is_found`.
use Rattle.std.specs.Prelude.{ℕ, suc, ◌-◌, ◌<◌, Bool, true, cond, List, [], ◌∷◌, eqb, leb, Ok, Err}
use Rattle.std.specs.Int.Bits.{bit_and}
use Rattle.bits.specs.Word.{ones}
use Rattle.isa.specs.Refusal.{refusal}
use Rattle.isa.specs.Answer.{Find}
use Rattle.rows.specs.declared.Row.{Row}

-- the fixed bits that are lent, where k has ones, agree
abbrev pub agrees_with : ℕ → Row → ℕ → Bool
agrees_with k r w = eqb (bit_and w r.fixed) (bit_and r.value k)

abbrev pub agrees : Row → ℕ → ℕ → Bool
agrees r w n = agrees_with (ones n) r w

-- the length: the last two bytes are absent where the bit L is 0
abbrev pub length_by : Row → ℕ → ℕ
length_by r w = cond (eqb (bit_and w r.bit_l) r.bit_l) r.bytes (r.bytes - 2)

-- the rows of a list, whose first has the place i; whether one before it agreed, and is longer than what is lent
abbrev pub first_of : List Row → ℕ → Bool → ℕ → ℕ → Find
first_of [] i more w n = cond more (Err (refusal 2)) (Err (refusal 3))
first_of (r ∷ rs) i more w n =
    cond (agrees r w n)
    (cond (leb (length_by r w) n) (Ok (i, length_by r w)) (first_of rs (suc i) true w n))
    (first_of rs (suc i) more w n)

-- a place of the list of rows, and a length of at most eight bytes
abbrev pub FoundWithin : Find → Type 0
FoundWithin (Ok (place, n)) = (place < 22) × (n < 9)
FoundWithin (Err r) = Unit {0}
