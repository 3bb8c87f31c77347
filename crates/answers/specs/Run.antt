-- The answer of a run as bytes, as docs/c-interface.md has them.
use Rattle.std.specs.Prelude.{ℕ, List, ◌++◌}
use Rattle.bits.specs.Word.{bytes_of}
use Rattle.isa.specs.Refusal.{number_of}
use Rattle.machine.specs.declared.answer.Ending.{Ending}
use Rattle.machine.specs.declared.answer.Answer.{Answer}

abbrev pub ending_number : Ending → ℕ
ending_number Ending.Finished = 0
ending_number Ending.Spent = 1
ending_number (Ending.Refused r) = 2

abbrev pub refusal_number : Ending → ℕ
refusal_number Ending.Finished = 0
refusal_number Ending.Spent = 0
refusal_number (Ending.Refused r) = number_of r

-- how it ended (4), the refusal's number or 0 (4), the steps (4), the mask (4), the address (8)
abbrev pub answer_bytes : Answer → List ℕ
answer_bytes a =
    bytes_of 4 (ending_number a.ending) ++ bytes_of 4 (refusal_number a.ending) ++ bytes_of 4 a.steps ++ bytes_of 4 a.mask
    ++ bytes_of 8 a.address
