-- The numbers that the exported functions return, as docs/c-interface.md has them: minus the number of a refusal, or what was done.
use Rattle.std.specs.Prelude.{ℤ, pos, neg_ℤ, Ok, Err}
use Rattle.isa.specs.Refusal.{number_of}
use Rattle.isa.specs.declared.answer.Refusal.{Refusal}
use Rattle.isa.specs.Answer.{Decoded}
use Rattle.isa.specs.Answer.{Encoded}
use Rattle.machine.specs.declared.answer.Ending.{Ending}

abbrev pub refused_by : Refusal → ℤ
refused_by r = neg_ℤ (pos (number_of r))

-- the length of the instruction that was decoded
abbrev pub decoded_by : Decoded → ℤ
decoded_by (Ok (i, n)) = pos n
decoded_by (Err r) = refused_by r

-- the number of bytes that were written
abbrev pub encoded_by : Encoded → ℤ
encoded_by (Ok n) = pos n
encoded_by (Err r) = refused_by r

-- 0 for a run that came to its end or used up its budget
abbrev pub ended_by : Ending → ℤ
ended_by Ending.Finished = pos 0
ended_by Ending.Spent = pos 0
ended_by (Ending.Refused r) = refused_by r
