-- The parts of what decoding answers: of the instruction that was found, with its length.
use Rattle.std.specs.Prelude.{ℕ, Result, Ok, Err}
use Rattle.isa.specs.Parts.{parts_of}
use Rattle.isa.specs.Answer.{Decoded}
use Rattle.isa.specs.declared.parts.Parts.{Parts}
use Rattle.isa.specs.declared.answer.Refusal.{Refusal}

abbrev pub parts_decoded : Decoded → Result (Parts × ℕ) Refusal
parts_decoded (Ok (i, n)) = Ok (parts_of i, n)
parts_decoded (Err r) = Err r
