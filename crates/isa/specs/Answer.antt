-- What finding, reading, decoding and encoding answer: the place of a diagram in the list, counted from 0, with the length of the
-- instruction in bytes; an instruction, where the bits have a meaning; an instruction with its length; a number of bytes written. Or the
-- refusal.
use Rattle.std.specs.Prelude.{ℕ, Option, Result}
use Rattle.isa.specs.declared.answer.Refusal.{Refusal}
use Rattle.isa.specs.declared.instruction.Instruction.{Instruction}

abbrev pub Find : Type 0
Find = Result (ℕ × ℕ) Refusal

abbrev pub Reading : Type 0
Reading = Option Instruction

abbrev pub Decoded : Type 0
Decoded = Result (Instruction × ℕ) Refusal

abbrev pub Encoded : Type 0
Encoded = Result ℕ Refusal
