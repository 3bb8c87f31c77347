-- Encoding: what it answers and what it leaves in the lent buffer. Refusals 8 and 9 of the table "Refusal numbers" of the statement
-- of what to build, 8 before 9; refused, the buffer is untouched.
use Rattle.std.specs.Prelude.{ℕ, Bool, false, cond, ◌&&◌, List, ◌++◌, eqb, leb, length, drop, Option, Some, None, Ok, Err}
use Rattle.bits.specs.Word.{bytes_of}
use Rattle.isa.specs.Decode.{decode_of}
use Rattle.isa.specs.Refusal.{refusal}
use Rattle.isa.specs.Answer.{Decoded}
use Rattle.isa.specs.Answer.{Encoded}
use Rattle.isa.specs.declared.instruction.Instruction.{Instruction}
use Rattle.isa.specs.Parts.{parts_of, length_for, same}
use Rattle.encoding.specs.Write.{word_for}
use Rattle.form.specs.Form.{spelled_of}
use Rattle.answers.specs.Encoded.{answer_by}

abbrev pub length_of : Instruction → ℕ
length_of i = length_for (parts_of i)

-- the bytes that an instruction's word says, as many as it is long
abbrev pub bytes_for : Instruction → List ℕ
bytes_for i = bytes_of (length_of i) (word_for i)

-- what was decoded is the instruction i of n bytes
abbrev pub is_found : Decoded → Instruction → ℕ → Bool
is_found (Ok (j, m)) i n = eqb m n && same j i
is_found (Err r) i n = false

-- an instruction has an encoding where its bytes, decoded alone, give it back with its length
unfoldable pub accepts : Instruction → Bool
accepts i = is_found (decode_of (bytes_for i)) i (length_of i)

unfoldable pub encoded_of : Instruction → List ℕ → Encoded
encoded_of i out = answer_by (accepts i) (length_of i) (length out)

-- the encoding's bytes and none after them
unfoldable pub encoding_left : Instruction → List ℕ → List ℕ
encoding_left i out = cond (accepts i && leb (length_of i) (length out)) (bytes_for i ++ drop (length_of i) out) out

-- ---- from the byte form: bytes that spell no instruction get 8

abbrev pub encoded_spelled : Option Instruction → List ℕ → Encoded
encoded_spelled (Some i) out = encoded_of i out
encoded_spelled None out = Err (refusal 8)

abbrev pub left_spelled : Option Instruction → List ℕ → List ℕ
left_spelled (Some i) out = encoding_left i out
left_spelled None out = out

abbrev pub encoded_from : List ℕ → List ℕ → Encoded
encoded_from form out = encoded_spelled (spelled_of form) out

abbrev pub left_from : List ℕ → List ℕ → List ℕ
left_from form out = left_spelled (spelled_of form) out
