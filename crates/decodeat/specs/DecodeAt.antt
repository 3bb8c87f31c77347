-- Decoding at an offset, reedtassel_decode of docs/c-interface.md: what it returns and leaves. A decoded instruction crosses in its byte
-- form, 48 bytes. Refusal 1 is for an offset above the code length, and for a buffer that is too short for a byte form that is to be
-- written; where decoding refuses, nothing is.
use Rattle.std.specs.Prelude.{ℕ, ◌≡◌, cond, List, ◌++◌, leb, ℤ, length, take, drop, Some, Ok, Err}
use Rattle.isa.specs.Decode.{decode_of}
use Rattle.isa.specs.Refusal.{refusal}
use Rattle.isa.specs.Answer.{Decoded, Encoded}
use Rattle.isa.specs.declared.instruction.Instruction.{Instruction}
use Rattle.form.specs.Form.{form_of, spelled_of}
use Rattle.answers.specs.Returned.{decoded_by}

-- the number of bytes of a byte form
abbrev pub form_length : ℕ
form_length = 48

-- what was decoded, where there is room for its byte form
abbrev pub with_room : Decoded → ℕ → Decoded
with_room (Ok (i, n)) room = cond (leb form_length room) (Ok (i, n)) (Err (refusal 1))
with_room (Err r) room = Err r

unfoldable pub decoded_at : List ℕ → ℕ → List ℕ → Decoded
decoded_at code offset instruction =
    cond (leb offset (length code))
    (with_room (decode_of (drop offset code)) (length instruction))
    (Err (refusal 1))

-- the length of what was decoded
abbrev pub length_decoded : Decoded → Encoded
length_decoded (Ok (i, n)) = Ok n
length_decoded (Err r) = Err r

-- the byte form at the start of the buffer; refused, the buffer is untouched
abbrev pub form_left : Decoded → List ℕ → List ℕ
form_left (Ok (i, n)) instruction = form_of i ++ drop form_length instruction
form_left (Err r) instruction = instruction

-- as the length, or the refusal
pub record DecodesInto (code : List ℕ) (offset : ℕ) (instruction : List ℕ) (result : Encoded) (left : List ℕ) : Type 0 where
  pub returns : result ≡ length_decoded (decoded_at code offset instruction)
  pub leaves : left ≡ form_left (decoded_at code offset instruction) instruction

-- as a number, below 0 for a refusal
pub record DecodesAt (code : List ℕ) (offset : ℕ) (instruction : List ℕ) (returned : ℤ) (left : List ℕ) : Type 0 where
  pub returns : returned ≡ decoded_by (decoded_at code offset instruction)
  pub leaves : left ≡ form_left (decoded_at code offset instruction) instruction
  -- what was written, read back, is the instruction
  pub spells : (i : Instruction) (n : ℕ) → decoded_at code offset instruction ≡ Ok (i, n)
      → spelled_of (take form_length left) ≡ Some i
