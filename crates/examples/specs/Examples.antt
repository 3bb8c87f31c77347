-- The bench examples marked (P) in the statement of what to build, in its order: one list. Each is a run with its bytes, what the bytes
-- decode to, and what the run answers and leaves; what decodes also encodes to its own bytes. The marks are lent clear, and no example
-- discards, so that they stay so.
use Rattle.std.specs.Prelude.{cond, List, [], ◌∷◌, ◌++◌, ℕ, zero, suc, ◌+◌, ◌*◌, ◌/◌, ◌%◌, eqb, replicate, drop, Ok, Err}
use Rattle.std.proofs.Math.Option.{Option, none, some}
use Rattle.isa.specs.Refusal.{refusal}
use Rattle.isa.specs.Decode.{decode_of}
use Rattle.isa.specs.declared.operand.Destination.{Destination}
use Rattle.isa.specs.declared.operand.Source.{Source}
use Rattle.isa.specs.declared.operand.Hint.{Hint}
use Rattle.isa.specs.declared.operand.Dst.{Dst}
use Rattle.isa.specs.declared.operand.Src.{Src}
use Rattle.isa.specs.declared.instruction.Shift.{Shift}
use Rattle.isa.specs.declared.instruction.Instruction.{Instruction}
use Rattle.isa.specs.Answer.{Decoded}
use Rattle.isa.specs.Answer.{Encoded}
use Rattle.encode.specs.Encode.{encoded_of, encoding_left}
use Rattle.machine.specs.Run.{Call, run_of, answer_of, registers_left, marks_left, records_left}
use Rattle.machine.specs.declared.answer.Ending.{Ending}
use Rattle.machine.specs.declared.answer.Answer.{Answer}

-- what encoding answers, and what it leaves of the buffer
pub record Written : Type 0 where
  pub answer : Encoded
  pub buffer : List ℕ

-- what the bytes decode to, what that encodes to, and what the run answers and leaves
pub record Outcome : Type 0 where
  pub decoded : Decoded
  pub encoded : Option Written
  pub answer : Answer
  pub registers : List ℕ
  pub marks : List ℕ
  pub records : List ℕ

pub record Example : Type 0 where
  pub call : Call
  pub outcome : Outcome

-- ---- by the definitions

-- a buffer of eight bytes, none of them zero
abbrev buffer : List ℕ
buffer = replicate 8 0xFF

abbrev encodes : Decoded → Option Written
encodes (Ok (i, n)) = some (record { answer = encoded_of i buffer; buffer = encoding_left i buffer })
encodes (Err r) = none

-- what the definitions say of a call and of the instruction at the start of its code
abbrev pub outcome_of : Call → Outcome
outcome_of c =
    record {
      decoded = decode_of c.code;
      encoded = encodes (decode_of c.code);
      answer = answer_of (run_of c);
      registers = registers_left c;
      marks = marks_left c;
      records = records_left c;
    }

-- ---- by the statement of what to build

-- the example's own bytes, and the rest of the buffer as it was
abbrev itself : Decoded → List ℕ → Option Written
itself (Ok (i, n)) code = some (record { answer = Ok n; buffer = code ++ drop n buffer })
itself (Err r) code = none

-- f of the register and the thread of word i, and of the n - 1 words after it
abbrev words_from : ℕ → ℕ → (ℕ → ℕ → ℕ) → List ℕ
words_from zero i f = []
words_from (suc n) i f = f (i / 32) (i % 32) ∷ words_from n (i + 1) f

-- n registers, or special registers, of 32 words each
abbrev words : ℕ → (ℕ → ℕ → ℕ) → List ℕ
words n f = words_from (32 * n) 0 f

-- words that tell register and thread, and have a high half that is not zero
abbrev any : ℕ → ℕ → ℕ
any r t = 0xABCD0000 + 256 * r + t

-- marks of n registers
abbrev clear : ℕ → List ℕ
clear n = replicate (64 * n) 0

abbrev room : ℕ → List ℕ
room n = replicate n 0xEE

-- the code, run from 0 on n registers f, with k special registers, a mask, a budget and a record room
abbrev calls : List ℕ → ℕ → (ℕ → ℕ → ℕ) → ℕ → ℕ → ℕ → ℕ → Call
calls code n f k mask budget bytes =
    record {
      code = code;
      registers = words n f;
      marks = clear n;
      uniforms = replicate 256 0;
      specials = words k any;
      start = 0;
      mask = mask;
      budget = budget;
      records = room bytes;
    }

abbrev answers : Ending → ℕ → ℕ → ℕ → Answer
answers ending steps address mask = record { ending = ending; steps = steps; address = address; mask = mask }

-- a mask with its bytes, as a record has them
pub record Mask : Type 0 where
  pub value : ℕ
  pub spelled : List ℕ

abbrev all_active : Mask
all_active = record { value = 0xFFFFFFFF; spelled = 0xFF ∷ 0xFF ∷ 0xFF ∷ 0xFF ∷ [] }

-- one step to the end of the code: its class, the mask before and after, and the registers after it
abbrev one_step : List ℕ → Instruction → ℕ → ℕ → Mask → Mask → ℕ → (ℕ → ℕ → ℕ) → ℕ → (ℕ → ℕ → ℕ) → Example
one_step code i bytes class before after n f k g =
    record {
      call = calls code n f k before.value 1 32;
      outcome = record {
        decoded = Ok (i, bytes);
        encoded = itself (Ok (i, bytes)) code;
        answer = answers Ending.Finished 1 bytes after.value;
        registers = words n g;
        marks = clear n;
        records = (0 ∷ 0 ∷ bytes ∷ class ∷ []) ++ before.spelled ++ after.spelled ++ (0 ∷ 0 ∷ 0 ∷ 0 ∷ []) ++ room 16;
      };
    }

-- a data instruction, all active
abbrev data_step : List ℕ → Instruction → ℕ → ℕ → (ℕ → ℕ → ℕ) → ℕ → (ℕ → ℕ → ℕ) → Example
data_step code i bytes n f k g = one_step code i bytes 1 all_active all_active n f k g

-- no step: finished or refused at once
abbrev stays : List ℕ → Decoded → ℕ → ℕ → ℕ → ℕ → Ending → Example
stays code d n k budget bytes ending =
    record {
      call = calls code n any k all_active.value budget bytes;
      outcome = record {
        decoded = d;
        encoded = itself d code;
        answer = answers ending 0 0 all_active.value;
        registers = words n any;
        marks = clear n;
        records = room bytes;
      };
    }

abbrev refuses : List ℕ → Decoded → ℕ → ℕ → ℕ → Example
refuses code d n k number = stays code d n k 1 32 (Ending.Refused (refusal number))

-- ---- instructions and registers

abbrev into : Destination → Dst
into d = record { destination = d; hint = Hint.None }

abbrev of : Source → Src
of s = record { source = s; hint = Hint.None }

-- of half h, with L and the "?" bits
abbrev mov16 : ℕ → ℕ → ℕ → Instruction
mov16 h l kept = Instruction.Mov16 (into (Destination.Half h)) 0x1234 l kept

abbrev mov32 : Instruction
mov32 = Instruction.Mov32 (into (Destination.Register 1)) 0x12345678 0 0

-- r2 from special register k
abbrev get_sr : ℕ → Instruction
get_sr k = Instruction.GetSr (into (Destination.Register 2)) k 0

-- r1 from r2, shifted by an immediate
abbrev by : ℕ → Shift
by n =
    record {
      operands = record { d = into (Destination.Register 1); a = of (Source.Register 2); b = of (Source.Immediate n) };
      kept = 0;
    }

-- register r set to v in every thread
abbrev with : ℕ → ℕ → (ℕ → ℕ → ℕ) → ℕ → ℕ → ℕ
with r v f q t = cond (eqb q r) v (f q t)

-- its low half
abbrev with_low : ℕ → ℕ → ℕ → ℕ → ℕ
with_low r v q t = cond (eqb q r) (0xABCD0000 + v) (any q t)

-- register 2 set to special register k
abbrev with_special : ℕ → ℕ → ℕ → ℕ
with_special k q t = cond (eqb q 2) (any k t) (any q t)

-- a shift of r2 = 80000000 hex into r1, which gives v
abbrev shifts : ℕ → ℕ → ℕ → Instruction → ℕ → Example
shifts b3 b4 b7 i v =
    data_step (0x2E ∷ 0x85 ∷ 0x44 ∷ b3 ∷ b4 ∷ 0x00 ∷ 0x00 ∷ b7 ∷ []) i 8 3 (with 2 0x80000000 any) 0 (with 1 v (with 2 0x80000000 any))

-- r0l 3 in thread 31 and 0 elsewhere; the high half tells the thread
abbrev nested : ℕ → ℕ → ℕ
nested q t = 65536 * t + cond (eqb t 31) 3 0

-- any mask, and the one that pop_exec 0 makes of it
abbrev any_mask : ℕ → Mask
any_mask m = record { value = m; spelled = m % 256 ∷ m / 256 % 256 ∷ m / 256 / 256 % 256 ∷ m / 256 / 256 / 256 % 256 ∷ [] }

abbrev but31 : Mask
but31 = record { value = 0x7FFFFFFF; spelled = 0xFF ∷ 0xFF ∷ 0xFF ∷ 0x7F ∷ [] }

-- ---- the list

-- `mask` is the mask before pop_exec 0, "whatever it was"
abbrev pub examples : ℕ → List Example
examples mask =
    data_step (0x62 ∷ 0x04 ∷ 0x34 ∷ 0x12 ∷ []) (mov16 2 0 0) 4 2 any 0 (with_low 1 0x1234)
    ∷ data_step (0x62 ∷ 0x05 ∷ 0x78 ∷ 0x56 ∷ 0x34 ∷ 0x12 ∷ []) mov32 6 2 any 0 (with 1 0x12345678 any)
    ∷ data_step (0x62 ∷ 0x84 ∷ 0x34 ∷ 0x12 ∷ 0x00 ∷ 0x00 ∷ []) (mov16 2 1 0) 6 2 any 0 (with_low 1 0x1234)
    ∷ data_step (0x62 ∷ 0x84 ∷ 0x34 ∷ 0x12 ∷ 0xFF ∷ 0xCF ∷ []) (mov16 2 1 0xCFFF00000000) 6 2 any 0 (with_low 1 0x1234)
    ∷ data_step (0x62 ∷ 0x84 ∷ 0x34 ∷ 0x12 ∷ 0x00 ∷ 0x10 ∷ []) (mov16 66 1 0) 6 34 any 0 (with_low 33 0x1234)
    ∷ refuses (0x62 ∷ 0x84 ∷ 0x34 ∷ 0x12 ∷ 0x00 ∷ 0x10 ∷ []) (Ok (mov16 66 1 0, 6)) 33 0 5
    ∷ refuses (0x62 ∷ 0x84 ∷ 0x34 ∷ 0x12 ∷ []) (Err (refusal 2)) 2 0 2
    ∷ refuses (0x62 ∷ 0x04 ∷ 0x34 ∷ []) (Err (refusal 2)) 2 0 2
    ∷ refuses (0x62 ∷ []) (Err (refusal 2)) 2 0 2
    ∷ data_step (0x72 ∷ 0x09 ∷ 0x05 ∷ 0x00 ∷ []) (get_sr 5) 4 3 any 6 (with_special 5)
    ∷ refuses (0x72 ∷ 0x09 ∷ 0x05 ∷ 0x00 ∷ []) (Ok (get_sr 5, 4)) 3 5 6
    ∷ data_step (0x72 ∷ 0x09 ∷ 0x05 ∷ 0x04 ∷ []) (get_sr 69) 4 3 any 70 (with_special 69)
    ∷ refuses (0x72 ∷ 0x09 ∷ 0x05 ∷ 0x04 ∷ []) (Ok (get_sr 69, 4)) 3 69 6
    -- asr by 31, 127 and 128
    ∷ shifts 0xF6 0x01 0x00 (Instruction.Asr (by 31)) 0xFFFFFFFF
    ∷ shifts 0xF6 0x03 0x01 (Instruction.Asr (by 127)) 0xFFFFFFFF
    ∷ shifts 0x06 0x00 0x02 (Instruction.Asr (by 128)) 0x80000000
    -- asrh by 0, 31, 32, 33 and 127
    ∷ shifts 0x0E 0x00 0x00 (Instruction.Asrh (by 0)) 0
    ∷ shifts 0xFE 0x01 0x00 (Instruction.Asrh (by 31)) 0
    ∷ shifts 0x0E 0x02 0x00 (Instruction.Asrh (by 32)) 0x80000000
    ∷ shifts 0x1E 0x02 0x00 (Instruction.Asrh (by 33)) 0xC0000000
    ∷ shifts 0xFE 0x03 0x01 (Instruction.Asrh (by 127)) 0xFFFFFFFF
    ∷ one_step (0x52 ∷ 0x06 ∷ 0x00 ∷ 0x00 ∷ 0x00 ∷ 0x00 ∷ []) (Instruction.PopExec Hint.None 0 0) 6 2 (any_mask mask) but31 1 nested 0 nested
    -- empty code; budgets 0 and 4,097, with room for as many records
    ∷ stays [] (Err (refusal 2)) 1 0 1 32 Ending.Finished
    ∷ stays (0x62 ∷ 0x04 ∷ 0x34 ∷ 0x12 ∷ []) (Ok (mov16 2 0 0, 4)) 2 0 0 32 (Ending.Refused (refusal 1))
    ∷ stays (0x62 ∷ 0x04 ∷ 0x34 ∷ 0x12 ∷ []) (Ok (mov16 2 0 0, 4)) 2 0 4097 65552 (Ending.Refused (refusal 1))
    ∷ []
