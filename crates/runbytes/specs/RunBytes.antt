-- A run whose registers, uniforms and special registers are lent as little-endian bytes, as docs/c-interface.md describes it; marks are
-- bytes as they are. Refusal 1
-- is also for a length that is no multiple of four, and for an answer that has no room; refused with 1, for whatever reason, nothing is
-- written. A call that is taken ends and leaves what the run on the words that the bytes spell does, with the answer as 24 bytes, and the
-- threads by themselves come to that.
use Rattle.std.specs.Prelude.{ℕ, ◌≡◌, Bool, true, cond, List, ◌++◌, length, take, drop}
use Rattle.bits.specs.Word.{le}
use Rattle.isa.specs.Refusal.{refusal}
use Rattle.machine.specs.Meaning.{both}
use Rattle.machine.specs.Run.{Call, arranged, run_of, answer_of, registers_left, marks_left, records_left}
use Rattle.machine.specs.declared.answer.Ending.{Ending}
use Rattle.answers.specs.Run.{answer_bytes}
use Rattle.sizes.specs.Lent.{answer_length, spelled_by}
use Rattle.threads.specs.Visit.{ByThemselves}
use Rattle.words.specs.Spelling.{words_of, bytes_for}

-- what is lent to the exported run: all lists are bytes
pub record Lent : Type 0 where
  pub code : List ℕ
  pub registers : List ℕ
  pub marks : List ℕ
  pub uniforms : List ℕ
  pub specials : List ℕ
  pub start : ℕ
  pub mask : ℕ
  pub budget : ℕ
  pub records : List ℕ
  pub answer : List ℕ

abbrev pub lent_of : List ℕ → List ℕ → List ℕ → List ℕ → List ℕ → ℕ → ℕ → ℕ → List ℕ → List ℕ → Lent
lent_of code registers marks uniforms specials start mask budget records answer =
    record {
      code = code;
      registers = registers;
      marks = marks;
      uniforms = uniforms;
      specials = specials;
      start = start;
      mask = mask;
      budget = budget;
      records = records;
      answer = answer;
    }

-- the call of the run on the words that the bytes spell
abbrev pub spelled_call : Lent → Call
spelled_call l =
    record {
      code = l.code;
      registers = words_of l.registers;
      marks = l.marks;
      uniforms = words_of l.uniforms;
      specials = words_of l.specials;
      start = l.start;
      mask = l.mask;
      budget = l.budget;
      records = l.records;
    }

-- the bytes spell words, and there is room for the answer
unfoldable pub spelled : Lent → Bool
spelled l = spelled_by (length l.registers) (length l.uniforms) (length l.specials) (length l.answer)

-- ---- what is returned and left

-- the call is taken: otherwise it is refused with 1, and nothing is written
abbrev pub call_taken : Lent → Bool
call_taken l = both (spelled l) (arranged (spelled_call l))

unfoldable pub ending_of : Lent → Ending
ending_of l = cond (call_taken l) (answer_of (run_of (spelled_call l))).ending (Ending.Refused (refusal 1))

-- what is left of what was lent
pub record Leaves (l : Lent) (registers marks records answer : List ℕ) : Type 0 where
  pub registers_are_left : registers ≡ cond (call_taken l) (bytes_for (registers_left (spelled_call l))) l.registers
  pub marks_are_left : marks ≡ cond (call_taken l) (marks_left (spelled_call l)) l.marks
  pub records_are_left : records ≡ cond (call_taken l) (records_left (spelled_call l)) l.records
  pub answer_left : answer ≡ cond (call_taken l) (answer_bytes (answer_of (run_of (spelled_call l))) ++ drop answer_length l.answer) l.answer

-- the mask in the bytes of an answer
abbrev pub mask_in : List ℕ → ℕ
mask_in answer = le (take 4 (drop 12 answer))

-- where the call is taken, the threads by themselves, in every order of their visits, come to the words that the registers' bytes spell,
-- to the marks and to the mask in the answer
abbrev pub ThreadsAlone : Lent → List ℕ → List ℕ → List ℕ → Type 0
ThreadsAlone l registers marks answer = call_taken l ≡ true → ByThemselves (spelled_call l) (words_of registers) marks (mask_in answer)

pub record RanOnBytes (l : Lent) (ending : Ending) (registers marks records answer : List ℕ) : Type 0 where
  pub ends : ending ≡ ending_of l
  pub leaves : Leaves l registers marks records answer
  pub threads : ThreadsAlone l registers marks answer
