-- What a run promises.
use Rattle.std.specs.Prelude.{ℕ, ◌≡◌, List}
use Rattle.machine.specs.Run.{Call, run_of, answer_of, registers_left, marks_left, records_left}
use Rattle.machine.specs.declared.answer.Answer.{Answer}
use Rattle.threads.specs.Visit.{ByThemselves}

abbrev pub call_of : List ℕ → List ℕ → List ℕ → List ℕ → List ℕ → ℕ → ℕ → ℕ → List ℕ → Call
call_of code registers marks uniforms specials start mask budget records =
    record {
      code = code;
      registers = registers;
      marks = marks;
      uniforms = uniforms;
      specials = specials;
      start = start;
      mask = mask;
      budget = budget;
      records = records;
    }

-- the answer, the registers, the marks and the whole record room are the definition's, and the threads by themselves, in every order of
-- their visits, come to the same registers, marks and mask
pub record Ran (c : Call) (answer : Answer) (registers marks records : List ℕ) : Type 0 where
  pub answers : answer ≡ answer_of (run_of c)
  pub leaves : registers ≡ registers_left c
  pub marks_are_left : marks ≡ marks_left c
  pub writes : records ≡ records_left c
  pub threads : ByThemselves c registers marks answer.mask
