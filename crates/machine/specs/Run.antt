-- A run: the sizes of what is lent, the steps, how it ends and what it leaves. Follows "Sizes of what is lent" and "One run" of the
-- statement of what to build, and the change request on discard.
use Rattle.std.specs.Prelude.{ℕ, zero, suc, ◌*◌, ◌%◌, Bool, cond, List, [], ◌∷◌, eqb, leb, length}
use Rattle.isa.specs.Refusal.{refusal}
use Rattle.machine.specs.Words.{Tables}
use Rattle.machine.specs.Meaning.{both}
use Rattle.machine.specs.State.{State, threads_at, state_at}
use Rattle.machine.specs.Step.{Step, Stepped, accepted, refused, step_of}
use Rattle.machine.specs.Record.{room_after}
use Rattle.machine.specs.declared.answer.Ending.{Ending}
use Rattle.machine.specs.declared.answer.Answer.{Answer}

-- the arguments of a run
pub record Call : Type 0 where
  pub code : List ℕ
  pub registers : List ℕ
  pub marks : List ℕ
  pub uniforms : List ℕ
  pub specials : List ℕ
  pub start : ℕ
  pub mask : ℕ
  pub budget : ℕ
  pub records : List ℕ

-- ---- the sizes

abbrev pub code_limit : ℕ
code_limit = 8192

abbrev pub budget_limit : ℕ
budget_limit = 4096

-- 32 x n words, n from fewest to most
abbrev pub columns : ℕ → ℕ → List ℕ → Bool
columns fewest most words =
    both (eqb (length words % 32) 0) (both (leb (32 * fewest) (length words)) (leb (length words) (32 * most)))

-- 64 x N marks, where there are 32 x N words of registers
abbrev pub marks_length : ℕ → ℕ
marks_length words = 2 * words

unfoldable pub arranged : Call → Bool
arranged c =
    both (leb (length c.code) code_limit)
    (both (columns 1 128 c.registers)
    (both (eqb (length c.marks) (marks_length (length c.registers)))
    (both (eqb (length c.uniforms) 256)
    (both (columns 0 256 c.specials)
    (both (leb 1 c.budget)
    (both (leb c.budget budget_limit)
    (both (eqb (c.start % 2) 0)
    (both (leb c.start (length c.code))
    (leb (16 * c.budget) (length c.records))))))))))

-- ---- the steps

-- the accepted steps, how the run ended and the state it left
pub record Run : Type 0 where
  pub steps : List Step
  pub ending : Ending
  pub last : State

abbrev pub ends : Ending → State → Run
ends ending s = record { steps = []; ending = ending; last = s }

-- an accepted step, and then the run from the state after it
abbrev pub after : Step → Run → Run
after step rest = record { steps = step ∷ rest.steps; ending = rest.ending; last = rest.last }

abbrev pub on_stepped : Stepped → State → (State → Run) → Run
on_stepped (accepted step) s rest = after step (rest step.after)
on_stepped (refused r) s rest = ends (Ending.Refused r) s

-- if the address equals the code length, the run is finished; otherwise if the budget is used up, it is spent; otherwise it steps
unfoldable pub run_from : List ℕ → Tables → ℕ → State → Run
run_from code tables zero s = cond (eqb s.address (length code)) (ends Ending.Finished s) (ends Ending.Spent s)
run_from code tables (suc budget) s =
    cond (eqb s.address (length code)) (ends Ending.Finished s)
    (on_stepped (step_of code tables s) s (run_from code tables budget))

abbrev pub tables_of : Call → Tables
tables_of c = record { uniforms = c.uniforms; specials = c.specials }

abbrev pub start_of : Call → State
start_of c = state_at (threads_at c.registers c.marks c.mask) c.start

unfoldable pub run_of : Call → Run
run_of c =
    cond (arranged c)
    (run_from c.code (tables_of c) c.budget (start_of c))
    (ends (Ending.Refused (refusal 1)) (start_of c))

-- ---- what the call answers and leaves

unfoldable pub answer_of : Run → Answer
answer_of r = record { ending = r.ending; steps = length r.steps; address = r.last.address; mask = r.last.threads.mask }

abbrev pub registers_left : Call → List ℕ
registers_left c = (run_of c).last.threads.registers

abbrev pub marks_left : Call → List ℕ
marks_left c = (run_of c).last.threads.marks

abbrev pub records_left : Call → List ℕ
records_left c = room_after (run_of c).steps c.records
