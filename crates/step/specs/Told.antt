-- What the code tells of a step: all of it but the instruction, which is the definition's; and what it leaves in the rows it worked in.
use Rattle.std.specs.Prelude.{ℕ, ◌*◌, ◌^◌, ◌<◌, ◌≡◌, Bool, cond, List, leb, length, Result, Ok, Err}
use Rattle.isa.specs.Refusal.{refusal}
use Rattle.isa.specs.declared.answer.Refusal.{Refusal}
use Rattle.machine.specs.Words.{Tables}
use Rattle.machine.specs.Meaning.{Meaning}
use Rattle.machine.specs.State.{Threads, State, threads_at, state_at}
use Rattle.machine.specs.Marks.{reads_marked}
use Rattle.machine.specs.Step.{Going, to, nowhere, Stepped, accepted, refused, registers_reach, specials_reach, going_of, threads_after}
use Rattle.operations.specs.Action.{meaning_by, FittingBy}
use Rattle.effect.specs.Rows.{rows_after}
use Rattle.effect.specs.declared.Rows.{Rows}
use Rattle.jumps.specs.AsGoing.{class_number}
use Rattle.marks.specs.Settled.{QuietIf}
use Rattle.plan.specs.declared.Plan.{Plan}
use Rattle.plan.specs.declared.Task.{Task}
use Rattle.step.specs.declared.Outcome.{Outcome}

-- the length of the instruction, the class and the state after an accepted step; of a refused one the registers and the marks, as they
-- were
pub data Told : Type 0 where
  goes : ℕ → ℕ → State → Told
  stops : Refusal → List ℕ → List ℕ → Told

abbrev pub told : Result Outcome Refusal → List ℕ → List ℕ → Told
told (Ok outcome) registers marks = goes outcome.bytes (class_number outcome.class) (state_at (threads_at registers marks outcome.mask) outcome.address)
told (Err r) registers marks = stops r registers marks

-- a step from these threads
abbrev pub told_by : Stepped → Threads → Told
told_by (accepted step) s = goes step.bytes step.class step.after
told_by (refused r) s = stops r s.registers s.marks

abbrev pub gone_to : Going → ℕ → Threads → Threads → Told
gone_to (to address class) bytes after s = goes bytes class (state_at after address)
gone_to (nowhere r) bytes after s = stops r s.registers s.marks

-- an instruction that means m, of so many bytes, in code of some length
unfoldable pub taken_by : Meaning → ℕ → ℕ → Tables → State → Told
taken_by m bytes size tables s =
    let registers = s.threads.registers in
    let marks = s.threads.marks in
    cond (leb (32 * registers_reach m) (length registers))
    (cond (leb (32 * specials_reach m) (length tables.specials))
    (cond (reads_marked m s.threads)
    (stops (refusal 10) registers marks)
    (gone_to (going_of m size bytes s.address s.threads.mask) bytes (threads_after m tables s.threads) s.threads))
    (stops (refusal 6) registers marks))
    (stops (refusal 5) registers marks)

-- ---- plans

-- a task that can be done
pub record Ready (t : Task) : Type 0 where
  pub fitting : FittingBy t.action
  pub registers : t.registers ≡ registers_reach (meaning_by t.action)
  pub specials : t.specials ≡ specials_reach (meaning_by t.action)
  pub bytes : t.bytes < 2 ^ 32

-- a refused step leaves the rows as they were
abbrev pub rows_left : Result Outcome Refusal → Result Task Refusal → Tables → List ℕ → Rows → Rows
rows_left (Ok outcome) (Ok task) tables registers r = rows_after task.action tables registers r
rows_left (Ok outcome) (Err refusal) tables registers r = r
rows_left (Err refusal) task tables registers r = r

-- a plan with a task is quiet
abbrev pub QuietPlan : Bool → Plan → List ℕ → Type 0
QuietPlan quiet p marks = (t : Task) → p.task ≡ Ok t → QuietIf quiet (meaning_by t.action) marks
