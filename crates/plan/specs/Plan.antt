-- A plan, and of which code it is one: what decoding the bytes at its own address answers.
use Rattle.std.specs.Prelude.{ℕ, ◌≡◌, Bool, false, List, drop, Result, Ok, Err}
use Rattle.isa.specs.Decode.{decode_of}
use Rattle.isa.specs.Answer.{Decoded}
use Rattle.isa.specs.declared.answer.Refusal.{Refusal}
use Rattle.isa.specs.declared.instruction.Instruction.{Instruction}
use Rattle.machine.specs.Step.{registers_reach, specials_reach}
use Rattle.operations.specs.Action.{meaning_by}
use Rattle.operations.specs.declared.action.Action.{Action}
use Rattle.going.specs.Discards.{discarding}
use Rattle.action.specs.Acts.{Acts}
use Rattle.plan.specs.declared.Plan.{Plan}
use Rattle.plan.specs.declared.Task.{Task}

-- the task of an action
abbrev pub task_with : Action → ℕ → Task
task_with action bytes = record {
  bytes = bytes;
  registers = registers_reach (meaning_by action);
  specials = specials_reach (meaning_by action);
  discards = discarding action;
  action = action;
}

-- the plan of a refusal
abbrev pub refused_with : Refusal → ℕ → Plan
refused_with r address = record { address = address; task = Err r }

abbrev pub discards_by : Result Task Refusal → Bool
discards_by (Ok t) = t.discards
discards_by (Err r) = false

-- a task that does what an instruction of so many bytes means
pub record Does (t : Task) (i : Instruction) (bytes : ℕ) : Type 0 where
  pub acts : Acts t.action i
  pub is : t ≡ task_with t.action bytes

-- what decoding answers is what the plan says: the task of the instruction, or the refusal
abbrev pub Says : Decoded → Result Task Refusal → Type 0
Says (Ok (i, bytes)) (Ok t) = Does t i bytes
Says (Ok (i, bytes)) (Err r) = ⊥
Says (Err r) (Ok t) = ⊥
Says (Err r) (Err said) = said ≡ r

-- the plan of an address, where decoding answers d
pub record Planned (d : Decoded) (address : ℕ) (p : Plan) : Type 0 where
  pub here : p.address ≡ address
  pub says : Says d p.task

-- a plan is the plan of the code at its own address
abbrev pub PlanOf : List ℕ → Plan → Type 0
PlanOf code p = Says (decode_of (drop p.address code)) p.task
