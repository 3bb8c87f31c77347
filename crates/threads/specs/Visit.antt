-- The threads by themselves: visits of one thread each, the orders of the visits of a run, and what they do to the registers, the marks
-- and the mask. Follows "The threads by themselves" of the statement of what to build, and the change request on discard: the machine is
-- fed the arguments of the run call and an order, and nothing from the records.
use Rattle.std.specs.Prelude.{◌≡◌, Bool, cond, List, [], ◌∷◌, map, ℕ, suc, ◌-◌, ◌≤◌, ◌<◌, eqb, length, get_or}
use Rattle.isa.specs.declared.instruction.Instruction.{Instruction}
use Rattle.machine.specs.Lanes.{active_in, pack}
use Rattle.machine.specs.Words.{Tables, value_of, store_of}
use Rattle.machine.specs.Meaning.{Meaning, writes, masks, jumps, meaning_of, both}
use Rattle.machine.specs.State.{Threads, threads_at}
use Rattle.machine.specs.Marks.{each_mark, mark_after}
use Rattle.machine.specs.Step.{Step, write_thread, next_of, r0l, own_r0l}
use Rattle.machine.specs.Run.{Call, run_of, tables_of}
use Rattle.machine.specs.declared.input.Input.{Input}

-- a thread, 0 to 31, with a step number, from 1 to the steps of the run
pub record Visit : Type 0 where
  pub thread : ℕ
  pub step : ℕ

-- ---- one visit

-- the mask with bit t at b
unfoldable pub set_bit : ℕ → ℕ → Bool → ℕ
set_bit mask t b = pack 32 (λ u. cond (eqb u t) b (active_in mask u))

-- what thread t reads
abbrev pub read_by : ℕ → Tables → Threads → Input → ℕ
read_by t tables s x = value_of tables s.registers x t

-- thread t's marks, made anew as those of a step; the others' stay
unfoldable pub visit_marks : Meaning → ℕ → ℕ → List ℕ → List ℕ
visit_marks m mask t marks = each_mark (λ h u byte. cond (eqb u t) (mark_after m mask h u byte) byte) marks

-- Data: if its mask bit is set, the thread reads all its sources, then writes its result. Mask instruction: whatever its bit, it reads
-- its sources, then works on its r0l, then on its bit. Either then marks the thread's halves that a source discards, whatever its bit, and
-- clears those that it has written. Jump: nothing.
unfoldable pub visit_thread : Meaning → Tables → ℕ → Threads → Threads
visit_thread (writes d a b c result) tables t s =
    let read = read_by t tables s in
    threads_at (write_thread d result s.mask t (read a) (read b) (read c) s.registers) (visit_marks (writes d a b c result) s.mask t s.marks) s.mask
visit_thread (masks compares a b result) tables t s =
    let read = read_by t tables s in
    let next = next_of result (read a) (read b) (read own_r0l) in
    threads_at (store_of r0l t next s.registers) (visit_marks (masks compares a b result) s.mask t s.marks) (set_bit s.mask t (eqb next 0))
visit_thread (jumps any offset) tables t s = s

-- the instructions that the run steps; a refused one is not among them
abbrev pub instructions_of : List Step → List Instruction
instructions_of = map (λ (step : Step). step.instruction)

-- the one stepped under number k, from 1; without such a step a jump, which does nothing
abbrev pub numbered : List Instruction → ℕ → Instruction
numbered instructions k = get_or instructions (k - 1) (Instruction.JmpExecAny 0)

-- visits one after another
unfoldable pub perform : Call → List Visit → Threads → Threads
perform c [] s = s
perform c (v ∷ vs) s =
    let i = numbered (instructions_of (run_of c).steps) v.step in
    perform c vs (visit_thread (meaning_of i) (tables_of c) v.thread s)

-- ---- orders

abbrev pub All : (Visit → Type 0) → List Visit → Type 0
All P [] = Unit {0}
All P (v ∷ vs) = P v × All P vs

-- how often a visit stands in a list
unfoldable pub count : Visit → List Visit → ℕ
count v [] = 0
count v (u ∷ us) = cond (both (eqb u.thread v.thread) (eqb u.step v.step)) (suc (count v us)) (count v us)

-- a visit of a run of n steps
abbrev pub IsVisit : ℕ → Visit → Type 0
IsVisit n v = (v.thread < 32) × (1 ≤ v.step) × (v.step ≤ n)

-- each thread's step numbers rise
abbrev pub Rising : List Visit → Type 0
Rising [] = Unit {0}
Rising (v ∷ vs) = All (λ u. u.thread ≡ v.thread → v.step < u.step) vs × Rising vs

-- an order of the visits of a run of n steps holds visits only, every visit once, and each thread's step numbers rise in it
pub record Order (n : ℕ) (order : List Visit) : Type 0 where
  pub only : All (IsVisit n) order
  pub once : (v : Visit) → IsVisit n v → count v order ≡ 1
  pub rising : Rising order

-- ---- the claim

-- after every order, all register words, all marks and the mask are these
abbrev pub ByThemselves : Call → List ℕ → List ℕ → ℕ → Type 0
ByThemselves c registers marks mask =
    (order : List Visit) → Order (length (run_of c).steps) order
    → perform c order (threads_at c.registers c.marks c.mask) ≡ threads_at registers marks mask
