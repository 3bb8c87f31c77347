-- One step of the 32 threads: which instructions are refused, what the others do to registers, marks, mask and address, and their class.
-- Follows "One step" and "Refusal numbers" of the statement of what to build, and the change request on discard.
use Rattle.std.specs.Prelude.{ℕ, ◌+◌, ◌*◌, ◌%◌, max, Bool, cond, not, List, [], ◌∷◌, eqb, leb, length, get_or, drop, ℤ, pos, negsuc, ◌+ℤ◌, Ok, Err}
use Rattle.isa.specs.Decode.{decode_of}
use Rattle.isa.specs.Refusal.{refusal}
use Rattle.isa.specs.declared.answer.Refusal.{Refusal}
use Rattle.isa.specs.Answer.{Decoded}
use Rattle.isa.specs.declared.operand.Destination.{Destination}
use Rattle.isa.specs.declared.operand.Source.{Source}
use Rattle.isa.specs.declared.operand.Hint.{Hint}
use Rattle.isa.specs.declared.instruction.Instruction.{Instruction}
use Rattle.machine.specs.Integer.{modulo}
use Rattle.machine.specs.Lanes.{tab, each, active_in, pack}
use Rattle.machine.specs.Words.{Tables, value_of, store_of, destination_size, destination_reach, input_reach, special_reach}
use Rattle.machine.specs.Meaning.{Meaning, writes, masks, jumps, meaning_of, both}
use Rattle.machine.specs.State.{Threads, State, threads_at, state_at}
use Rattle.machine.specs.Marks.{reads_marked, marks_after}
use Rattle.machine.specs.declared.input.Input.{Input}

abbrev pub Result : Type 0
Result = ℕ → ℕ → ℕ → ℤ

-- ---- one thread, on the values that it has read

-- r0l
abbrev pub r0l : Destination
r0l = Destination.Half 0

-- a data instruction writes the thread only if it is active
unfoldable pub write_thread : Destination → Result → ℕ → ℕ → ℕ → ℕ → ℕ → List ℕ → List ℕ
write_thread d result mask t a b c registers =
    cond (active_in mask t) (store_of d t (modulo (result a b c) (destination_size d)) registers) registers

-- what a mask instruction makes of the thread's r0l, v: where it adds, the sum is kept modulo 65536
unfoldable pub next_of : Result → ℕ → ℕ → ℕ → ℕ
next_of result a b v = modulo (result a b v) 16

-- ---- all threads

-- all sources of all 32 threads, read before any thread is written
unfoldable pub gather_of : Tables → List ℕ → Input → Input → Input → List (List ℕ)
gather_of tables registers a b c =
    tab 32 (value_of tables registers a) ∷ tab 32 (value_of tables registers b) ∷ tab 32 (value_of tables registers c) ∷ []

-- thread t's value of source k
abbrev pub source_at : List (List ℕ) → ℕ → ℕ → ℕ
source_at sources k t = get_or (get_or sources k []) t 0

unfoldable pub write_all : Destination → Result → ℕ → List (List ℕ) → List ℕ → List ℕ
write_all d result mask sources registers =
    each 32 (λ t. write_thread d result mask t (source_at sources 0 t) (source_at sources 1 t) (source_at sources 2 t)) registers

-- r0l of thread t, active or not, after a mask instruction
unfoldable pub next_at : Result → List (List ℕ) → ℕ → ℕ
next_at result sources t = next_of result (source_at sources 0 t) (source_at sources 1 t) (source_at sources 2 t)

unfoldable pub mask_all : Result → List (List ℕ) → List ℕ → List ℕ → Threads
mask_all result sources registers marks =
    threads_at
    (each 32 (λ t. store_of r0l t (next_at result sources t)) registers)
    marks
    (pack 32 (λ t. eqb (next_at result sources t) 0))

-- r0l as a source
abbrev pub own_r0l : Input
own_r0l = Input.Operand record { source = Source.Half 0; hint = Hint.None }

unfoldable pub threads_after : Meaning → Tables → Threads → Threads
threads_after (writes d a b c result) tables s =
    threads_at
    (write_all d result s.mask (gather_of tables s.registers a b c) s.registers)
    (marks_after (writes d a b c result) s.mask s.marks)
    s.mask
threads_after (masks compares a b result) tables s =
    mask_all result (gather_of tables s.registers a b own_r0l) s.registers (marks_after (masks compares a b result) s.mask s.marks)
threads_after (jumps any offset) tables s = s

-- ---- refusals 5 and 6

-- how many registers, and how many special registers, there have to be
abbrev pub registers_reach : Meaning → ℕ
registers_reach (writes d a b c result) = max (destination_reach d) (max (input_reach a) (max (input_reach b) (input_reach c)))
registers_reach (masks compares a b result) = max 1 (max (input_reach a) (input_reach b))
registers_reach (jumps any offset) = 0

abbrev pub specials_reach : Meaning → ℕ
specials_reach (writes d a b c result) = max (special_reach a) (max (special_reach b) (special_reach c))
specials_reach (masks compares a b result) = max (special_reach a) (special_reach b)
specials_reach (jumps any offset) = 0

-- ---- where the run goes on, and the class of the step

-- the address to go on at, and the class: 1 data, 2 mask, 3 jump not taken, 4 jump taken; or the refusal
pub data Going : Type 0 where
  to : ℕ → ℕ → Going
  nowhere : Refusal → Going

-- any(exec_mask), or not any(exec_mask)
abbrev pub taken : Bool → ℕ → Bool
taken any mask = cond any (not (eqb mask 0)) (eqb mask 0)

-- a taken jump's target: even, not below 0 and not above the code length
abbrev pub landing : ℕ → ℤ → Going
landing code_length (pos target) =
    cond (both (eqb (target % 2) 0) (leb target code_length)) (to target 4) (nowhere (refusal 7))
landing code_length (negsuc below) = nowhere (refusal 7)

unfoldable pub going_of : Meaning → ℕ → ℕ → ℕ → ℕ → Going
going_of (writes d a b c result) code_length bytes address mask = to (address + bytes) 1
going_of (masks compares a b result) code_length bytes address mask = to (address + bytes) 2
going_of (jumps any offset) code_length bytes address mask =
    cond (taken any mask) (landing code_length (pos address +ℤ offset)) (to (address + bytes) 3)

-- ---- the step

-- an accepted step
pub record Step : Type 0 where
  pub instruction : Instruction
  pub bytes : ℕ
  pub class : ℕ
  pub before : State
  pub after : State

pub data Stepped : Type 0 where
  accepted : Step → Stepped
  refused : Refusal → Stepped

abbrev pub go_to : Going → Instruction → ℕ → Tables → State → Stepped
go_to (to address class) i bytes tables s =
    accepted record {
      instruction = i;
      bytes = bytes;
      class = class;
      before = s;
      after = state_at (threads_after (meaning_of i) tables s.threads) address;
    }
go_to (nowhere r) i bytes tables s = refused r

unfoldable pub step_by : Decoded → ℕ → Tables → State → Stepped
step_by (Err r) code_length tables s = refused r
step_by (Ok (i, bytes)) code_length tables s =
    cond (leb (32 * registers_reach (meaning_of i)) (length s.threads.registers))
    (cond (leb (32 * specials_reach (meaning_of i)) (length tables.specials))
    (cond (reads_marked (meaning_of i) s.threads)
    (refused (refusal 10))
    (go_to (going_of (meaning_of i) code_length bytes s.address s.threads.mask) i bytes tables s))
    (refused (refusal 6)))
    (refused (refusal 5))

unfoldable pub step_of : List ℕ → Tables → State → Stepped
step_of code tables s = step_by (decode_of (drop s.address code)) (length code) tables s
