-- The marks: one for each register half and thread, 64 x N bytes. Which halves the threads of an instruction read, which it marks and which
-- they clear; which reads are refused; and what a step makes of every mark. Follows the change request on discard.
use Rattle.std.specs.Prelude.{ℕ, zero, suc, ◌+◌, ◌*◌, ◌/◌, ◌%◌, Bool, true, false, cond, not, List, [], ◌∷◌, ◌++◌, eqb, get_or}
use Rattle.isa.specs.declared.operand.Destination.{Destination}
use Rattle.isa.specs.declared.operand.Source.{Source}
use Rattle.isa.specs.declared.operand.Hint.{Hint}
use Rattle.machine.specs.Lanes.{active_in, any_below}
use Rattle.machine.specs.Words.{word_at, half_of}
use Rattle.machine.specs.Meaning.{Meaning, writes, masks, jumps}
use Rattle.machine.specs.State.{Threads}
use Rattle.machine.specs.declared.input.Input.{Input}

-- ---- the halves of operands: half, register and pair have one, two and four; uniforms, immediates and special registers none

-- n halves, from h on
abbrev pub halves_from : ℕ → ℕ → List ℕ
halves_from h zero = []
halves_from h (suc n) = h ∷ halves_from (suc h) n

abbrev pub destination_halves : Destination → List ℕ
destination_halves (Destination.Half h) = halves_from h 1
destination_halves (Destination.Register r) = halves_from (2 * r) 2
destination_halves (Destination.Pair r) = halves_from (2 * r) 4

abbrev pub source_halves : Source → List ℕ
source_halves (Source.Half h) = halves_from h 1
source_halves (Source.Register r) = halves_from (2 * r) 2
source_halves (Source.Pair r) = halves_from (2 * r) 4
source_halves (Source.UniformHalf h) = []
source_halves (Source.UniformRegister r) = []
source_halves (Source.UniformPair r) = []
source_halves (Source.Immediate v) = []

abbrev pub input_halves : Input → List ℕ
input_halves Input.Nothing = []
input_halves (Input.Operand a) = source_halves a.source
input_halves (Input.Special k) = []

-- those of a source with discard
abbrev pub discarded : Hint → List ℕ → List ℕ
discarded Hint.None halves = []
discarded Hint.Cache halves = []
discarded Hint.Discard halves = halves

abbrev pub input_discards : Input → List ℕ
input_discards Input.Nothing = []
input_discards (Input.Operand a) = discarded a.hint (source_halves a.source)
input_discards (Input.Special k) = []

-- ---- which halves an instruction reads, marks and clears; r0l is half 0

-- what thread t reads: in a data instruction, if it is active, its sources; in a mask instruction r0l, and A and B if it compares
unfoldable pub reads_of : Meaning → List ℕ → ℕ → ℕ → List ℕ
reads_of (writes d a b c result) registers mask t = cond (active_in mask t) (input_halves a ++ (input_halves b ++ input_halves c)) []
reads_of (masks compares a b result) registers mask t =
    0 ∷ cond (compares (half_of 0 (word_at registers 0 t))) (input_halves a ++ input_halves b) []
reads_of (jumps any offset) registers mask t = []

-- what it marks, in all threads: the halves of its sources with discard
unfoldable pub discards_of : Meaning → List ℕ
discards_of (writes d a b c result) = input_discards a ++ (input_discards b ++ input_discards c)
discards_of (masks compares a b result) = input_discards a ++ input_discards b
discards_of (jumps any offset) = []

-- what thread t clears, since it writes it
unfoldable pub clears_of : Meaning → ℕ → ℕ → List ℕ
clears_of (writes d a b c result) mask t = cond (active_in mask t) (destination_halves d) []
clears_of (masks compares a b result) mask t = 0 ∷ []
clears_of (jumps any offset) mask t = []

-- ---- refusal 10

-- whether f holds of any half of a list
abbrev pub any_of : (ℕ → Bool) → List ℕ → Bool
any_of f [] = false
any_of f (h ∷ hs) = cond (f h) true (any_of f hs)

-- half h of thread t stands at byte 32 x h + t; 0 is clear, anything else marked
abbrev pub marked_in : List ℕ → ℕ → ℕ → Bool
marked_in marks t h = not (eqb (get_or marks (32 * h + t) 0) 0)

-- some thread reads a half that is marked
unfoldable pub reads_marked : Meaning → Threads → Bool
reads_marked m s = any_below 32 (λ t. any_of (marked_in s.marks t) (reads_of m s.registers s.mask t))

-- ---- the marks after a step

-- every mark made anew, from its half, its thread and its byte; i is the place of the first
abbrev pub each_mark_from : ℕ → (ℕ → ℕ → ℕ → ℕ) → List ℕ → List ℕ
each_mark_from i f [] = []
each_mark_from i f (byte ∷ bytes) = f (i / 32) (i % 32) byte ∷ each_mark_from (suc i) f bytes

unfoldable pub each_mark : (ℕ → ℕ → ℕ → ℕ) → List ℕ → List ℕ
each_mark f marks = each_mark_from 0 f marks

-- the mark of half h of thread t: 0 where the thread writes the half, otherwise 1 where a source discards it, otherwise as it was
unfoldable pub mark_after : Meaning → ℕ → ℕ → ℕ → ℕ → ℕ
mark_after m mask h t byte = cond (any_of (eqb h) (clears_of m mask t)) 0 (cond (any_of (eqb h) (discards_of m)) 1 byte)

unfoldable pub marks_after : Meaning → ℕ → List ℕ → List ℕ
marks_after m mask marks = each_mark (mark_after m mask) marks
