-- What the code tells of the marks of a step: whether it is refused with 10, and the marks that it leaves; and when it needs no look at
-- them, since none is set and none will be.
use Rattle.std.specs.Prelude.{ℕ, ◌≡◌, Bool, true, cond, List, [], get_or}
use Rattle.machine.specs.Meaning.{Meaning}
use Rattle.machine.specs.State.{threads_at}
use Rattle.machine.specs.Marks.{discards_of, reads_marked, marks_after}

-- it is refused or not, and leaves the marks as they were, or as they are settled
abbrev pub Looked : Bool → Bool → List ℕ → List ℕ → List ℕ → Type 0
Looked refused reads left before after = (refused ≡ reads) × (left ≡ cond reads before after)

abbrev pub Settled : Meaning → List ℕ → ℕ → Bool → List ℕ → List ℕ → Type 0
Settled m registers mask refused before left =
    Looked refused (reads_marked m (threads_at registers before mask)) left before (marks_after m mask before)

-- ---- quiet steps

abbrev pub AllClear : List ℕ → Type 0
AllClear marks = (i : ℕ) → get_or marks i 0 ≡ 0

-- no mark is set, and the instruction sets none
abbrev pub Quiet : Meaning → List ℕ → Type 0
Quiet m marks = AllClear marks × (discards_of m ≡ [])

-- told that it is so
abbrev pub QuietIf : Bool → Meaning → List ℕ → Type 0
QuietIf quiet m marks = quiet ≡ true → Quiet m marks

-- then the marks stay
abbrev pub KeptIf : Bool → List ℕ → List ℕ → Type 0
KeptIf quiet before left = quiet ≡ true → left ≡ before
