-- Whether all marks are clear, and whether those of some halves are. The marks of one half: whether any of some threads has it marked, and
-- the marks with those of some threads set.
use Rattle.std.specs.Prelude.{ℕ, ◌+◌, ◌*◌, Bool, cond, not, List, eqb, length, get_or}
use Rattle.machine.specs.Lanes.{active_in, any_below}
use Rattle.machine.specs.Meaning.{both}
use Rattle.machine.specs.Marks.{marked_in, each_mark}

abbrev pub all_clear : List ℕ → Bool
all_clear marks = not (any_below (length marks) (λ i. not (eqb (get_or marks i 0) 0)))

-- of n halves, from h on
abbrev pub block_marked : List ℕ → ℕ → ℕ → Bool
block_marked marks h n = any_below (32 * n) (λ i. not (eqb (get_or marks (32 * h + i) 0) 0))

-- of half h, by threads that are bits of a number, as in a mask
abbrev pub row_marked_by : List ℕ → ℕ → ℕ → Bool
row_marked_by marks h who = any_below 32 (λ t. both (active_in who t) (marked_in marks t h))

abbrev pub row_set : ℕ → ℕ → ℕ → List ℕ → List ℕ
row_set h who v marks = each_mark (λ g t byte. cond (both (eqb g h) (active_in who t)) v byte) marks
