-- Whether any of some threads, a bit each as in a mask, has any of some halves marked; and that of the halves and threads that an
-- instruction reads by.
use Rattle.std.specs.Prelude.{ℕ, Bool, List, ◌++◌}
use Rattle.machine.specs.Lanes.{active_in, any_below, pack}
use Rattle.machine.specs.Words.{half_of, word_at}
use Rattle.machine.specs.Meaning.{both, either}
use Rattle.machine.specs.Marks.{any_of, marked_in, halves_from, input_halves}
use Rattle.machine.specs.declared.input.Input.{Input}

unfoldable pub halves_marked : List ℕ → ℕ → List ℕ → Bool
halves_marked marks who halves = any_below 32 (λ t. both (active_in who t) (any_of (marked_in marks t) halves))

-- a data instruction reads by active threads
abbrev pub data_reads : List ℕ → Input → Input → Input → ℕ → Bool
data_reads marks a b c mask = halves_marked marks mask (input_halves a ++ (input_halves b ++ input_halves c))

-- the threads that compare, by their r0l
abbrev pub comparing : (ℕ → Bool) → List ℕ → ℕ
comparing compares registers = pack 32 (λ t. compares (half_of 0 (word_at registers 0 t)))

-- a mask instruction reads A and B by them
abbrev pub compared_reads : List ℕ → (ℕ → Bool) → Input → Input → List ℕ → Bool
compared_reads marks compares a b registers = halves_marked marks (comparing compares registers) (input_halves a ++ input_halves b)

-- and r0l by all
abbrev pub mask_reads : List ℕ → (ℕ → Bool) → Input → Input → List ℕ → Bool
mask_reads marks compares a b registers = either (halves_marked marks 4294967295 (halves_from 0 1)) (compared_reads marks compares a b registers)
