-- The sizes of what is lent, by lengths alone: what is lent, and then what is asked of it.
use Rattle.std.specs.Prelude.{ℕ, ◌*◌, ◌/◌, ◌%◌, Bool, eqb, leb}
use Rattle.machine.specs.Meaning.{both}
use Rattle.machine.specs.Run.{code_limit, budget_limit, marks_length}

abbrev pub columns_of : ℕ → ℕ → ℕ → Bool
columns_of fewest most words = both (eqb (words % 32) 0) (both (leb (32 * fewest) words) (leb words (32 * most)))

abbrev pub arranged_by : ℕ → ℕ → ℕ → ℕ → ℕ → ℕ → ℕ → ℕ → Bool
arranged_by code registers marks uniforms specials start budget records =
    both (both (leb code code_limit)
    (both (columns_of 1 128 registers) (both (eqb marks (marks_length registers)) (both (eqb uniforms 256) (columns_of 0 256 specials)))))
    (both (leb 1 budget)
    (both (leb budget budget_limit) (both (eqb (start % 2) 0) (both (leb start code) (leb budget (records / 16))))))
