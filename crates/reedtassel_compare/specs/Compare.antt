-- What the exported comparison returns and leaves, as docs/c-interface.md has it.
use Rattle.std.specs.Prelude.{ℕ, ◌≡◌, cond, List, leb, ℤ, pos, neg_ℤ, length}
use Rattle.isa.specs.Refusal.{number_of, refusal}
use Rattle.comparison.specs.Compare.{compare_of}
use Rattle.comparison.specs.AnswerLine.{line_of, line_left}

-- the length of the line, or minus the number of refusal 1 where the buffer is too short for it
abbrev pub returned_for : List ℕ → ℕ → ℤ
returned_for line room = cond (leb (length line) room) (pos (length line)) (neg_ℤ (pos (number_of (refusal 1))))

pub record Compares (first second old : List ℕ) (r : ℤ) (new : List ℕ) : Type 0 where
  pub returns : r ≡ returned_for (line_of (compare_of first second)) (length old)
  pub leaves : new ≡ line_left (line_of (compare_of first second)) old
