-- What encoding answers, and how many bytes are written: refusals 8 and 9 of the table "Refusal numbers" of the statement of what to
-- build.
use Rattle.std.specs.Prelude.{ℕ, Bool, cond, leb, Ok, Err}
use Rattle.isa.specs.Refusal.{refusal}
use Rattle.isa.specs.Answer.{Encoded}

-- 8 before 9
abbrev pub answer_by : Bool → ℕ → ℕ → Encoded
answer_by accepted n room =
    cond accepted (cond (leb n room) (Ok n) (Err (refusal 9))) (Err (refusal 8))

-- the number of bytes written
abbrev pub count_of : Encoded → ℕ
count_of (Ok n) = n
count_of (Err r) = 0
