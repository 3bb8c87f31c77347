-- Encoding from the byte form, reedtassel_encode of docs/c-interface.md: what it returns and leaves is what the encoder answers and
-- leaves.
use Rattle.std.specs.Prelude.{ℕ, ◌≡◌, List, ℤ}
use Rattle.encode.specs.Encode.{encoded_from, left_from}
use Rattle.answers.specs.Returned.{encoded_by}

pub record EncodesForm (instruction out : List ℕ) (returned : ℤ) (left : List ℕ) : Type 0 where
  pub returns : returned ≡ encoded_by (encoded_from instruction out)
  pub leaves : left ≡ left_from instruction out
