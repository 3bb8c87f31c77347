-- The exported run, reedtassel_run of docs/c-interface.md: it returns how the run on bytes ended, and leaves what that leaves; where
-- the call is taken, the threads by themselves come to the same.
use Rattle.std.specs.Prelude.{ℕ, ◌≡◌, List, ℤ}
use Rattle.runbytes.specs.RunBytes.{Lent, ending_of, Leaves, ThreadsAlone}
use Rattle.answers.specs.Returned.{ended_by}

pub record RunsBytes (l : Lent) (returned : ℤ) (registers marks records answer : List ℕ) : Type 0 where
  pub returns : returned ≡ ended_by (ending_of l)
  pub leaves : Leaves l registers marks records answer
  pub threads : ThreadsAlone l registers marks answer
