-- The state of a run: the register words, the marks and the mask of the 32 threads, and the address. Follows "Sizes of what is lent" and
-- the change request on discard.
use Rattle.std.specs.Prelude.{ℕ, List}

-- what the threads have: all the lent register words, all the lent marks, and a mask bit each
pub record Threads : Type 0 where
  pub registers : List ℕ
  pub marks : List ℕ
  pub mask : ℕ

pub record State : Type 0 where
  pub threads : Threads
  pub address : ℕ

abbrev pub threads_at : List ℕ → List ℕ → ℕ → Threads
threads_at registers marks mask = record { registers = registers; marks = marks; mask = mask }

abbrev pub state_at : Threads → ℕ → State
state_at threads address = record { threads = threads; address = address }
