-- What is left of registers and mask, whatever the marks are.
use Rattle.std.specs.Prelude.{ℕ, ◌≡◌, List}
use Rattle.machine.specs.Words.{Tables}
use Rattle.machine.specs.Meaning.{Meaning}
use Rattle.machine.specs.State.{threads_at}
use Rattle.machine.specs.Step.{Result, mask_all, threads_after}

-- after a mask instruction with these sources
abbrev pub Masked : Result → List (List ℕ) → List ℕ → List ℕ → ℕ → Type 0
Masked result sources registers after mask = (marks : List ℕ) → threads_at after marks mask ≡ mask_all result sources registers marks

-- after an instruction
abbrev pub Acted : Meaning → Tables → List ℕ → ℕ → List ℕ → ℕ → Type 0
Acted m tables registers before after mask =
    (marks : List ℕ)
    → (after ≡ (threads_after m tables (threads_at registers marks before)).registers)
    × (mask ≡ (threads_after m tables (threads_at registers marks before)).mask)
