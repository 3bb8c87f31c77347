-- Decoding by a way to read: what reading makes of the instruction at the start of some bytes, with its length.
use Rattle.std.specs.Prelude.{ℕ, ◌≡◌, List, take, Option, Some, None, Result, Ok, Err}
use Rattle.bits.specs.Word.{le}
use Rattle.isa.specs.Refusal.{refusal}
use Rattle.isa.specs.Answer.{Find}
use Rattle.isa.specs.declared.answer.Refusal.{Refusal}

-- what was read, with the length that was found
abbrev pub with_length : {T : Type 0} → Option T → ℕ → Result (T × ℕ) Refusal
with_length (Some x) n = Ok (x, n)
with_length None n = Err (refusal 4)

-- what was found is read from its bytes, the absent ones being zero, by its place in the list of diagrams
abbrev pub ReadsFound : {T : Type 0} → (ℕ → ℕ → Option T → Type 0) → Find → List ℕ → Result (T × ℕ) Refusal → Type 0
ReadsFound {T = T} reads (Ok (place, n)) code result = (o : Option T) × reads place (le (take n code)) o × (result ≡ with_length o n)
ReadsFound reads (Err r) code result = result ≡ Err r
