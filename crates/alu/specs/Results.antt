-- The result of one thread, from the gathered sources of all, modulo 2^64: from it every destination has its own low bits.
use Rattle.std.specs.Prelude.{ℕ, ◌<◌, ◌≡◌, List, [], length, get_or}
use Rattle.machine.specs.Integer.{modulo}
use Rattle.machine.specs.Step.{Result, source_at}
use Rattle.operations.specs.Operation.{result_by}
use Rattle.operations.specs.declared.Operation.{Operation}

-- of thread t, from a row for each source
abbrev pub row_at : Result → List ℕ → List ℕ → List ℕ → ℕ → ℕ
row_at f a b c t = modulo (f (get_or a t 0) (get_or b t 0) (get_or c t 0)) 64

unfoldable pub result_at : Operation → List (List ℕ) → ℕ → ℕ
result_at o sources = row_at (result_by o) (get_or sources 0 []) (get_or sources 1 []) (get_or sources 2 [])

-- P holds of the three values of each thread
abbrev pub OfEach : (ℕ → ℕ → ℕ → Type 0) → List (List ℕ) → Type 0
OfEach P sources = (t : ℕ) → t < 32 → P (source_at sources 0 t) (source_at sources 1 t) (source_at sources 2 t)

-- and R of its three values and its place in a row
abbrev pub IntoEach : (ℕ → ℕ → ℕ → ℕ → Type 0) → List (List ℕ) → List ℕ → Type 0
IntoEach R sources row =
    (length row ≡ 32)
    × ((t : ℕ) → t < 32 → R (source_at sources 0 t) (source_at sources 1 t) (source_at sources 2 t) (get_or row t 0))
