-- What the rows of sources hold: a thread's value by the kind of operand, and how many bits it has.
use Rattle.std.specs.Prelude.{ℕ, ◌+◌, ◌*◌, ◌/◌, ◌≤◌, ◌<◌, ◌^◌, ◌≡◌, List, [], ◌∷◌, length, get_or}
use Rattle.machine.specs.Lanes.{tab}
use Rattle.machine.specs.Words.{Tables, half_of, pair_of, word_at, value_of, input_size, input_reach, special_reach}
use Rattle.machine.specs.declared.input.Input.{Input}

-- the lent tables
abbrev pub lent : List ℕ → List ℕ → Tables
lent uniforms specials = record { uniforms = uniforms; specials = specials }

-- there are as many registers and special registers as a source reaches to
abbrev pub Reached : Input → List ℕ → List ℕ → Type 0
Reached x registers specials = (32 * input_reach x ≤ length registers) × (32 * special_reach x ≤ length specials)

abbrev pub half_at : List ℕ → ℕ → ℕ → ℕ
half_at words h t = half_of h (word_at words (h / 2) t)

abbrev pub pair_at : List ℕ → ℕ → ℕ → ℕ
pair_at words r t = pair_of (word_at words r t) (word_at words (r + 1) t)

-- a row has the value of each thread, none of more bits than the size
abbrev pub Row : List ℕ → (ℕ → ℕ) → ℕ → Type 0
Row row value size = (row ≡ tab 32 value) × ((t : ℕ) → t < 32 → get_or row t 0 < 2 ^ size)

-- ---- rows that stand where an earlier step's stood

-- the row of a source; where there is nothing to read, what stood there
abbrev pub row_over : Tables → List ℕ → Input → List ℕ → List ℕ
row_over tables registers Input.Nothing row = row
row_over tables registers (Input.Operand a) row = tab 32 (value_of tables registers (Input.Operand a))
row_over tables registers (Input.Special k) row = tab 32 (value_of tables registers (Input.Special k))

-- no value that was read has more bits than its source
abbrev pub InSize : Input → List ℕ → Type 0
InSize x row = (x ≡ Input.Nothing → ⊥) → (t : ℕ) → t < 32 → get_or row t 0 < 2 ^ input_size x

abbrev pub RowOver : Input → Tables → List ℕ → List ℕ → List ℕ → Type 0
RowOver x tables registers before after = (after ≡ row_over tables registers x before) × InSize x after

-- the rows of three sources
unfoldable pub gather_over : Tables → List ℕ → Input → Input → Input → List (List ℕ) → List (List ℕ)
gather_over tables registers a b c rows =
    row_over tables registers a (get_or rows 0 []) ∷ row_over tables registers b (get_or rows 1 []) ∷ row_over tables registers c (get_or rows 2 []) ∷ []

pub record Bounded (sources : List (List ℕ)) (x y z : Input) : Type 0 where
  pub a : InSize x (get_or sources 0 [])
  pub b : InSize y (get_or sources 1 [])
  pub c : InSize z (get_or sources 2 [])
