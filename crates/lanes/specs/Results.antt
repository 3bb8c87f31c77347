-- What becomes of the registers at one thread, and which bit of a mask is its.
use Rattle.std.specs.Prelude.{ℕ, ◌+◌, ◌*◌, ◌/◌, ◌%◌, ◌^◌, Bool, cond, List, eqb, get_or, set}
use Rattle.isa.specs.declared.operand.Destination.{Destination}
use Rattle.machine.specs.Lanes.{each, active_in}
use Rattle.machine.specs.Words.{with_half, word_at, store_of, destination_size}

-- an active thread's destination takes its value, modulo two to the destination's size
unfoldable pub store_lane : List ℕ → ℕ → Destination → ℕ → List ℕ → List ℕ
store_lane values mask d t words =
    cond (active_in mask t) (store_of d t (get_or values t 0 % 2 ^ destination_size d) words) words

abbrev pub store_all : List ℕ → ℕ → Destination → List ℕ → List ℕ
store_all values mask d registers = each 32 (store_lane values mask d) registers

-- bit t of a mask of zeros
abbrev pub zero_at : List ℕ → ℕ → Bool
zero_at values t = eqb (get_or values t 0 % 2 ^ 16) 0

-- ---- rows of words that are to be written

-- the 32 bits of a value from the bit k on
abbrev pub column_of : List ℕ → ℕ → ℕ → ℕ
column_of values k t = get_or values t 0 / 2 ^ k % 2 ^ 32

-- the register's word, with the value for half h
abbrev pub merged_at : List ℕ → ℕ → List ℕ → ℕ → ℕ
merged_at words h row t = with_half h (get_or row t 0 % 2 ^ 16) (word_at words (h / 2) t)

-- register r of thread t is written whether it is active or not: where not, with what it holds
unfoldable pub word_lane : List ℕ → ℕ → ℕ → ℕ → List ℕ → List ℕ
word_lane row mask r t words = set words (32 * r + t) (cond (active_in mask t) (get_or row t 0) (word_at words r t))
