-- The lent words: what a thread reads of registers, uniforms and special registers, and what it writes of registers. Follows
-- "Sizes of what is lent" and "One step" of the statement of what to build, and the operand descriptions of document 002 as
-- docs/DECISIONS.md has them, entry 1.
use Rattle.std.specs.Prelude.{ℕ, ◌+◌, ◌*◌, ◌/◌, ◌%◌, ◌^◌, cond, List, eqb, get_or, set}
use Rattle.isa.specs.declared.operand.Destination.{Destination}
use Rattle.isa.specs.declared.operand.Source.{Source}
use Rattle.machine.specs.declared.input.Input.{Input}

-- ---- bit sizes

abbrev pub destination_size : Destination → ℕ
destination_size (Destination.Half h) = 16
destination_size (Destination.Register r) = 32
destination_size (Destination.Pair r) = 64

abbrev pub source_size : Source → ℕ
source_size (Source.Half h) = 16
source_size (Source.Register r) = 32
source_size (Source.Pair r) = 64
source_size (Source.UniformHalf h) = 16
source_size (Source.UniformRegister r) = 32
source_size (Source.UniformPair r) = 64
source_size (Source.Immediate v) = 16

abbrev pub input_size : Input → ℕ
input_size Input.Nothing = 0
input_size (Input.Operand a) = source_size a.source
input_size (Input.Special k) = 32

-- ---- words and halves

-- register r of thread t stands at word 32 x r + t
abbrev pub word_at : List ℕ → ℕ → ℕ → ℕ
word_at words r t = get_or words (32 * r + t) 0

-- 2r is the low half of r, 2r + 1 the high half
abbrev pub half_of : ℕ → ℕ → ℕ
half_of h word = cond (eqb (h % 2) 0) (word % 2 ^ 16) (word / 2 ^ 16)

-- the other half is kept
abbrev pub with_half : ℕ → ℕ → ℕ → ℕ
with_half h v word = cond (eqb (h % 2) 0) (word / 2 ^ 16 * 2 ^ 16 + v) (v * 2 ^ 16 + word % 2 ^ 16)

-- a pair's first register holds its low 32 bits
abbrev pub pair_of : ℕ → ℕ → ℕ
pair_of first second = second * 2 ^ 32 + first

-- ---- reading

pub record Tables : Type 0 where
  pub uniforms : List ℕ
  pub specials : List ℕ

unfoldable pub source_value : List ℕ → List ℕ → Source → ℕ → ℕ
source_value registers uniforms (Source.Half h) t = half_of h (word_at registers (h / 2) t)
source_value registers uniforms (Source.Register r) t = word_at registers r t
source_value registers uniforms (Source.Pair r) t = pair_of (word_at registers r t) (word_at registers (r + 1) t)
source_value registers uniforms (Source.UniformHalf h) t = half_of h (get_or uniforms (h / 2) 0)
source_value registers uniforms (Source.UniformRegister r) t = get_or uniforms r 0
source_value registers uniforms (Source.UniformPair r) t = pair_of (get_or uniforms r 0) (get_or uniforms (r + 1) 0)
source_value registers uniforms (Source.Immediate v) t = v

-- what thread t reads; where there is nothing to read, 0
unfoldable pub value_of : Tables → List ℕ → Input → ℕ → ℕ
value_of tables registers Input.Nothing t = 0
value_of tables registers (Input.Operand a) t = source_value registers tables.uniforms a.source t
value_of tables registers (Input.Special k) t = word_at tables.specials k t

-- ---- writing

-- thread t's part of the destination, set to v
unfoldable pub store_of : Destination → ℕ → ℕ → List ℕ → List ℕ
store_of (Destination.Half h) t v words = set words (32 * (h / 2) + t) (with_half h v (word_at words (h / 2) t))
store_of (Destination.Register r) t v words = set words (32 * r + t) v
store_of (Destination.Pair r) t v words = set (set words (32 * r + t) (v % 2 ^ 32)) (32 * (r + 1) + t) (v / 2 ^ 32)

-- ---- how many registers there have to be

abbrev pub destination_reach : Destination → ℕ
destination_reach (Destination.Half h) = h / 2 + 1
destination_reach (Destination.Register r) = r + 1
destination_reach (Destination.Pair r) = r + 2

abbrev pub source_reach : Source → ℕ
source_reach (Source.Half h) = h / 2 + 1
source_reach (Source.Register r) = r + 1
source_reach (Source.Pair r) = r + 2
source_reach (Source.UniformHalf h) = 0
source_reach (Source.UniformRegister r) = 0
source_reach (Source.UniformPair r) = 0
source_reach (Source.Immediate v) = 0

abbrev pub input_reach : Input → ℕ
input_reach Input.Nothing = 0
input_reach (Input.Operand a) = source_reach a.source
input_reach (Input.Special k) = 0

-- and how many special registers
abbrev pub special_reach : Input → ℕ
special_reach Input.Nothing = 0
special_reach (Input.Operand a) = 0
special_reach (Input.Special k) = k + 1
