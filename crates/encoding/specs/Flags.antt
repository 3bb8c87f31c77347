-- The joined number v and the flags t of an operand: what undoes the operand descriptions, docs/DECISIONS.md, entry 1.
use Rattle.std.specs.Prelude.{ℕ, ◌+◌, ◌*◌, ◌/◌, ◌%◌}
use Rattle.isa.specs.declared.operand.Destination.{Destination}
use Rattle.isa.specs.declared.operand.Source.{Source}
use Rattle.isa.specs.declared.operand.Hint.{Hint}
use Rattle.isa.specs.declared.operand.Dst.{Dst}
use Rattle.isa.specs.declared.operand.Src.{Src}
use Rattle.encoding.specs.declared.Numbers.{Numbers}

-- Dt bit 0. A destination has no discard: 2 is more than the bit can say
abbrev pub cache_bit : Hint → ℕ
cache_bit Hint.None = 0
cache_bit Hint.Cache = 1
cache_bit Hint.Discard = 2

abbrev pub dst_number : Destination → ℕ
dst_number (Destination.Half x) = x
dst_number (Destination.Register r) = 2 * r
dst_number (Destination.Pair r) = 2 * r + 1

abbrev pub dst_flags : Destination → ℕ
dst_flags (Destination.Half x) = 0
dst_flags (Destination.Register r) = 2
dst_flags (Destination.Pair r) = 2

-- the low two flags of a register that is read: 01 none, 10 cache, 11 discard
abbrev pub hint_bits : Hint → ℕ
hint_bits Hint.None = 1
hint_bits Hint.Cache = 2
hint_bits Hint.Discard = 3

-- of a uniform the low byte
abbrev pub src_number : Source → ℕ
src_number (Source.Half x) = x
src_number (Source.Register r) = 2 * r
src_number (Source.Pair r) = 2 * r
src_number (Source.UniformHalf x) = x % 256
src_number (Source.UniformRegister r) = 2 * r % 256
src_number (Source.UniformPair r) = (2 * r + 1) % 256
src_number (Source.Immediate x) = x

-- t3 t2: 00 a half or an immediate, 01 a uniform, 10 a register, 11 a pair. Of a uniform, t1 is 0 for a half, and t0 is the bit
-- above the low byte
abbrev pub src_flags : Source → Hint → ℕ
src_flags (Source.Half x) h = hint_bits h
src_flags (Source.Register r) h = 8 + hint_bits h
src_flags (Source.Pair r) h = 12 + hint_bits h
src_flags (Source.UniformHalf x) h = 4 + x / 256
src_flags (Source.UniformRegister r) h = 6 + 2 * r / 256
src_flags (Source.UniformPair r) h = 6 + (2 * r + 1) / 256
src_flags (Source.Immediate x) h = 0

-- ---- the two numbers of an operand

abbrev pub dst_numbers : Dst → Numbers
dst_numbers d = record { v = dst_number d.destination; t = dst_flags d.destination + cache_bit d.hint }

abbrev pub src_numbers : Src → Numbers
src_numbers s = record { v = src_number s.source; t = src_flags s.source s.hint }
