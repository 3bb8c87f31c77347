-- Operands by their bit numbers: a D stands at 14 to 9 and its Dt at 8 to 7, and a source's flags follow its six low bits.
-- Only the place of an operand's two high bits differs from diagram to diagram.
use Rattle.std.specs.Prelude.{ℕ, ◌+◌, ◌*◌, ◌-◌, Bool, false, Option}
use Rattle.bits.specs.Word.{field_of}
use Rattle.isa.specs.Operand.{destination_of, source_of}
use Rattle.isa.specs.Together.{unary, binary, ternary, compared}
use Rattle.isa.specs.declared.operand.Dst.{Dst}
use Rattle.isa.specs.declared.operand.Src.{Src}
use Rattle.isa.specs.declared.operand.Unary.{Unary}
use Rattle.isa.specs.declared.operand.Binary.{Binary}
use Rattle.isa.specs.declared.operand.Ternary.{Ternary}
use Rattle.isa.specs.declared.operand.Compared.{Compared}

-- two high bits at x, six low bits at lo
abbrev pub joined_at : ℕ → ℕ → ℕ → ℕ
joined_at w x lo = field_of w x 2 * 64 + field_of w lo 6

abbrev pub dst_at : Bool → ℕ → ℕ → Option Dst
dst_at wide w x = destination_of wide (joined_at w x 9) (field_of w 7 2)

abbrev pub src_at : Bool → ℕ → ℕ → ℕ → Option Src
src_at wide w lo x = source_of wide (joined_at w x lo) (field_of w (lo + 6) 4)

-- the high bits of A stand below those of D, then those of B and C
abbrev pub unary_at : Bool → Bool → ℕ → ℕ → Option Unary
unary_at wide_d wide_s w x = unary (dst_at wide_d w x) (src_at wide_s w 16 (x - 2))

abbrev pub binary_at : Bool → Bool → ℕ → ℕ → Option Binary
binary_at wide_d wide_s w x = binary (unary_at wide_d wide_s w x) (src_at wide_s w 28 (x - 4))

abbrev pub ternary_at : Bool → ℕ → Option Ternary
ternary_at wide w = ternary (binary_at wide false w 60) (src_at wide w 40 54)

abbrev pub compared_at : ℕ → Option Compared
compared_at w = compared (src_at false w 16 42) (src_at false w 28 40)
