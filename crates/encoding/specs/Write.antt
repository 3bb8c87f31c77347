-- The word of an instruction, by its diagram: each field at its bits, the kept bits where they were, and the fixed bits. What the
-- fields are undoes the operand lines of document 002's pseudocode, in the same order.
use Rattle.std.specs.Prelude.{ℕ, ◌+◌, ◌*◌, ◌/◌, ◌%◌, ◌^◌, cond, List, [], ◌∷◌}
use Prim.Native.String.{String}
use Rattle.std.specs.Int.Bits.{bit_or}
use lib.Text.{eqt}
use Rattle.isa.specs.Diagram.{Diagram, Field, fixed_value}
use Rattle.isa.specs.Decode.{row_at}
use Rattle.isa.specs.Parts.{place_of, kept_of}
use Rattle.isa.specs.declared.operand.Dst.{Dst}
use Rattle.isa.specs.declared.operand.Src.{Src}
use Rattle.isa.specs.declared.operand.Unary.{Unary}
use Rattle.isa.specs.declared.operand.Binary.{Binary}
use Rattle.isa.specs.declared.operand.Ternary.{Ternary}
use Rattle.isa.specs.declared.instruction.Bitfield.{Bitfield}
use Rattle.isa.specs.declared.instruction.Compare.{Compare}
use Rattle.isa.specs.declared.instruction.Instruction.{Instruction}
use Rattle.encoding.specs.Flags.{cache_bit, dst_number, dst_flags, src_number, src_flags}

-- ---- the fields of an instruction, by name

pub record Named : Type 0 where
  pub name : String
  pub number : ℕ

infix 80 ◌is◌
abbrev pub ◌is◌ : String → ℕ → Named
◌is◌ s n = record { name = s; number = n }

-- a number whose six low bits are one field and whose high bits are another
abbrev pub joined : String → String → ℕ → List Named → List Named
joined hi lo v fs = hi is (v / 64) ∷ lo is (v % 64) ∷ fs

abbrev pub with_d : Dst → List Named → List Named
with_d d fs = joined "Dx" "D" (dst_number d.destination) ("Dt" is (dst_flags d.destination + cache_bit d.hint) ∷ fs)

abbrev pub with_a : Src → List Named → List Named
with_a a fs = joined "Ax" "A" (src_number a.source) ("At" is src_flags a.source a.hint ∷ fs)

abbrev pub with_b : Src → List Named → List Named
with_b b fs = joined "Bx" "B" (src_number b.source) ("Bt" is src_flags b.source b.hint ∷ fs)

abbrev pub with_c : Src → List Named → List Named
with_c c fs = joined "Cx" "C" (src_number c.source) ("Ct" is src_flags c.source c.hint ∷ fs)

abbrev pub of_unary : Unary → List Named → List Named
of_unary o fs = with_d o.d (with_a o.a fs)

abbrev pub of_binary : Binary → List Named → List Named
of_binary o fs = with_d o.d (with_a o.a (with_b o.b fs))

abbrev pub of_ternary : Ternary → List Named → List Named
of_ternary o fs = with_d o.d (with_a o.a (with_b o.b (with_c o.c fs)))

-- s2:s1
abbrev pub with_shift : ℕ → List Named → List Named
with_shift shift fs = "s2" is (shift / 2) ∷ "s1" is (shift % 2) ∷ fs

-- bfi, bfeil, extr, shlhi and shrhi: m is m3:m2:m1
abbrev pub of_bitfield : Bitfield → List Named
of_bitfield x = of_ternary x.operands ("m3" is (x.m / 16) ∷ "m2" is (x.m / 4 % 4) ∷ "m1" is (x.m % 4) ∷ [])

-- if_icmp, while_icmp and else_icmp
abbrev pub of_compare : Compare → List Named
of_compare x =
    "Dt" is cache_bit x.hint ∷ "ccn" is x.ccn ∷ "n" is x.n ∷ "cc" is x.cc
    ∷ with_a x.operands.a (with_b x.operands.b [])

unfoldable pub fields_for : Instruction → List Named
fields_for (Instruction.Mov16 d imm16 l kept) = with_d d ("imm16" is imm16 ∷ "L" is l ∷ [])
fields_for (Instruction.Mov32 d imm32 l kept) = with_d d ("imm32" is imm32 ∷ "L" is l ∷ [])
fields_for (Instruction.GetSr d sr kept) = with_d d (joined "SRx" "SR" sr [])
fields_for (Instruction.Iadd o s n sa sb shift kept) =
    of_binary o ("S" is s ∷ "N" is n ∷ "As" is sa ∷ "Bs" is sb ∷ with_shift shift [])
fields_for (Instruction.Imadd o s n sa sb sc shift kept) =
    of_ternary o ("S" is s ∷ "N" is n ∷ "As" is sa ∷ "Bs" is sb ∷ "Cs" is sc ∷ with_shift shift [])
fields_for (Instruction.Bfi x) = of_bitfield x
fields_for (Instruction.Bfeil x) = of_bitfield x
fields_for (Instruction.Extr x) = of_bitfield x
fields_for (Instruction.Shlhi x) = of_bitfield x
fields_for (Instruction.Shrhi x) = of_bitfield x
fields_for (Instruction.Asr x) = of_binary x.operands []
fields_for (Instruction.Asrh x) = of_binary x.operands []
fields_for (Instruction.Bitop o tt0 tt1 tt2 tt3 kept) =
    of_binary o ("tt0" is tt0 ∷ "tt1" is tt1 ∷ "tt2" is tt2 ∷ "tt3" is tt3 ∷ [])
fields_for (Instruction.Bitrev x) = of_unary x.operands []
fields_for (Instruction.Popcount x) = of_unary x.operands []
fields_for (Instruction.Ffs x) = of_unary x.operands []
fields_for (Instruction.JmpExecAny off) = "off" is off ∷ []
fields_for (Instruction.JmpExecNone off) = "off" is off ∷ []
fields_for (Instruction.PopExec h n kept) = "Dt" is cache_bit h ∷ "n" is n ∷ []
fields_for (Instruction.IfIcmp x) = of_compare x
fields_for (Instruction.WhileIcmp x) = of_compare x
fields_for (Instruction.ElseIcmp x) = of_compare x

-- ---- the word

-- the field of a name; 0 where there is none
abbrev pub number_in : List Named → String → ℕ
number_in [] name = 0
number_in (f ∷ fs) name = cond (eqt f.name name) f.number (number_in fs name)

-- x from the bit at, in a word of 64 bits
abbrev pub put : ℕ → ℕ → ℕ
put at x = x * 2 ^ at % 2 ^ 64

-- the fields of a diagram, each at its bits, over the word w
abbrev pub over : ℕ → List Field → List Named → ℕ
over w [] ns = w
over w (f ∷ fs) ns = over (bit_or w (put f.at.lo (number_in ns f.name))) fs ns

abbrev pub word_by : Diagram → List Named → ℕ → ℕ
word_by r ns kept = over (bit_or kept (fixed_value r.fixeds)) r.fields ns

unfoldable pub word_for : Instruction → ℕ
word_for i = word_by (row_at (place_of i)) (fields_for i) (kept_of i)
