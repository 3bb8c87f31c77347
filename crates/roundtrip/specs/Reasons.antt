-- Why an instruction has no encoding: the reasons of refusal 8 in the table "Refusal numbers" of the statement of what to build.
use Rattle.std.specs.Prelude.{◌≡◌, Bool, true, false, List, [], ◌∷◌, ℕ, ◌*◌, ◌/◌, ◌^◌, ◌<◌, Some, Ok}
use Rattle.std.specs.Int.Bits.{bit_and}
use Rattle.isa.specs.Operand.{cache_hint, destination_of, source_of, means_condition}
use Rattle.isa.specs.Diagram.{Field, width_of, mask}
use Rattle.isa.specs.Find.{find_of}
use Rattle.isa.specs.Decode.{row_at}
use Rattle.isa.specs.Parts.{place_of, kept_of}
use Rattle.isa.specs.declared.operand.Hint.{Hint}
use Rattle.isa.specs.declared.operand.Dst.{Dst}
use Rattle.isa.specs.declared.operand.Src.{Src}
use Rattle.isa.specs.declared.operand.Unary.{Unary}
use Rattle.isa.specs.declared.operand.Binary.{Binary}
use Rattle.isa.specs.declared.operand.Ternary.{Ternary}
use Rattle.isa.specs.declared.instruction.Compare.{Compare}
use Rattle.isa.specs.declared.instruction.Instruction.{Instruction}
use Rattle.encoding.specs.Write.{Named, fields_for, number_in, word_for}
use Rattle.encode.specs.Encode.{length_of, bytes_for}

-- ---- an operand or condition that its place can't hold, or that 4 refuses

-- a place holds what some number and flags there say
abbrev pub HoldsDst : Bool → Dst → Type 0
HoldsDst wide d = (v : ℕ) × (t : ℕ) × (v < 256) × (t < 4) × (destination_of wide v t ≡ Some d)

-- of a mov the upper bit of Dt is fixed
abbrev pub HoldsMov : ℕ → Dst → Type 0
HoldsMov upper d = (v : ℕ) × (t : ℕ) × (v < 256) × (t < 4) × (destination_of false v t ≡ Some d) × (t / 2 ≡ upper)

abbrev pub HoldsSrc : Bool → Src → Type 0
HoldsSrc wide s = (v : ℕ) × (t : ℕ) × (v < 256) × (t < 16) × (source_of wide v t ≡ Some s)

abbrev pub HoldsHint : Hint → Type 0
HoldsHint h = (b : ℕ) × (b < 2) × (cache_hint b ≡ h)

abbrev pub HoldsUnary : Unary → Type 0
HoldsUnary o = HoldsDst false o.d × HoldsSrc false o.a

abbrev pub HoldsBinary : Bool → Binary → Type 0
HoldsBinary wide o = HoldsDst wide o.d × HoldsSrc wide o.a × HoldsSrc wide o.b

abbrev pub HoldsTernary : Bool → Ternary → Type 0
HoldsTernary wide o = HoldsDst wide o.d × HoldsSrc false o.a × HoldsSrc false o.b × HoldsSrc wide o.c

abbrev pub HoldsCompare : Compare → Type 0
HoldsCompare x =
    HoldsHint x.hint × HoldsSrc false x.operands.a × HoldsSrc false x.operands.b × (means_condition x.cc ≡ true)

-- only iadd and imadd have places that take 64 bits
unfoldable pub Held : Instruction → Type 0
Held (Instruction.Mov16 d imm16 l kept) = HoldsMov 0 d
Held (Instruction.Mov32 d imm32 l kept) = HoldsMov 1 d
Held (Instruction.GetSr d sr kept) = HoldsDst false d
Held (Instruction.Iadd o s n sa sb shift kept) = HoldsBinary true o
Held (Instruction.Imadd o s n sa sb sc shift kept) = HoldsTernary true o
Held (Instruction.Bfi x) = HoldsTernary false x.operands
Held (Instruction.Bfeil x) = HoldsTernary false x.operands
Held (Instruction.Extr x) = HoldsTernary false x.operands
Held (Instruction.Shlhi x) = HoldsTernary false x.operands
Held (Instruction.Shrhi x) = HoldsTernary false x.operands
Held (Instruction.Asr x) = HoldsBinary false x.operands
Held (Instruction.Asrh x) = HoldsBinary false x.operands
Held (Instruction.Bitop o tt0 tt1 tt2 tt3 kept) = HoldsBinary false o
Held (Instruction.Bitrev x) = HoldsUnary x.operands
Held (Instruction.Popcount x) = HoldsUnary x.operands
Held (Instruction.Ffs x) = HoldsUnary x.operands
Held (Instruction.JmpExecAny off) = Unit {0}
Held (Instruction.JmpExecNone off) = Unit {0}
Held (Instruction.PopExec h n kept) = HoldsHint h
Held (Instruction.IfIcmp x) = HoldsCompare x
Held (Instruction.WhileIcmp x) = HoldsCompare x
Held (Instruction.ElseIcmp x) = HoldsCompare x

-- ---- a field too wide

-- the numbers of the fields of a list are within their widths
abbrev pub FieldsWithin : List Field → List Named → Type 0
FieldsWithin [] ns = Unit {0}
FieldsWithin (f ∷ fs) ns = (number_in ns f.name < 2 ^ width_of f.at) × FieldsWithin fs ns

abbrev pub FieldsFit : Instruction → Type 0
FieldsFit i = FieldsWithin (row_at (place_of i)).fields (fields_for i)

-- kept bits only where the diagram has "?"
abbrev pub KeptFits : Instruction → Type 0
KeptFits i = bit_and (kept_of i) (mask (row_at (place_of i)).unknowns) ≡ kept_of i

-- ---- a non-zero absent bit

abbrev pub NoAbsentBit : Instruction → Type 0
NoAbsentBit i = word_for i < 2 ^ (8 * length_of i)

-- ---- the finding rule, given the bytes alone

abbrev pub Finds : Instruction → Type 0
Finds i = find_of (bytes_for i) ≡ Ok (place_of i, length_of i)

-- ---- none of the reasons

pub record Encodable (i : Instruction) : Type 0 where
  pub fields : FieldsFit i
  pub kept : KeptFits i
  pub held : Held i
  pub absent : NoAbsentBit i
  pub finds : Finds i
