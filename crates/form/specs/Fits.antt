-- An instruction fits where each of its numbers is within the type that it has in crates/isa/src. A program has no other instructions.
use Rattle.std.specs.Prelude.{ℕ, ◌^◌, ◌<◌}
use Rattle.isa.specs.declared.operand.Destination.{Destination}
use Rattle.isa.specs.declared.operand.Source.{Source}
use Rattle.isa.specs.declared.operand.Unary.{Unary}
use Rattle.isa.specs.declared.operand.Binary.{Binary}
use Rattle.isa.specs.declared.operand.Ternary.{Ternary}
use Rattle.isa.specs.declared.operand.Compared.{Compared}
use Rattle.isa.specs.declared.instruction.Bitfield.{Bitfield}
use Rattle.isa.specs.declared.instruction.Shift.{Shift}
use Rattle.isa.specs.declared.instruction.Scan.{Scan}
use Rattle.isa.specs.declared.instruction.Compare.{Compare}
use Rattle.isa.specs.declared.instruction.Instruction.{Instruction}

-- x is a u8, a u16, a u32, a u64
abbrev pub U8 : ℕ → Type 0
U8 x = x < 2 ^ 8

abbrev pub U16 : ℕ → Type 0
U16 x = x < 2 ^ 16

abbrev pub U32 : ℕ → Type 0
U32 x = x < 2 ^ 32

abbrev pub U64 : ℕ → Type 0
U64 x = x < 2 ^ 64

abbrev pub FitsDestination : Destination → Type 0
FitsDestination (Destination.Half x) = U8 x
FitsDestination (Destination.Register r) = U8 r
FitsDestination (Destination.Pair r) = U8 r

abbrev pub FitsSource : Source → Type 0
FitsSource (Source.Half x) = U8 x
FitsSource (Source.Register r) = U8 r
FitsSource (Source.Pair r) = U8 r
FitsSource (Source.UniformHalf x) = U16 x
FitsSource (Source.UniformRegister r) = U8 r
FitsSource (Source.UniformPair r) = U8 r
FitsSource (Source.Immediate x) = U8 x

abbrev pub FitsUnary : Unary → Type 0
FitsUnary o = FitsDestination o.d.destination × FitsSource o.a.source

abbrev pub FitsBinary : Binary → Type 0
FitsBinary o = FitsDestination o.d.destination × FitsSource o.a.source × FitsSource o.b.source

abbrev pub FitsTernary : Ternary → Type 0
FitsTernary o =
    FitsDestination o.d.destination × FitsSource o.a.source × FitsSource o.b.source × FitsSource o.c.source

abbrev pub FitsCompared : Compared → Type 0
FitsCompared o = FitsSource o.a.source × FitsSource o.b.source

abbrev pub FitsBitfield : Bitfield → Type 0
FitsBitfield x = FitsTernary x.operands × U8 x.m × U64 x.kept

abbrev pub FitsShift : Shift → Type 0
FitsShift x = FitsBinary x.operands × U64 x.kept

abbrev pub FitsScan : Scan → Type 0
FitsScan x = FitsUnary x.operands × U64 x.kept

abbrev pub FitsCompare : Compare → Type 0
FitsCompare x = U8 x.cc × U8 x.ccn × U8 x.n × FitsCompared x.operands × U64 x.kept

abbrev pub Fits : Instruction → Type 0
Fits (Instruction.Mov16 d imm l kept) = FitsDestination d.destination × U16 imm × U8 l × U64 kept
Fits (Instruction.Mov32 d imm l kept) = FitsDestination d.destination × U32 imm × U8 l × U64 kept
Fits (Instruction.GetSr d sr kept) = FitsDestination d.destination × U8 sr × U64 kept
Fits (Instruction.Iadd o s n sa sb shift kept) = FitsBinary o × U8 s × U8 n × U8 sa × U8 sb × U8 shift × U64 kept
Fits (Instruction.Imadd o s n sa sb sc shift kept) = FitsTernary o × U8 s × U8 n × U8 sa × U8 sb × U8 sc × U8 shift × U64 kept
Fits (Instruction.Bfi x) = FitsBitfield x
Fits (Instruction.Bfeil x) = FitsBitfield x
Fits (Instruction.Extr x) = FitsBitfield x
Fits (Instruction.Shlhi x) = FitsBitfield x
Fits (Instruction.Shrhi x) = FitsBitfield x
Fits (Instruction.Asr x) = FitsShift x
Fits (Instruction.Asrh x) = FitsShift x
Fits (Instruction.Bitop o t0 t1 t2 t3 kept) = FitsBinary o × U8 t0 × U8 t1 × U8 t2 × U8 t3 × U64 kept
Fits (Instruction.Bitrev x) = FitsScan x
Fits (Instruction.Popcount x) = FitsScan x
Fits (Instruction.Ffs x) = FitsScan x
Fits (Instruction.JmpExecAny off) = U32 off
Fits (Instruction.JmpExecNone off) = U32 off
Fits (Instruction.PopExec h n kept) = U8 n × U64 kept
Fits (Instruction.IfIcmp x) = FitsCompare x
Fits (Instruction.WhileIcmp x) = FitsCompare x
Fits (Instruction.ElseIcmp x) = FitsCompare x
