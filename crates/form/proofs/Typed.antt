-- What memory holds as an instruction fits: each number is within its type. `Is` is the kit's relation between a value and what
-- memory holds of it; the proof of a function has it of each parameter, as `c.good`.
use mathlib.Core.List.{List}
use mir.Val.{Val}
use denote.Laws.{Is}
use Rattle.isa.specs.declared.operand.Destination.{Destination}
use Rattle.isa.specs.declared.operand.Source.{Source}
use Rattle.isa.specs.declared.operand.Dst.{Dst}
use Rattle.isa.specs.declared.operand.Src.{Src}
use Rattle.isa.specs.declared.operand.Unary.{Unary}
use Rattle.isa.specs.declared.operand.Binary.{Binary}
use Rattle.isa.specs.declared.operand.Ternary.{Ternary}
use Rattle.isa.specs.declared.operand.Compared.{Compared}
use Rattle.isa.specs.declared.instruction.Bitfield.{Bitfield}
use Rattle.isa.specs.declared.instruction.Shift.{Shift}
use Rattle.isa.specs.declared.instruction.Scan.{Scan}
use Rattle.isa.specs.declared.instruction.Compare.{Compare}
use Rattle.isa.specs.declared.instruction.Instruction.{Instruction}
use Rattle.isa.specs.contracts.operand.Destination.{the_row as destination-row}
use Rattle.isa.specs.contracts.operand.Source.{the_row as source_row}
use Rattle.isa.specs.contracts.operand.Dst.{the_row as dst_row}
use Rattle.isa.specs.contracts.operand.Src.{the_row as src-row}
use Rattle.isa.specs.contracts.operand.Unary.{the_row as unary-row}
use Rattle.isa.specs.contracts.operand.Binary.{the_row as binary-row}
use Rattle.isa.specs.contracts.operand.Ternary.{the_row as ternary-row}
use Rattle.isa.specs.contracts.operand.Compared.{the_row as compared-row}
use Rattle.isa.specs.contracts.instruction.Bitfield.{the_row as bitfield-row}
use Rattle.isa.specs.contracts.instruction.Shift.{the_row as shift-row}
use Rattle.isa.specs.contracts.instruction.Scan.{the_row as scan-row}
use Rattle.isa.specs.contracts.instruction.Compare.{the_row as compare-row}
use Rattle.isa.specs.contracts.instruction.Instruction.{the_row as instruction-row}
use Rattle.form.specs.Fits.{FitsDestination, FitsSource, FitsUnary, FitsBinary, FitsTernary, FitsCompared}
use Rattle.form.specs.Fits.{FitsBitfield, FitsShift, FitsScan, FitsCompare, Fits}

destination_fits : (d : Destination) (vs : List Val) → Is destination-row d vs → FitsDestination d
destination_fits (Destination.Half x) vs p = p.1.1.1.1.0.1
destination_fits (Destination.Register r) vs p = p.1.1.1.1.0.1
destination_fits (Destination.Pair r) vs p = p.1.1.1.1.0.1

source_fits : (s : Source) (vs : List Val) → Is source_row s vs → FitsSource s
source_fits (Source.Half x) vs p = p.1.1.1.1.0.1
source_fits (Source.Register r) vs p = p.1.1.1.1.0.1
source_fits (Source.Pair r) vs p = p.1.1.1.1.0.1
source_fits (Source.UniformHalf x) vs p = p.1.1.1.1.0.1
source_fits (Source.UniformRegister r) vs p = p.1.1.1.1.0.1
source_fits (Source.UniformPair r) vs p = p.1.1.1.1.0.1
source_fits (Source.Immediate x) vs p = p.1.1.1.1.0.1

dst_fits : (d : Dst) (vs : List Val) → Is dst_row d vs → FitsDestination d.destination
dst_fits d vs p = destination_fits d.destination _ p.1.1.0

src_fits : (s : Src) (vs : List Val) → Is src-row s vs → FitsSource s.source
src_fits s vs p = source_fits s.source _ p.1.1.0

unary_fits : (o : Unary) (vs : List Val) → Is unary-row o vs → FitsUnary o
unary_fits o vs p = let f = p.1.1 in (dst_fits o.d _ f.0, src_fits o.a _ f.1.0)

binary_fits : (o : Binary) (vs : List Val) → Is binary-row o vs → FitsBinary o
binary_fits o vs p =
    let f = p.1.1 in
    (dst_fits o.d _ f.0, src_fits o.a _ f.1.0, src_fits o.b _ f.1.1.0)

ternary_fits : (o : Ternary) (vs : List Val) → Is ternary-row o vs → FitsTernary o
ternary_fits o vs p =
    let f = p.1.1 in
    (dst_fits o.d _ f.0, src_fits o.a _ f.1.0, src_fits o.b _ f.1.1.0, src_fits o.c _ f.1.1.1.0)

compared_fits : (o : Compared) (vs : List Val) → Is compared-row o vs → FitsCompared o
compared_fits o vs p = let f = p.1.1 in (src_fits o.a _ f.0, src_fits o.b _ f.1.0)

bitfield_fits : (x : Bitfield) (vs : List Val) → Is bitfield-row x vs → FitsBitfield x
bitfield_fits x vs p = let f = p.1.1 in (ternary_fits x.operands _ f.0, f.1.0.1, f.1.1.0.1)

shift_fits : (x : Shift) (vs : List Val) → Is shift-row x vs → FitsShift x
shift_fits x vs p = let f = p.1.1 in (binary_fits x.operands _ f.0, f.1.0.1)

scan_fits : (x : Scan) (vs : List Val) → Is scan-row x vs → FitsScan x
scan_fits x vs p = let f = p.1.1 in (unary_fits x.operands _ f.0, f.1.0.1)

compare_fits : (x : Compare) (vs : List Val) → Is compare-row x vs → FitsCompare x
compare_fits x vs p =
    let f = p.1.1 in
    (f.1.0.1, f.1.1.0.1, f.1.1.1.0.1, compared_fits x.operands _ f.1.1.1.1.0, f.1.1.1.1.1.0.1)

pub instruction_fits : (i : Instruction) (vs : List Val) → Is instruction-row i vs → Fits i
instruction_fits (Instruction.Mov16 d imm l kept) vs p =
    let f = p.1.1.1.1 in
    (dst_fits d _ f.0, f.1.0.1, f.1.1.0.1, f.1.1.1.0.1)
instruction_fits (Instruction.Mov32 d imm l kept) vs p =
    let f = p.1.1.1.1 in
    (dst_fits d _ f.0, f.1.0.1, f.1.1.0.1, f.1.1.1.0.1)
instruction_fits (Instruction.GetSr d sr kept) vs p = let f = p.1.1.1.1 in (dst_fits d _ f.0, f.1.0.1, f.1.1.0.1)
instruction_fits (Instruction.Iadd o s n sa sb shift kept) vs p =
    let f = p.1.1.1.1 in (
      binary_fits o _ f.0,
      f.1.0.1,
      f.1.1.0.1,
      f.1.1.1.0.1,
      f.1.1.1.1.0.1,
      f.1.1.1.1.1.0.1,
      f.1.1.1.1.1.1.0.1,
    )
instruction_fits (Instruction.Imadd o s n sa sb sc shift kept) vs p =
    let f = p.1.1.1.1 in (
      ternary_fits o _ f.0,
      f.1.0.1,
      f.1.1.0.1,
      f.1.1.1.0.1,
      f.1.1.1.1.0.1,
      f.1.1.1.1.1.0.1,
      f.1.1.1.1.1.1.0.1,
      f.1.1.1.1.1.1.1.0.1,
    )
instruction_fits (Instruction.Bfi x) vs p = bitfield_fits x _ p.1.1.1.1.0
instruction_fits (Instruction.Bfeil x) vs p = bitfield_fits x _ p.1.1.1.1.0
instruction_fits (Instruction.Extr x) vs p = bitfield_fits x _ p.1.1.1.1.0
instruction_fits (Instruction.Shlhi x) vs p = bitfield_fits x _ p.1.1.1.1.0
instruction_fits (Instruction.Shrhi x) vs p = bitfield_fits x _ p.1.1.1.1.0
instruction_fits (Instruction.Asr x) vs p = shift_fits x _ p.1.1.1.1.0
instruction_fits (Instruction.Asrh x) vs p = shift_fits x _ p.1.1.1.1.0
instruction_fits (Instruction.Bitop o t0 t1 t2 t3 kept) vs p =
    let f = p.1.1.1.1 in
    (binary_fits o _ f.0, f.1.0.1, f.1.1.0.1, f.1.1.1.0.1, f.1.1.1.1.0.1, f.1.1.1.1.1.0.1)
instruction_fits (Instruction.Bitrev x) vs p = scan_fits x _ p.1.1.1.1.0
instruction_fits (Instruction.Popcount x) vs p = scan_fits x _ p.1.1.1.1.0
instruction_fits (Instruction.Ffs x) vs p = scan_fits x _ p.1.1.1.1.0
instruction_fits (Instruction.JmpExecAny off) vs p = p.1.1.1.1.0.1
instruction_fits (Instruction.JmpExecNone off) vs p = p.1.1.1.1.0.1
instruction_fits (Instruction.PopExec h n kept) vs p = let f = p.1.1.1.1 in (f.1.0.1, f.1.1.0.1)
instruction_fits (Instruction.IfIcmp x) vs p = compare_fits x _ p.1.1.1.1.0
instruction_fits (Instruction.WhileIcmp x) vs p = compare_fits x _ p.1.1.1.1.0
instruction_fits (Instruction.ElseIcmp x) vs p = compare_fits x _ p.1.1.1.1.0
