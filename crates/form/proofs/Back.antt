-- What stands in the byte form of an instruction that fits, read back, is the instruction.
use mathlib.Core.Path.{◌≡◌, refl}
use Prim.Native.Nat.{ℕ, ◌+◌, ◌*◌, ◌/◌, ◌%◌}
use native.Mathlib.Omega.{arith}
use native.Mathlib.Nat.{mod-eq_of_lt}
use Rattle.bits.proofs.Laws.{le_bytes}
use Rattle.isa.specs.declared.operand.Destination.{Destination}
use Rattle.isa.specs.declared.operand.Source.{Source}
use Rattle.isa.specs.declared.operand.Hint.{Hint}
use Rattle.isa.specs.declared.operand.Dst.{Dst}
use Rattle.isa.specs.declared.operand.Src.{Src}
use Rattle.isa.specs.declared.operand.Unary.{Unary}
use Rattle.isa.specs.declared.operand.Binary.{Binary}
use Rattle.isa.specs.declared.operand.Ternary.{Ternary}
use Rattle.isa.specs.declared.instruction.Bitfield.{Bitfield}
use Rattle.isa.specs.declared.instruction.Shift.{Shift}
use Rattle.isa.specs.declared.instruction.Scan.{Scan}
use Rattle.isa.specs.declared.instruction.Compare.{Compare}
use Rattle.isa.specs.declared.instruction.Instruction.{Instruction}
use Rattle.isa.specs.Parts.{hint_number, dst_slot, src_slot, of_bitfield, of_shift, of_scan, of_compare, parts_of}
use Rattle.isa.specs.declared.parts.Slot.{Slot}
use Rattle.form.specs.Form.{lay_out, form_of}
use Rattle.formread.specs.Read.{hint_from, destination_from, source_from}
use Rattle.formread.specs.Read.{bitfield_from, shift_from, scan_from, compare_from, instruction_from}
use Rattle.form.specs.Fits.{U16, FitsDestination, FitsSource, FitsUnary, FitsBinary, FitsTernary}
use Rattle.form.specs.Fits.{FitsBitfield, FitsShift, FitsScan, FitsCompare, Fits}

-- ---- numbers

half_back : (x : ℕ) → U16 x → x % 256 + 256 * (x / 256 % 256) ≡ x
half_back x h = omega arith

-- ---- operands: what the reader of a slot's four bytes makes of it

abbrev dst_of : Slot → Dst
dst_of s = record { destination = destination_from s.kind (s.number % 256); hint = hint_from s.hint }

abbrev src_of : Slot → Src
src_of s = record { source = source_from s.kind (s.number % 256) (s.number / 256 % 256); hint = hint_from s.hint }

hint_back_lem : (h : Hint) → hint_from (hint_number h) ≡ h
hint_back_lem Hint.None = refl
hint_back_lem Hint.Cache = refl
hint_back_lem Hint.Discard = refl

destination_back_lem : (d : Destination) (h : Hint) → FitsDestination d
    → dst_of (dst_slot (record { destination = d; hint = h })) ≡ record { destination = d; hint = h }
destination_back_lem (Destination.Half x) h f =
    λ j. record { destination = Destination.Half (mod-eq_of_lt f j); hint = hint_back_lem h j }
destination_back_lem (Destination.Register r) h f =
    λ j. record { destination = Destination.Register (mod-eq_of_lt f j); hint = hint_back_lem h j }
destination_back_lem (Destination.Pair r) h f =
    λ j. record { destination = Destination.Pair (mod-eq_of_lt f j); hint = hint_back_lem h j }

dst-back : (d : Dst) → FitsDestination d.destination → dst_of (dst_slot d) ≡ d
dst-back d = destination_back_lem d.destination d.hint

source_back_lem : (s : Source) (h : Hint) → FitsSource s
    → src_of (src_slot (record { source = s; hint = h })) ≡ record { source = s; hint = h }
source_back_lem (Source.Half x) h f = λ j. record { source = Source.Half (mod-eq_of_lt f j); hint = hint_back_lem h j }
source_back_lem (Source.Register r) h f = λ j. record { source = Source.Register (mod-eq_of_lt f j); hint = hint_back_lem h j }
source_back_lem (Source.Pair r) h f = λ j. record { source = Source.Pair (mod-eq_of_lt f j); hint = hint_back_lem h j }
source_back_lem (Source.UniformHalf x) h f = λ j. record { source = Source.UniformHalf (half_back x f j); hint = hint_back_lem h j }
source_back_lem (Source.UniformRegister r) h f =
    λ j. record { source = Source.UniformRegister (mod-eq_of_lt f j); hint = hint_back_lem h j }
source_back_lem (Source.UniformPair r) h f = λ j. record { source = Source.UniformPair (mod-eq_of_lt f j); hint = hint_back_lem h j }
source_back_lem (Source.Immediate x) h f = λ j. record { source = Source.Immediate (mod-eq_of_lt f j); hint = hint_back_lem h j }

src-back : (s : Src) → FitsSource s.source → src_of (src_slot s) ≡ s
src-back s = source_back_lem s.source s.hint

unary-back : (o : Unary) → FitsUnary o → record { d = dst_of (dst_slot o.d); a = src_of (src_slot o.a) } ≡ o
unary-back o f = λ j. record { d = dst-back o.d f.0 j; a = src-back o.a f.1 j }

binary-back : (o : Binary) → FitsBinary o
    → record { d = dst_of (dst_slot o.d); a = src_of (src_slot o.a); b = src_of (src_slot o.b) } ≡ o
binary-back o f = λ j. record { d = dst-back o.d f.0 j; a = src-back o.a f.1 j; b = src-back o.b f.2 j }

ternary-back : (o : Ternary) → FitsTernary o
    → record { d = dst_of (dst_slot o.d); a = src_of (src_slot o.a); b = src_of (src_slot o.b); c = src_of (src_slot o.c) } ≡ o
ternary-back o f =
    λ j. record {
      d = dst-back o.d f.0 j;
      a = src-back o.a f.1 j;
      b = src-back o.b f.2 j;
      c = src-back o.c f.3 j;
    }

bitfield-back : (x : Bitfield) → FitsBitfield x → bitfield_from (lay_out (of_bitfield 0 x)) ≡ x
bitfield-back x f = λ j. record { operands = ternary-back x.operands f.0 j; m = x.m; kept = le_bytes 8 x.kept f.2 j }

shift_back_lem : (x : Shift) → FitsShift x → shift_from (lay_out (of_shift 0 x)) ≡ x
shift_back_lem x f = λ j. record { operands = binary-back x.operands f.0 j; kept = le_bytes 8 x.kept f.1 j }

scan-back : (x : Scan) → FitsScan x → scan_from (lay_out (of_scan 0 x)) ≡ x
scan-back x f = λ j. record { operands = unary-back x.operands f.0 j; kept = le_bytes 8 x.kept f.1 j }

compare-back : (x : Compare) → FitsCompare x → compare_from (lay_out (of_compare 0 x)) ≡ x
compare-back x f =
    λ j. record {
      hint = hint_back_lem x.hint j;
      cc = x.cc;
      ccn = x.ccn;
      n = x.n;
      operands = record { a = src-back x.operands.a f.3.0 j; b = src-back x.operands.b f.3.1 j };
      kept = le_bytes 8 x.kept f.4 j;
    }

-- ---- instructions

pub instruction-back : (i : Instruction) → Fits i → instruction_from (parts_of i).kind (form_of i) ≡ i
unfolding parts_of instruction_from
instruction-back (Instruction.Mov16 d imm l kept) f =
    λ j. Instruction.Mov16 (dst-back d f.0 j) (le_bytes 2 imm f.1 j) l (le_bytes 8 kept f.3 j)
instruction-back (Instruction.Mov32 d imm l kept) f =
    λ j. Instruction.Mov32 (dst-back d f.0 j) (le_bytes 4 imm f.1 j) l (le_bytes 8 kept f.3 j)
instruction-back (Instruction.GetSr d sr kept) f =
    λ j. Instruction.GetSr (dst-back d f.0 j) (mod-eq_of_lt f.1 j) (le_bytes 8 kept f.2 j)
instruction-back (Instruction.Iadd o s n sa sb shift kept) f =
    λ j. Instruction.Iadd (binary-back o f.0 j) s n sa sb shift (le_bytes 8 kept f.6 j)
instruction-back (Instruction.Imadd o s n sa sb sc shift kept) f =
    λ j. Instruction.Imadd (ternary-back o f.0 j) s n sa sb sc shift (le_bytes 8 kept f.7 j)
instruction-back (Instruction.Bfi x) f = λ j. Instruction.Bfi (bitfield-back x f j)
instruction-back (Instruction.Bfeil x) f = λ j. Instruction.Bfeil (bitfield-back x f j)
instruction-back (Instruction.Extr x) f = λ j. Instruction.Extr (bitfield-back x f j)
instruction-back (Instruction.Shlhi x) f = λ j. Instruction.Shlhi (bitfield-back x f j)
instruction-back (Instruction.Shrhi x) f = λ j. Instruction.Shrhi (bitfield-back x f j)
instruction-back (Instruction.Asr x) f = λ j. Instruction.Asr (shift_back_lem x f j)
instruction-back (Instruction.Asrh x) f = λ j. Instruction.Asrh (shift_back_lem x f j)
instruction-back (Instruction.Bitop o t0 t1 t2 t3 kept) f =
    λ j. Instruction.Bitop (binary-back o f.0 j) t0 t1 t2 t3 (le_bytes 8 kept f.5 j)
instruction-back (Instruction.Bitrev x) f = λ j. Instruction.Bitrev (scan-back x f j)
instruction-back (Instruction.Popcount x) f = λ j. Instruction.Popcount (scan-back x f j)
instruction-back (Instruction.Ffs x) f = λ j. Instruction.Ffs (scan-back x f j)
instruction-back (Instruction.JmpExecAny off) f = λ j. Instruction.JmpExecAny (le_bytes 4 off f j)
instruction-back (Instruction.JmpExecNone off) f = λ j. Instruction.JmpExecNone (le_bytes 4 off f j)
instruction-back (Instruction.PopExec h n kept) f = λ j. Instruction.PopExec (hint_back_lem h j) n (le_bytes 8 kept f.1 j)
instruction-back (Instruction.IfIcmp x) f = λ j. Instruction.IfIcmp (compare-back x f j)
instruction-back (Instruction.WhileIcmp x) f = λ j. Instruction.WhileIcmp (compare-back x f j)
instruction-back (Instruction.ElseIcmp x) f = λ j. Instruction.ElseIcmp (compare-back x f j)
