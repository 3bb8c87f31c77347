-- An instruction taken apart into numbers, each under one name in every instruction; docs/byte-form.md has the numbers of kinds
-- and hints. A part that an instruction does not have is 0.
use Rattle.std.specs.Prelude.{ℕ, ◌-◌, Bool, cond, List, [], ◌∷◌, eqb}
use Rattle.bits.specs.Lists.{eq_list}
use Rattle.isa.specs.Diagram.{Diagram, field_mask}
use Rattle.isa.specs.Find.{absent}
use Rattle.isa.specs.Decode.{row_at}
use Rattle.isa.specs.declared.operand.Destination.{Destination}
use Rattle.isa.specs.declared.operand.Source.{Source}
use Rattle.isa.specs.declared.operand.Hint.{Hint}
use Rattle.isa.specs.declared.operand.Dst.{Dst}
use Rattle.isa.specs.declared.operand.Src.{Src}
use Rattle.isa.specs.declared.operand.Unary.{Unary}
use Rattle.isa.specs.declared.operand.Binary.{Binary}
use Rattle.isa.specs.declared.operand.Ternary.{Ternary}
use Rattle.isa.specs.declared.instruction.Bitfield.{Bitfield}
use Rattle.isa.specs.declared.instruction.Shift.{Shift}
use Rattle.isa.specs.declared.instruction.Scan.{Scan}
use Rattle.isa.specs.declared.instruction.Compare.{Compare}
use Rattle.isa.specs.declared.instruction.Instruction.{Instruction}
use Rattle.isa.specs.declared.parts.Slot.{Slot}
use Rattle.isa.specs.declared.parts.Signs.{Signs}
use Rattle.isa.specs.declared.parts.Truth.{Truth}
use Rattle.isa.specs.declared.parts.Condition.{Condition}
use Rattle.isa.specs.declared.parts.Parts.{Parts}

-- ---- operands

abbrev pub hint_number : Hint → ℕ
hint_number Hint.None = 0
hint_number Hint.Cache = 1
hint_number Hint.Discard = 2

abbrev pub slot : ℕ → ℕ → ℕ → Slot
slot k h x = record { kind = k; hint = h; number = x }

abbrev pub destination_slot : Destination → ℕ → Slot
destination_slot (Destination.Half x) h = slot 1 h x
destination_slot (Destination.Register r) h = slot 2 h r
destination_slot (Destination.Pair r) h = slot 3 h r

abbrev pub source_slot : Source → ℕ → Slot
source_slot (Source.Half x) h = slot 1 h x
source_slot (Source.Register r) h = slot 2 h r
source_slot (Source.Pair r) h = slot 3 h r
source_slot (Source.UniformHalf x) h = slot 4 h x
source_slot (Source.UniformRegister r) h = slot 5 h r
source_slot (Source.UniformPair r) h = slot 6 h r
source_slot (Source.Immediate x) h = slot 7 h x

abbrev pub dst_slot : Dst → Slot
dst_slot d = destination_slot d.destination (hint_number d.hint)

abbrev pub src_slot : Src → Slot
src_slot s = source_slot s.source (hint_number s.hint)

abbrev pub no_slot : Slot
no_slot = slot 0 0 0

-- no operand, but the hint of r0l
abbrev pub hint_slot : Hint → Slot
hint_slot h = slot 0 (hint_number h) 0

-- ---- other fields

abbrev pub signs_of : ℕ → ℕ → ℕ → ℕ → ℕ → ℕ → Signs
signs_of s n sa sb sc shift =
    record { saturate = s; negate = n; sa = sa; sb = sb; sc = sc; shift = shift }

abbrev pub truth_of : ℕ → ℕ → ℕ → ℕ → Truth
truth_of t0 t1 t2 t3 = record { tt0 = t0; tt1 = t1; tt2 = t2; tt3 = t3 }

abbrev pub condition_of : ℕ → ℕ → ℕ → Condition
condition_of cc ccn n = record { cc = cc; ccn = ccn; n = n }

abbrev pub no_signs : Signs
no_signs = signs_of 0 0 0 0 0 0

abbrev pub no_truth : Truth
no_truth = truth_of 0 0 0 0

abbrev pub no_condition : Condition
no_condition = condition_of 0 0 0

-- ---- instructions

abbrev pub parts : ℕ → Slot → Slot → Slot → Slot → ℕ → ℕ → ℕ → Signs → Truth → Condition → ℕ → Parts
parts k d a b c imm l m s t cond kept =
    record {
      kind = k;
      d = d;
      a = a;
      b = b;
      c = c;
      immediate = imm;
      l = l;
      m = m;
      signs = s;
      truth = t;
      condition = cond;
      kept = kept;
    }

-- an instruction with a destination alone, and a number
abbrev pub of_dst : ℕ → Dst → ℕ → ℕ → ℕ → Parts
of_dst k d imm l kept = parts k (dst_slot d) no_slot no_slot no_slot imm l 0 no_signs no_truth no_condition kept

abbrev pub of_unary : ℕ → Unary → ℕ → Parts
of_unary k o kept = parts k (dst_slot o.d) (src_slot o.a) no_slot no_slot 0 0 0 no_signs no_truth no_condition kept

abbrev pub of_binary : ℕ → Binary → Signs → Truth → ℕ → Parts
of_binary k o s t kept = parts k (dst_slot o.d) (src_slot o.a) (src_slot o.b) no_slot 0 0 0 s t no_condition kept

abbrev pub of_ternary : ℕ → Ternary → ℕ → Signs → ℕ → Parts
of_ternary k o m s kept =
    parts k (dst_slot o.d) (src_slot o.a) (src_slot o.b) (src_slot o.c) 0 0 m s no_truth no_condition kept

abbrev pub of_jump : ℕ → ℕ → Parts
of_jump k off = parts k no_slot no_slot no_slot no_slot off 0 0 no_signs no_truth no_condition 0

abbrev pub of_pop : ℕ → Hint → ℕ → ℕ → Parts
of_pop k h n kept = parts k (hint_slot h) no_slot no_slot no_slot 0 0 0 no_signs no_truth (condition_of 0 0 n) kept

abbrev pub of_compare : ℕ → Compare → Parts
of_compare k x =
    parts k (hint_slot x.hint) (src_slot x.operands.a) (src_slot x.operands.b) no_slot 0 0 0 no_signs no_truth
    (condition_of x.cc x.ccn x.n) x.kept

abbrev pub of_bitfield : ℕ → Bitfield → Parts
of_bitfield k x = of_ternary k x.operands x.m no_signs x.kept

abbrev pub of_shift : ℕ → Shift → Parts
of_shift k x = of_binary k x.operands no_signs no_truth x.kept

abbrev pub of_scan : ℕ → Scan → Parts
of_scan k x = of_unary k x.operands x.kept

-- the kind counts the diagrams of the list from 1
unfoldable pub parts_of : Instruction → Parts
parts_of (Instruction.Mov16 d imm l kept) = of_dst 1 d imm l kept
parts_of (Instruction.Mov32 d imm l kept) = of_dst 2 d imm l kept
parts_of (Instruction.GetSr d sr kept) = of_dst 3 d sr 0 kept
parts_of (Instruction.Iadd o s n sa sb shift kept) = of_binary 4 o (signs_of s n sa sb 0 shift) no_truth kept
parts_of (Instruction.Imadd o s n sa sb sc shift kept) = of_ternary 5 o 0 (signs_of s n sa sb sc shift) kept
parts_of (Instruction.Bfi x) = of_bitfield 6 x
parts_of (Instruction.Bfeil x) = of_bitfield 7 x
parts_of (Instruction.Extr x) = of_bitfield 8 x
parts_of (Instruction.Shlhi x) = of_bitfield 9 x
parts_of (Instruction.Shrhi x) = of_bitfield 10 x
parts_of (Instruction.Asr x) = of_shift 11 x
parts_of (Instruction.Asrh x) = of_shift 12 x
parts_of (Instruction.Bitop o t0 t1 t2 t3 kept) = of_binary 13 o no_signs (truth_of t0 t1 t2 t3) kept
parts_of (Instruction.Bitrev x) = of_scan 14 x
parts_of (Instruction.Popcount x) = of_scan 15 x
parts_of (Instruction.Ffs x) = of_scan 16 x
parts_of (Instruction.JmpExecAny off) = of_jump 17 off
parts_of (Instruction.JmpExecNone off) = of_jump 18 off
parts_of (Instruction.PopExec h n kept) = of_pop 19 h n kept
parts_of (Instruction.IfIcmp x) = of_compare 20 x
parts_of (Instruction.WhileIcmp x) = of_compare 21 x
parts_of (Instruction.ElseIcmp x) = of_compare 22 x

-- the place of the instruction's diagram in the list of rows, counted from 0
abbrev pub place_of : Instruction → ℕ
place_of i = (parts_of i).kind - 1

-- the bits that were printed "?", each at its own place
abbrev pub kept_of : Instruction → ℕ
kept_of i = (parts_of i).kept

-- ---- the length of the encoding

-- of a diagram: with a bit L that is 0, the last two bytes (four of twelve) are absent
abbrev pub length_by : Diagram → ℕ → ℕ
length_by r l =
    cond (eqb (field_mask r.fields "L") 0) r.bytes (cond (eqb l 0) (r.bytes - absent r.bytes) r.bytes)

-- of the instruction with these parts
unfoldable pub length_for : Parts → ℕ
length_for p = length_by (row_at (p.kind - 1)) p.l

-- ---- comparison

abbrev pub slot_numbers : Slot → List ℕ → List ℕ
slot_numbers s ns = s.kind ∷ s.hint ∷ s.number ∷ ns

-- all the numbers of the parts, in one list
abbrev pub numbers_of : Parts → List ℕ
numbers_of p =
    p.kind ∷ slot_numbers p.d (slot_numbers p.a (slot_numbers p.b (slot_numbers p.c
    (p.immediate ∷ p.l ∷ p.m
    ∷ p.signs.saturate ∷ p.signs.negate ∷ p.signs.sa ∷ p.signs.sb ∷ p.signs.sc ∷ p.signs.shift
    ∷ p.truth.tt0 ∷ p.truth.tt1 ∷ p.truth.tt2 ∷ p.truth.tt3
    ∷ p.condition.cc ∷ p.condition.ccn ∷ p.condition.n ∷ p.kept ∷ []))))

-- two instructions are the same where their numbers are
abbrev pub same : Instruction → Instruction → Bool
same i j = eq_list (numbers_of (parts_of i)) (numbers_of (parts_of j))
