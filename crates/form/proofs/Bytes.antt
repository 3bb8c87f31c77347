-- The byte form of an instruction that fits is a list of bytes.
use mathlib.Core.List.{List, [], ◌∷◌}
use Prim.Native.Nat.{ℕ, zero, suc, ◌%◌, ◌≤◌}
use native.Mathlib.Omega.{arith}
use lib.Dec.{lit<}
use Rattle.bits.proofs.Laws.{Bytes}
use Rattle.isa.specs.declared.operand.Destination.{Destination}
use Rattle.isa.specs.declared.operand.Source.{Source}
use Rattle.isa.specs.declared.operand.Hint.{Hint}
use Rattle.isa.specs.declared.operand.Dst.{Dst}
use Rattle.isa.specs.declared.operand.Src.{Src}
use Rattle.isa.specs.declared.operand.Unary.{Unary}
use Rattle.isa.specs.declared.operand.Binary.{Binary}
use Rattle.isa.specs.declared.operand.Ternary.{Ternary}
use Rattle.isa.specs.declared.instruction.Compare.{Compare}
use Rattle.isa.specs.declared.instruction.Instruction.{Instruction}
use Rattle.isa.specs.declared.parts.Slot.{Slot}
use Rattle.isa.specs.declared.parts.Signs.{Signs}
use Rattle.isa.specs.declared.parts.Truth.{Truth}
use Rattle.isa.specs.declared.parts.Condition.{Condition}
use Rattle.isa.specs.declared.parts.Parts.{Parts}
use Rattle.isa.specs.Parts.{hint_number, destination_slot, source_slot, dst_slot, src_slot, no_slot, no_signs, no_truth, no_condition}
use Rattle.isa.specs.Parts.{signs_of, truth_of, condition_of, of_dst, of_unary, of_binary, of_ternary, of_jump, of_pop, of_compare, parts_of, length_for}
use Rattle.lengths.proofs.Length.{length_for_lem}
use Rattle.form.specs.Form.{lay_out, form_of}
use Rattle.form.specs.Fits.{U8, Fits}

-- each element of a list that is written out is a byte
data Each : List ℕ → Type 0 where
  end : Each []
  ◌▸◌ : {x : ℕ} {s : List ℕ} → U8 x → Each s → Each (x ∷ s)

infixr 5 ◌▸◌
each-bytes : {s : List ℕ} → Each s → Bytes s
each-bytes end k = lit< tt
each-bytes (h ▸ e) zero = h
each-bytes (h ▸ e) (suc k) = each-bytes e k

-- ---- the parts that stand in the form as they are, each in one byte

abbrev OfSlot : Slot → Type 0
OfSlot s = U8 s.kind × U8 s.hint

abbrev OfSigns : Signs → Type 0
OfSigns s = U8 s.saturate × U8 s.negate × U8 s.sa × U8 s.sb × U8 s.sc × U8 s.shift

abbrev OfTruth : Truth → Type 0
OfTruth t = U8 t.tt0 × U8 t.tt1 × U8 t.tt2 × U8 t.tt3

abbrev OfCondition : Condition → Type 0
OfCondition c = U8 c.cc × U8 c.ccn × U8 c.n

abbrev OfParts : Parts → Type 0
OfParts p =
    U8 p.kind × U8 p.l × U8 p.m × OfSlot p.d × OfSlot p.a × OfSlot p.b × OfSlot p.c
    × OfSigns p.signs × OfTruth p.truth × OfCondition p.condition

zero8 : U8 0
zero8 = lit< tt

cut : (x : ℕ) → U8 (x % 256)
cut x = omega arith

each_laid : (p : Parts) → length_for p ≤ 8 → OfParts p → Each (lay_out p)
each_laid p h (k, l, m, d, a, b, c, s, t, o) =
    let n : U8 (length_for p) = omega arith in
    k ▸ n ▸ l ▸ m
    ▸ d.0 ▸ d.1 ▸ cut _ ▸ cut _ ▸ a.0 ▸ a.1 ▸ cut _ ▸ cut _ ▸ b.0 ▸ b.1 ▸ cut _ ▸ cut _ ▸ c.0 ▸ c.1 ▸ cut _ ▸ cut _
    ▸ cut _ ▸ cut _ ▸ cut _ ▸ cut _
    ▸ s.0 ▸ s.1 ▸ s.2 ▸ s.3 ▸ s.4 ▸ s.5
    ▸ t.0 ▸ t.1 ▸ t.2 ▸ t.3
    ▸ o.0 ▸ o.1 ▸ o.2 ▸ zero8 ▸ zero8 ▸ zero8
    ▸ cut _ ▸ cut _ ▸ cut _ ▸ cut _ ▸ cut _ ▸ cut _ ▸ cut _ ▸ cut _ ▸ end

-- ---- operands

hint8 : (h : Hint) → U8 (hint_number h)
hint8 Hint.None = lit< tt
hint8 Hint.Cache = lit< tt
hint8 Hint.Discard = lit< tt

destination8 : (d : Destination) (h : ℕ) → U8 h → OfSlot (destination_slot d h)
destination8 (Destination.Half x) h f = (lit< tt, f)
destination8 (Destination.Register r) h f = (lit< tt, f)
destination8 (Destination.Pair r) h f = (lit< tt, f)

source8 : (s : Source) (h : ℕ) → U8 h → OfSlot (source_slot s h)
source8 (Source.Half x) h f = (lit< tt, f)
source8 (Source.Register r) h f = (lit< tt, f)
source8 (Source.Pair r) h f = (lit< tt, f)
source8 (Source.UniformHalf x) h f = (lit< tt, f)
source8 (Source.UniformRegister r) h f = (lit< tt, f)
source8 (Source.UniformPair r) h f = (lit< tt, f)
source8 (Source.Immediate x) h f = (lit< tt, f)

dst8 : (d : Dst) → OfSlot (dst_slot d)
dst8 d = destination8 d.destination (hint_number d.hint) (hint8 d.hint)

src8 : (s : Src) → OfSlot (src_slot s)
src8 s = source8 s.source (hint_number s.hint) (hint8 s.hint)

-- ---- the layouts of the parts

no_slot8 : OfSlot no_slot
no_slot8 = (zero8, zero8)

no_signs8 : OfSigns no_signs
no_signs8 = (zero8, zero8, zero8, zero8, zero8, zero8)

no_truth8 : OfTruth no_truth
no_truth8 = (zero8, zero8, zero8, zero8)

no_condition8 : OfCondition no_condition
no_condition8 = (zero8, zero8, zero8)

module _ (k : ℕ) (h : U8 k) where
  of-dst : (d : Dst) (imm l kept : ℕ) → U8 l → OfParts (of_dst k d imm l kept)
  of-dst d imm l kept f = (h, f, zero8, dst8 d, no_slot8, no_slot8, no_slot8, no_signs8, no_truth8, no_condition8)

  of-unary : (o : Unary) (kept : ℕ) → OfParts (of_unary k o kept)
  of-unary o kept = (h, zero8, zero8, dst8 o.d, src8 o.a, no_slot8, no_slot8, no_signs8, no_truth8, no_condition8)

  of-binary : (o : Binary) (s : Signs) (t : Truth) (kept : ℕ) → OfSigns s → OfTruth t → OfParts (of_binary k o s t kept)
  of-binary o s t kept f g = (h, zero8, zero8, dst8 o.d, src8 o.a, src8 o.b, no_slot8, f, g, no_condition8)

  of-ternary : (o : Ternary) (m : ℕ) (s : Signs) (kept : ℕ) → U8 m → OfSigns s → OfParts (of_ternary k o m s kept)
  of-ternary o m s kept f g = (h, zero8, f, dst8 o.d, src8 o.a, src8 o.b, src8 o.c, g, no_truth8, no_condition8)

  of-jump : (off : ℕ) → OfParts (of_jump k off)
  of-jump off = (h, zero8, zero8, no_slot8, no_slot8, no_slot8, no_slot8, no_signs8, no_truth8, no_condition8)

  of_pop_lem : (x : Hint) (n kept : ℕ) → U8 n → OfParts (of_pop k x n kept)
  of_pop_lem x n kept f =
      (h, zero8, zero8, (zero8, hint8 x), no_slot8, no_slot8, no_slot8, no_signs8, no_truth8, (zero8, zero8, f))

  of-compare : (x : Compare) → OfCondition (condition_of x.cc x.ccn x.n) → OfParts (of_compare k x)
  of-compare x f =
      (h, zero8, zero8, (zero8, hint8 x.hint), src8 x.operands.a, src8 x.operands.b, no_slot8, no_signs8, no_truth8, f)

of_parts : (i : Instruction) → Fits i → OfParts (parts_of i)
unfolding parts_of
of_parts (Instruction.Mov16 d imm l kept) f = of-dst 1 (lit< tt) d imm l kept f.2
of_parts (Instruction.Mov32 d imm l kept) f = of-dst 2 (lit< tt) d imm l kept f.2
of_parts (Instruction.GetSr d sr kept) f = of-dst 3 (lit< tt) d sr 0 kept zero8
of_parts (Instruction.Iadd o s n sa sb shift kept) f =
    of-binary 4 (lit< tt) o (signs_of s n sa sb 0 shift) no_truth kept (f.1, f.2, f.3, f.4, zero8, f.5) no_truth8
of_parts (Instruction.Imadd o s n sa sb sc shift kept) f =
    of-ternary 5 (lit< tt) o 0 (signs_of s n sa sb sc shift) kept zero8 (f.1, f.2, f.3, f.4, f.5, f.6)
of_parts (Instruction.Bfi x) f = of-ternary 6 (lit< tt) x.operands x.m no_signs x.kept f.1 no_signs8
of_parts (Instruction.Bfeil x) f = of-ternary 7 (lit< tt) x.operands x.m no_signs x.kept f.1 no_signs8
of_parts (Instruction.Extr x) f = of-ternary 8 (lit< tt) x.operands x.m no_signs x.kept f.1 no_signs8
of_parts (Instruction.Shlhi x) f = of-ternary 9 (lit< tt) x.operands x.m no_signs x.kept f.1 no_signs8
of_parts (Instruction.Shrhi x) f = of-ternary 10 (lit< tt) x.operands x.m no_signs x.kept f.1 no_signs8
of_parts (Instruction.Asr x) f = of-binary 11 (lit< tt) x.operands no_signs no_truth x.kept no_signs8 no_truth8
of_parts (Instruction.Asrh x) f = of-binary 12 (lit< tt) x.operands no_signs no_truth x.kept no_signs8 no_truth8
of_parts (Instruction.Bitop o t0 t1 t2 t3 kept) f =
    of-binary 13 (lit< tt) o no_signs (truth_of t0 t1 t2 t3) kept no_signs8 (f.1, f.2, f.3, f.4)
of_parts (Instruction.Bitrev x) f = of-unary 14 (lit< tt) x.operands x.kept
of_parts (Instruction.Popcount x) f = of-unary 15 (lit< tt) x.operands x.kept
of_parts (Instruction.Ffs x) f = of-unary 16 (lit< tt) x.operands x.kept
of_parts (Instruction.JmpExecAny off) f = of-jump 17 (lit< tt) off
of_parts (Instruction.JmpExecNone off) f = of-jump 18 (lit< tt) off
of_parts (Instruction.PopExec h n kept) f = of_pop_lem 19 (lit< tt) h n kept f.0
of_parts (Instruction.IfIcmp x) f = of-compare 20 (lit< tt) x (f.0, f.1, f.2)
of_parts (Instruction.WhileIcmp x) f = of-compare 21 (lit< tt) x (f.0, f.1, f.2)
of_parts (Instruction.ElseIcmp x) f = of-compare 22 (lit< tt) x (f.0, f.1, f.2)

pub form_bytes : (i : Instruction) → Fits i → Bytes (form_of i)
form_bytes i f = each-bytes (each_laid (parts_of i) (length_for_lem i).1 (of_parts i f))
