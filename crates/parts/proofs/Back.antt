-- From the parts back to the instruction, so that two instructions with the same numbers are the same.
use mathlib.Core.Path.{◌≡◌, refl, sym, ap, ◌∙◌}
use mathlib.Core.Bool.{true}
use mathlib.Core.List.{List, [], ◌∷◌}
use Prim.Native.Nat.{ℕ, ◌+◌, ◌-◌}
use lib.ListN.{get_or}
use Rattle.isa.specs.declared.operand.Destination.{Destination}
use Rattle.isa.specs.declared.operand.Source.{Source}
use Rattle.isa.specs.declared.operand.Hint.{Hint}
use Rattle.isa.specs.declared.operand.Dst.{Dst}
use Rattle.isa.specs.declared.operand.Src.{Src}
use Rattle.isa.specs.declared.operand.Unary.{Unary}
use Rattle.isa.specs.declared.operand.Binary.{Binary}
use Rattle.isa.specs.declared.operand.Ternary.{Ternary}
use Rattle.isa.specs.declared.instruction.Bitfield.{Bitfield}
use Rattle.isa.specs.declared.instruction.Shift.{Shift}
use Rattle.isa.specs.declared.instruction.Scan.{Scan}
use Rattle.isa.specs.declared.instruction.Compare.{Compare}
use Rattle.isa.specs.declared.instruction.Instruction.{Instruction}
use Rattle.isa.specs.declared.parts.Slot.{Slot}
use Rattle.isa.specs.declared.parts.Parts.{Parts}
use Rattle.isa.specs.Parts.{slot, signs_of, truth_of, condition_of, parts, hint_number, destination_slot, source_slot, dst_slot, src_slot}
use Rattle.isa.specs.Parts.{of_bitfield, of_shift, of_scan, of_compare, parts_of, numbers_of, same}
use Rattle.bits.proofs.Lists.{eq_list-is, eq_list_self}

-- ---- operands

abbrev hint_back : ℕ → Hint
hint_back n = get_or (Hint.None ∷ Hint.Cache ∷ []) n Hint.Discard

abbrev destination_back : Slot → Destination
destination_back s =
    get_or (Destination.Half s.number ∷ Destination.Register s.number ∷ []) (s.kind - 1) (Destination.Pair s.number)

abbrev source_back : Slot → Source
source_back s =
    get_or
    (Source.Half s.number ∷ Source.Register s.number ∷ Source.Pair s.number
    ∷ Source.UniformHalf s.number ∷ Source.UniformRegister s.number ∷ Source.UniformPair s.number ∷ [])
    (s.kind - 1) (Source.Immediate s.number)

abbrev dst_back : Slot → Dst
dst_back s = record { destination = destination_back s; hint = hint_back s.hint }

abbrev src_back : Slot → Src
src_back s = record { source = source_back s; hint = hint_back s.hint }

hint_back_lem : (h : Hint) → hint_back (hint_number h) ≡ h
hint_back_lem Hint.None = refl
hint_back_lem Hint.Cache = refl
hint_back_lem Hint.Discard = refl

dst-back : (d : Dst) → dst_back (dst_slot d) ≡ d
dst-back d = go d.destination ∙ ap (λ (h : Hint). record { destination = d.destination; hint = h }) (hint_back_lem d.hint)
  where
    go : (x : Destination) → dst_back (destination_slot x (hint_number d.hint))
        ≡ record { destination = x; hint = hint_back (hint_number d.hint) }
    go (Destination.Half x) = refl
    go (Destination.Register x) = refl
    go (Destination.Pair x) = refl

src-back : (s : Src) → src_back (src_slot s) ≡ s
src-back s = go s.source ∙ ap (λ (h : Hint). record { source = s.source; hint = h }) (hint_back_lem s.hint)
  where
    go : (x : Source) → src_back (source_slot x (hint_number s.hint))
        ≡ record { source = x; hint = hint_back (hint_number s.hint) }
    go (Source.Half x) = refl
    go (Source.Register x) = refl
    go (Source.Pair x) = refl
    go (Source.UniformHalf x) = refl
    go (Source.UniformRegister x) = refl
    go (Source.UniformPair x) = refl
    go (Source.Immediate x) = refl

-- ---- instructions, from the parts that they have

abbrev unary_back : Parts → Unary
unary_back p = record { d = dst_back p.d; a = src_back p.a }

abbrev binary_back : Parts → Binary
binary_back p = record { d = dst_back p.d; a = src_back p.a; b = src_back p.b }

abbrev ternary_back : Parts → Ternary
ternary_back p = record { d = dst_back p.d; a = src_back p.a; b = src_back p.b; c = src_back p.c }

abbrev bitfield_back : Parts → Bitfield
bitfield_back p = record { operands = ternary_back p; m = p.m; kept = p.kept }

abbrev shift_back : Parts → Shift
shift_back p = record { operands = binary_back p; kept = p.kept }

abbrev scan_back : Parts → Scan
scan_back p = record { operands = unary_back p; kept = p.kept }

abbrev compare_back : Parts → Compare
compare_back p =
    record {
      hint = hint_back p.d.hint;
      cc = p.condition.cc;
      ccn = p.condition.ccn;
      n = p.condition.n;
      operands = record { a = src_back p.a; b = src_back p.b };
      kept = p.kept;
    }

abbrev pub back : Parts → Instruction
back p =
    get_or
    (Instruction.Mov16 (dst_back p.d) p.immediate p.l p.kept
    ∷ Instruction.Mov32 (dst_back p.d) p.immediate p.l p.kept
    ∷ Instruction.GetSr (dst_back p.d) p.immediate p.kept
    ∷ Instruction.Iadd (binary_back p) p.signs.saturate p.signs.negate p.signs.sa p.signs.sb p.signs.shift p.kept
    ∷ Instruction.Imadd (ternary_back p) p.signs.saturate p.signs.negate p.signs.sa p.signs.sb p.signs.sc
    p.signs.shift p.kept
    ∷ Instruction.Bfi (bitfield_back p)
    ∷ Instruction.Bfeil (bitfield_back p)
    ∷ Instruction.Extr (bitfield_back p)
    ∷ Instruction.Shlhi (bitfield_back p)
    ∷ Instruction.Shrhi (bitfield_back p)
    ∷ Instruction.Asr (shift_back p)
    ∷ Instruction.Asrh (shift_back p)
    ∷ Instruction.Bitop (binary_back p) p.truth.tt0 p.truth.tt1 p.truth.tt2 p.truth.tt3 p.kept
    ∷ Instruction.Bitrev (scan_back p)
    ∷ Instruction.Popcount (scan_back p)
    ∷ Instruction.Ffs (scan_back p)
    ∷ Instruction.JmpExecAny p.immediate
    ∷ Instruction.JmpExecNone p.immediate
    ∷ Instruction.PopExec (hint_back p.d.hint) p.condition.n p.kept
    ∷ Instruction.IfIcmp (compare_back p)
    ∷ Instruction.WhileIcmp (compare_back p)
    ∷ [])
    (p.kind - 1)
    (Instruction.ElseIcmp (compare_back p))

module _ (k : ℕ) where
  bitfield-back : (x : Bitfield) → bitfield_back (of_bitfield k x) ≡ x
  bitfield-back x = rw (dst-back x.operands.d, src-back x.operands.a, src-back x.operands.b, src-back x.operands.c)

  shift_back_lem : (x : Shift) → shift_back (of_shift k x) ≡ x
  shift_back_lem x = rw (dst-back x.operands.d, src-back x.operands.a, src-back x.operands.b)

  scan-back : (x : Scan) → scan_back (of_scan k x) ≡ x
  scan-back x = rw (dst-back x.operands.d, src-back x.operands.a)

  compare-back : (x : Compare) → compare_back (of_compare k x) ≡ x
  compare-back x = rw (hint_back_lem x.hint, src-back x.operands.a, src-back x.operands.b)

pub parts-back : (i : Instruction) → back (parts_of i) ≡ i
unfolding parts_of
parts-back (Instruction.Mov16 d imm l kept) = rw (dst-back d)
parts-back (Instruction.Mov32 d imm l kept) = rw (dst-back d)
parts-back (Instruction.GetSr d sr kept) = rw (dst-back d)
parts-back (Instruction.Iadd o s n sa sb shift kept) = rw (dst-back o.d, src-back o.a, src-back o.b)
parts-back (Instruction.Imadd o s n sa sb sc shift kept) = rw (dst-back o.d, src-back o.a, src-back o.b, src-back o.c)
parts-back (Instruction.Bfi x) = ap Instruction.Bfi (bitfield-back 6 x)
parts-back (Instruction.Bfeil x) = ap Instruction.Bfeil (bitfield-back 7 x)
parts-back (Instruction.Extr x) = ap Instruction.Extr (bitfield-back 8 x)
parts-back (Instruction.Shlhi x) = ap Instruction.Shlhi (bitfield-back 9 x)
parts-back (Instruction.Shrhi x) = ap Instruction.Shrhi (bitfield-back 10 x)
parts-back (Instruction.Asr x) = ap Instruction.Asr (shift_back_lem 11 x)
parts-back (Instruction.Asrh x) = ap Instruction.Asrh (shift_back_lem 12 x)
parts-back (Instruction.Bitop o t0 t1 t2 t3 kept) = rw (dst-back o.d, src-back o.a, src-back o.b)
parts-back (Instruction.Bitrev x) = ap Instruction.Bitrev (scan-back 14 x)
parts-back (Instruction.Popcount x) = ap Instruction.Popcount (scan-back 15 x)
parts-back (Instruction.Ffs x) = ap Instruction.Ffs (scan-back 16 x)
parts-back (Instruction.JmpExecAny off) = refl
parts-back (Instruction.JmpExecNone off) = refl
parts-back (Instruction.PopExec h n kept) = rw (hint_back_lem h)
parts-back (Instruction.IfIcmp x) = ap Instruction.IfIcmp (compare-back 20 x)
parts-back (Instruction.WhileIcmp x) = ap Instruction.WhileIcmp (compare-back 21 x)
parts-back (Instruction.ElseIcmp x) = ap Instruction.ElseIcmp (compare-back 22 x)

-- ---- the list of numbers

abbrev at : List ℕ → ℕ → ℕ
at l k = get_or l k 0

abbrev slot_at : List ℕ → ℕ → Slot
slot_at l k = slot (at l k) (at l (1 + k)) (at l (2 + k))

abbrev parts_at : List ℕ → Parts
parts_at l =
    parts (at l 0) (slot_at l 1) (slot_at l 4) (slot_at l 7) (slot_at l 10) (at l 13) (at l 14) (at l 15)
    (signs_of (at l 16) (at l 17) (at l 18) (at l 19) (at l 20) (at l 21)) (truth_of (at l 22) (at l 23) (at l 24) (at l 25))
    (condition_of (at l 26) (at l 27) (at l 28)) (at l 29)

pub numbers-back : (p q : Parts) → numbers_of p ≡ numbers_of q → p ≡ q
numbers-back p q e = ap parts_at e

-- ---- comparison

pub same-is : (i j : Instruction) → same i j ≡ true → i ≡ j
same-is i j e =
    sym (parts-back i)
    ∙ ap back (numbers-back (parts_of i) (parts_of j) (eq_list-is (numbers_of (parts_of i)) (numbers_of (parts_of j)) e))
    ∙ parts-back j

pub same_self : (i : Instruction) → same i i ≡ true
same_self i = eq_list_self (numbers_of (parts_of i))
