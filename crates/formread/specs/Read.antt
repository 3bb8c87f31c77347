-- The instruction that 48 bytes say, by the kind and the places of docs/byte-form.md: what reading a byte form goes by. Bytes that the
-- layout of a kind has no use for are not looked at.
use Rattle.std.specs.Prelude.{ℕ, ◌+◌, ◌*◌, ◌-◌, cond, List, [], ◌∷◌, eqb, get_or, take, drop}
use Rattle.bits.specs.Word.{le}
use Rattle.isa.specs.declared.operand.Destination.{Destination}
use Rattle.isa.specs.declared.operand.Source.{Source}
use Rattle.isa.specs.declared.operand.Hint.{Hint}
use Rattle.isa.specs.declared.operand.Dst.{Dst}
use Rattle.isa.specs.declared.operand.Src.{Src}
use Rattle.isa.specs.declared.operand.Unary.{Unary}
use Rattle.isa.specs.declared.operand.Binary.{Binary}
use Rattle.isa.specs.declared.operand.Ternary.{Ternary}
use Rattle.isa.specs.declared.operand.Compared.{Compared}
use Rattle.isa.specs.declared.instruction.Bitfield.{Bitfield}
use Rattle.isa.specs.declared.instruction.Shift.{Shift}
use Rattle.isa.specs.declared.instruction.Scan.{Scan}
use Rattle.isa.specs.declared.instruction.Compare.{Compare}
use Rattle.isa.specs.declared.instruction.Instruction.{Instruction}

abbrev pub at : List ℕ → ℕ → ℕ
at b k = get_or b k 0

abbrev pub number_at : List ℕ → ℕ → ℕ → ℕ
number_at b k n = le (take n (drop k b))

abbrev pub hint_from : ℕ → Hint
hint_from h = cond (eqb h 1) Hint.Cache (cond (eqb h 2) Hint.Discard Hint.None)

abbrev pub destination_from : ℕ → ℕ → Destination
destination_from k x = cond (eqb k 2) (Destination.Register x) (cond (eqb k 3) (Destination.Pair x) (Destination.Half x))

-- only the half of a uniform has a number of two bytes
abbrev pub source_from : ℕ → ℕ → ℕ → Source
source_from k x hi =
    cond (eqb k 2) (Source.Register x)
    (cond (eqb k 3) (Source.Pair x)
    (cond (eqb k 4) (Source.UniformHalf (x + 256 * hi))
    (cond (eqb k 5) (Source.UniformRegister x)
    (cond (eqb k 6) (Source.UniformPair x) (cond (eqb k 7) (Source.Immediate x) (Source.Half x))))))

abbrev pub dst_at : List ℕ → ℕ → Dst
dst_at b k = record { destination = destination_from (at b k) (at b (k + 2)); hint = hint_from (at b (k + 1)) }

abbrev pub src_at : List ℕ → ℕ → Src
src_at b k = record { source = source_from (at b k) (at b (k + 2)) (at b (k + 3)); hint = hint_from (at b (k + 1)) }

abbrev pub kept_from : List ℕ → ℕ
kept_from b = number_at b 40 8

abbrev pub unary_from : List ℕ → Unary
unary_from b = record { d = dst_at b 4; a = src_at b 8 }

abbrev pub binary_from : List ℕ → Binary
binary_from b = record { d = dst_at b 4; a = src_at b 8; b = src_at b 12 }

abbrev pub ternary_from : List ℕ → Ternary
ternary_from b = record { d = dst_at b 4; a = src_at b 8; b = src_at b 12; c = src_at b 16 }

abbrev pub compared_from : List ℕ → Compared
compared_from b = record { a = src_at b 8; b = src_at b 12 }

abbrev pub bitfield_from : List ℕ → Bitfield
bitfield_from b = record { operands = ternary_from b; m = at b 3; kept = kept_from b }

abbrev pub shift_from : List ℕ → Shift
shift_from b = record { operands = binary_from b; kept = kept_from b }

abbrev pub scan_from : List ℕ → Scan
scan_from b = record { operands = unary_from b; kept = kept_from b }

abbrev pub compare_from : List ℕ → Compare
compare_from b =
    record {
      hint = hint_from (at b 5);
      cc = at b 34;
      ccn = at b 35;
      n = at b 36;
      operands = compared_from b;
      kept = kept_from b;
    }

-- the instruction of each kind, in the order of the list of diagrams
abbrev pub mov16_from : List ℕ → Instruction
mov16_from b = Instruction.Mov16 (dst_at b 4) (number_at b 20 2) (at b 2) (kept_from b)

abbrev pub mov32_from : List ℕ → Instruction
mov32_from b = Instruction.Mov32 (dst_at b 4) (number_at b 20 4) (at b 2) (kept_from b)

abbrev pub get_sr_from : List ℕ → Instruction
get_sr_from b = Instruction.GetSr (dst_at b 4) (at b 20) (kept_from b)

abbrev pub iadd_from : List ℕ → Instruction
iadd_from b = Instruction.Iadd (binary_from b) (at b 24) (at b 25) (at b 26) (at b 27) (at b 29) (kept_from b)

abbrev pub imadd_from : List ℕ → Instruction
imadd_from b = Instruction.Imadd (ternary_from b) (at b 24) (at b 25) (at b 26) (at b 27) (at b 28) (at b 29) (kept_from b)

abbrev pub bitop_from : List ℕ → Instruction
bitop_from b = Instruction.Bitop (binary_from b) (at b 30) (at b 31) (at b 32) (at b 33) (kept_from b)

abbrev pub pop_exec_from : List ℕ → Instruction
pop_exec_from b = Instruction.PopExec (hint_from (at b 5)) (at b 36) (kept_from b)

abbrev pub makers : List (List ℕ → Instruction)
makers =
    mov16_from ∷ mov32_from ∷ get_sr_from ∷ iadd_from ∷ imadd_from
    ∷ (λ b. Instruction.Bfi (bitfield_from b)) ∷ (λ b. Instruction.Bfeil (bitfield_from b)) ∷ (λ b. Instruction.Extr (bitfield_from b))
    ∷ (λ b. Instruction.Shlhi (bitfield_from b)) ∷ (λ b. Instruction.Shrhi (bitfield_from b))
    ∷ (λ b. Instruction.Asr (shift_from b)) ∷ (λ b. Instruction.Asrh (shift_from b))
    ∷ bitop_from
    ∷ (λ b. Instruction.Bitrev (scan_from b)) ∷ (λ b. Instruction.Popcount (scan_from b)) ∷ (λ b. Instruction.Ffs (scan_from b))
    ∷ (λ b. Instruction.JmpExecAny (number_at b 20 4)) ∷ (λ b. Instruction.JmpExecNone (number_at b 20 4))
    ∷ pop_exec_from
    ∷ (λ b. Instruction.IfIcmp (compare_from b)) ∷ (λ b. Instruction.WhileIcmp (compare_from b))
    ∷ (λ b. Instruction.ElseIcmp (compare_from b))
    ∷ []

-- the one instruction whose byte form bytes of a kind can be
unfoldable pub instruction_from : ℕ → List ℕ → Instruction
instruction_from kind b = get_or makers (kind - 1) mov16_from b
