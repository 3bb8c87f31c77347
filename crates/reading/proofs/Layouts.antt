-- The diagrams of one layout read the same fields, and keep the same bits, as the first of them does.
use Rattle.std.proofs.Common.{ℕ, ◌≡◌, refl, Some, bit_and}
use Rattle.isa.specs.Decode.{row_at, read_at}
use Rattle.isa.specs.Read.{bitfield, shift, scan, compare}
use Rattle.isa.specs.Diagram.{Fields, field_in, mask}
use Rattle.isa.specs.Rows.{rows}
use Rattle.isa.specs.declared.instruction.Instruction.{Instruction}

-- what the diagram at a place has in the word w: its fields, and its "?" bits
abbrev fields_at : ℕ → ℕ → Fields
fields_at place w = field_in (row_at place).fields w

abbrev kept_at : ℕ → ℕ → ℕ
kept_at place w = bit_and w (mask (row_at place).unknowns)

pub bfi : (w : ℕ) → read_at 5 w ≡ bitfield Instruction.Bfi (fields_at 5 w) (kept_at 5 w)
unfolding rows
bfi w = refl

pub bfeil : (w : ℕ) → read_at 6 w ≡ bitfield Instruction.Bfeil (fields_at 5 w) (kept_at 5 w)
unfolding rows
bfeil w = refl

pub extr : (w : ℕ) → read_at 7 w ≡ bitfield Instruction.Extr (fields_at 5 w) (kept_at 5 w)
unfolding rows
extr w = refl

pub shlhi : (w : ℕ) → read_at 8 w ≡ bitfield Instruction.Shlhi (fields_at 5 w) (kept_at 5 w)
unfolding rows
shlhi w = refl

pub shrhi : (w : ℕ) → read_at 9 w ≡ bitfield Instruction.Shrhi (fields_at 5 w) (kept_at 5 w)
unfolding rows
shrhi w = refl

pub asr : (w : ℕ) → read_at 10 w ≡ shift Instruction.Asr (fields_at 10 w) (kept_at 10 w)
unfolding rows
asr w = refl

pub asrh : (w : ℕ) → read_at 11 w ≡ shift Instruction.Asrh (fields_at 10 w) (kept_at 10 w)
unfolding rows
asrh w = refl

pub bitrev : (w : ℕ) → read_at 13 w ≡ scan Instruction.Bitrev (fields_at 13 w) (kept_at 13 w)
unfolding rows
bitrev w = refl

pub popcount : (w : ℕ) → read_at 14 w ≡ scan Instruction.Popcount (fields_at 13 w) (kept_at 13 w)
unfolding rows
popcount w = refl

pub ffs : (w : ℕ) → read_at 15 w ≡ scan Instruction.Ffs (fields_at 13 w) (kept_at 13 w)
unfolding rows
ffs w = refl

pub jmp_exec_any : (w : ℕ) → read_at 16 w ≡ Some (Instruction.JmpExecAny (fields_at 16 w "off").value)
unfolding rows
jmp_exec_any w = refl

pub jmp_exec_none : (w : ℕ) → read_at 17 w ≡ Some (Instruction.JmpExecNone (fields_at 16 w "off").value)
unfolding rows
jmp_exec_none w = refl

pub if_icmp : (w : ℕ) → read_at 19 w ≡ compare Instruction.IfIcmp (fields_at 19 w) (kept_at 19 w)
unfolding rows
if_icmp w = refl

pub while_icmp : (w : ℕ) → read_at 20 w ≡ compare Instruction.WhileIcmp (fields_at 19 w) (kept_at 19 w)
unfolding rows
while_icmp w = refl

pub else_icmp : (w : ℕ) → read_at 21 w ≡ compare Instruction.ElseIcmp (fields_at 19 w) (kept_at 19 w)
unfolding rows
else_icmp w = refl

pub ruleset layouts = (bfi, bfeil, extr, shlhi, shrhi, asr, asrh, bitrev, popcount, ffs, jmp_exec_any, jmp_exec_none, if_icmp, while_icmp, else_icmp)
