-- Which threads compare: where one does not, what a mask instruction makes of its r0l does not depend on A and B.
use mathlib.Core.Path.{◌≡◌, refl}
use mathlib.Core.Bool.{false}
use Prim.Native.Nat.{ℕ}
use Rattle.isa.specs.declared.instruction.Instruction.{Instruction}
use Rattle.machine.specs.Meaning.{Meaning, writes, masks, jumps, meaning_of, pop_exec, if_icmp, while_icmp, else_icmp}

abbrev pub ComparesOnly : Meaning → Type 0
ComparesOnly (writes d a b c result) = Unit {0}
ComparesOnly (masks compares a b result) = (x y x' y' v : ℕ) → compares v ≡ false → result x y v ≡ result x' y' v
ComparesOnly (jumps any offset) = Unit {0}

pub compares_only : (i : Instruction) → ComparesOnly (meaning_of i)
unfolding meaning_of pop_exec if_icmp while_icmp else_icmp
compares_only (Instruction.Mov16 d imm16 l k) = tt
compares_only (Instruction.Mov32 d imm32 l k) = tt
compares_only (Instruction.GetSr d sr k) = tt
compares_only (Instruction.Iadd o S N As Bs shift k) = tt
compares_only (Instruction.Imadd o S N As Bs Cs shift k) = tt
compares_only (Instruction.Bfi o) = tt
compares_only (Instruction.Bfeil o) = tt
compares_only (Instruction.Extr o) = tt
compares_only (Instruction.Shlhi o) = tt
compares_only (Instruction.Shrhi o) = tt
compares_only (Instruction.Asr o) = tt
compares_only (Instruction.Asrh o) = tt
compares_only (Instruction.Bitop o tt0 tt1 tt2 tt3 k) = tt
compares_only (Instruction.Bitrev o) = tt
compares_only (Instruction.Popcount o) = tt
compares_only (Instruction.Ffs o) = tt
compares_only (Instruction.JmpExecAny off) = tt
compares_only (Instruction.JmpExecNone off) = tt
compares_only (Instruction.PopExec hint n k) = λ x y x' y' v e. refl
compares_only (Instruction.IfIcmp o) = λ x y x' y' v e. rw e
compares_only (Instruction.WhileIcmp o) = λ x y x' y' v e. rw e
compares_only (Instruction.ElseIcmp o) = λ x y x' y' v e. rw e
