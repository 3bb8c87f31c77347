-- The rows say what the lists said that stood in their place before the strips: the same words, lengths, fixed bits, fields, "?" bits and
-- readings, in the same order. So what the other definitions take from a row is as it was.
use Prim.Native.Nat.{ℕ}
use Prim.Native.String.{String}
use mathlib.Core.Path.{◌≡◌, refl}
use mathlib.Core.List.{List, [], ◌∷◌, map}
use Rattle.isa.specs.Diagram.{Diagram, Span, Fixed, Field, Fields}
use Rattle.isa.specs.Read.{mov16, mov32, get_sr, iadd, imadd, bitfield, shift, bitop, scan, jump, pop_exec, compare}
use Rattle.isa.specs.Rows.{rows}
use Rattle.isa.specs.Answer.{Reading}
use Rattle.isa.specs.declared.instruction.Instruction.{Instruction}
use Rattle.isa.proofs.Printed.{fixed_at, field_at}

abbrev unknown_at : ℕ → ℕ → Span
unknown_at hi lo = record { hi = hi; lo = lo }

-- what the other definitions use of a diagram
pub record Contents : Type 0 where
  pub heading : String
  pub bytes : ℕ
  pub fixeds : List Fixed
  pub fields : List Field
  pub unknowns : List Span
  pub read : Fields → ℕ → Reading

abbrev contents : String → ℕ → List Fixed → List Field → List Span → (Fields → ℕ → Reading) → Contents
contents h n fx fs us r = record { heading = h; bytes = n; fixeds = fx; fields = fs; unknowns = us; read = r }

abbrev pub contents_of : Diagram → Contents
contents_of d = contents d.heading d.bytes d.fixeds d.fields d.unknowns d.read

unfoldable pub before : List Contents
before =
    contents "mov16" 6
    (fixed_at 6 0 "1100010" ∷ fixed_at 8 8 "0" ∷ [])
    (field_at "Dt" 8 7 ∷ field_at "D" 14 9 ∷ field_at "L" 15 15 ∷ field_at "imm16" 31 16 ∷ field_at "Dx" 45 44 ∷ [])
    (unknown_at 43 32 ∷ unknown_at 47 46 ∷ [])
    mov16
    ∷ contents "mov32" 8
    (fixed_at 6 0 "1100010" ∷ fixed_at 8 8 "1" ∷ [])
    (field_at "Dt" 8 7 ∷ field_at "D" 14 9 ∷ field_at "L" 15 15 ∷ field_at "imm32" 47 16 ∷ field_at "Dx" 61 60 ∷ [])
    (unknown_at 59 48 ∷ unknown_at 63 62 ∷ [])
    mov32
    ∷ contents "get_sr" 4
    (fixed_at 6 0 "1110010" ∷ fixed_at 15 15 "0" ∷ [])
    (field_at "Dt" 8 7 ∷ field_at "D" 14 9 ∷ field_at "SR" 21 16 ∷ field_at "SRx" 27 26 ∷ field_at "Dx" 29 28 ∷ [])
    (unknown_at 25 22 ∷ unknown_at 31 30 ∷ [])
    get_sr
    ∷ contents "iadd" 8
    (fixed_at 5 0 "001110" ∷ fixed_at 15 15 "0" ∷ [])
    (field_at "S" 6 6 ∷ field_at "Dt" 8 7 ∷ field_at "D" 14 9 ∷ field_at "A" 21 16 ∷ field_at "At" 25 22 ∷ field_at "As" 26 26 ∷
    field_at "N" 27 27 ∷ field_at "B" 33 28 ∷ field_at "Bt" 37 34 ∷ field_at "Bs" 38 38 ∷ field_at "s1" 39 39 ∷
    field_at "Bx" 41 40 ∷ field_at "Ax" 43 42 ∷ field_at "Dx" 45 44 ∷ field_at "s2" 53 52 ∷ [])
    (unknown_at 51 46 ∷ unknown_at 63 54 ∷ [])
    iadd
    ∷ contents "imadd" 8
    (fixed_at 5 0 "011110" ∷ fixed_at 15 15 "0" ∷ [])
    (field_at "S" 6 6 ∷ field_at "Dt" 8 7 ∷ field_at "D" 14 9 ∷ field_at "A" 21 16 ∷ field_at "At" 25 22 ∷ field_at "As" 26 26 ∷
    field_at "N" 27 27 ∷ field_at "B" 33 28 ∷ field_at "Bt" 37 34 ∷ field_at "Bs" 38 38 ∷ field_at "s1" 39 39 ∷ field_at "C" 45 40 ∷
    field_at "Ct" 49 46 ∷ field_at "Cs" 50 50 ∷ field_at "s2" 53 52 ∷ field_at "Cx" 55 54 ∷ field_at "Bx" 57 56 ∷
    field_at "Ax" 59 58 ∷ field_at "Dx" 61 60 ∷ [])
    (unknown_at 51 51 ∷ unknown_at 63 62 ∷ [])
    imadd
    ∷ contents "bfi" 8
    (fixed_at 6 0 "0101110" ∷ fixed_at 15 15 "0" ∷ fixed_at 27 26 "00" ∷ [])
    (field_at "Dt" 8 7 ∷ field_at "D" 14 9 ∷ field_at "A" 21 16 ∷ field_at "At" 25 22 ∷ field_at "B" 33 28 ∷ field_at "Bt" 37 34 ∷
    field_at "m1" 39 38 ∷ field_at "C" 45 40 ∷ field_at "Ct" 49 46 ∷ field_at "m2" 51 50 ∷ field_at "Cx" 55 54 ∷
    field_at "Bx" 57 56 ∷ field_at "Ax" 59 58 ∷ field_at "Dx" 61 60 ∷ field_at "m3" 63 63 ∷ [])
    (unknown_at 53 52 ∷ unknown_at 62 62 ∷ [])
    (bitfield Instruction.Bfi)
    ∷ contents "bfeil" 8
    (fixed_at 6 0 "0101110" ∷ fixed_at 15 15 "1" ∷ fixed_at 27 26 "00" ∷ [])
    (field_at "Dt" 8 7 ∷ field_at "D" 14 9 ∷ field_at "A" 21 16 ∷ field_at "At" 25 22 ∷ field_at "B" 33 28 ∷ field_at "Bt" 37 34 ∷
    field_at "m1" 39 38 ∷ field_at "C" 45 40 ∷ field_at "Ct" 49 46 ∷ field_at "m2" 51 50 ∷ field_at "Cx" 55 54 ∷
    field_at "Bx" 57 56 ∷ field_at "Ax" 59 58 ∷ field_at "Dx" 61 60 ∷ field_at "m3" 63 63 ∷ [])
    (unknown_at 53 52 ∷ unknown_at 62 62 ∷ [])
    (bitfield Instruction.Bfeil)
    ∷ contents "extr" 8
    (fixed_at 6 0 "0101110" ∷ fixed_at 15 15 "0" ∷ fixed_at 27 26 "01" ∷ [])
    (field_at "Dt" 8 7 ∷ field_at "D" 14 9 ∷ field_at "A" 21 16 ∷ field_at "At" 25 22 ∷ field_at "B" 33 28 ∷ field_at "Bt" 37 34 ∷
    field_at "m1" 39 38 ∷ field_at "C" 45 40 ∷ field_at "Ct" 49 46 ∷ field_at "m2" 51 50 ∷ field_at "Cx" 55 54 ∷
    field_at "Bx" 57 56 ∷ field_at "Ax" 59 58 ∷ field_at "Dx" 61 60 ∷ field_at "m3" 63 63 ∷ [])
    (unknown_at 53 52 ∷ unknown_at 62 62 ∷ [])
    (bitfield Instruction.Extr)
    ∷ contents "shlhi" 8
    (fixed_at 6 0 "0101110" ∷ fixed_at 15 15 "0" ∷ fixed_at 27 26 "10" ∷ [])
    (field_at "Dt" 8 7 ∷ field_at "D" 14 9 ∷ field_at "A" 21 16 ∷ field_at "At" 25 22 ∷ field_at "B" 33 28 ∷ field_at "Bt" 37 34 ∷
    field_at "m1" 39 38 ∷ field_at "C" 45 40 ∷ field_at "Ct" 49 46 ∷ field_at "m2" 51 50 ∷ field_at "Cx" 55 54 ∷
    field_at "Bx" 57 56 ∷ field_at "Ax" 59 58 ∷ field_at "Dx" 61 60 ∷ field_at "m3" 63 63 ∷ [])
    (unknown_at 53 52 ∷ unknown_at 62 62 ∷ [])
    (bitfield Instruction.Shlhi)
    ∷ contents "shrhi" 8
    (fixed_at 6 0 "0101110" ∷ fixed_at 15 15 "1" ∷ fixed_at 27 26 "10" ∷ [])
    (field_at "Dt" 8 7 ∷ field_at "D" 14 9 ∷ field_at "A" 21 16 ∷ field_at "At" 25 22 ∷ field_at "B" 33 28 ∷ field_at "Bt" 37 34 ∷
    field_at "m1" 39 38 ∷ field_at "C" 45 40 ∷ field_at "Ct" 49 46 ∷ field_at "m2" 51 50 ∷ field_at "Cx" 55 54 ∷
    field_at "Bx" 57 56 ∷ field_at "Ax" 59 58 ∷ field_at "Dx" 61 60 ∷ field_at "m3" 63 63 ∷ [])
    (unknown_at 53 52 ∷ unknown_at 62 62 ∷ [])
    (bitfield Instruction.Shrhi)
    ∷ contents "asr" 8
    (fixed_at 6 0 "0101110" ∷ fixed_at 15 15 "1" ∷ fixed_at 27 26 "01" ∷ [])
    (field_at "Dt" 8 7 ∷ field_at "D" 14 9 ∷ field_at "A" 21 16 ∷ field_at "At" 25 22 ∷ field_at "B" 33 28 ∷ field_at "Bt" 37 34 ∷
    field_at "Bx" 57 56 ∷ field_at "Ax" 59 58 ∷ field_at "Dx" 61 60 ∷ [])
    (unknown_at 55 38 ∷ unknown_at 63 62 ∷ [])
    (shift Instruction.Asr)
    ∷ contents "asrh" 8
    (fixed_at 6 0 "0101110" ∷ fixed_at 15 15 "1" ∷ fixed_at 27 26 "11" ∷ [])
    (field_at "Dt" 8 7 ∷ field_at "D" 14 9 ∷ field_at "A" 21 16 ∷ field_at "At" 25 22 ∷ field_at "B" 33 28 ∷ field_at "Bt" 37 34 ∷
    field_at "Bx" 57 56 ∷ field_at "Ax" 59 58 ∷ field_at "Dx" 61 60 ∷ [])
    (unknown_at 55 38 ∷ unknown_at 63 62 ∷ [])
    (shift Instruction.Asrh)
    ∷ contents "bitop" 6
    (fixed_at 6 0 "1111110" ∷ fixed_at 15 15 "0" ∷ [])
    (field_at "Dt" 8 7 ∷ field_at "D" 14 9 ∷ field_at "A" 21 16 ∷ field_at "At" 25 22 ∷ field_at "tt0" 26 26 ∷ field_at "tt1" 27 27 ∷
    field_at "B" 33 28 ∷ field_at "Bt" 37 34 ∷ field_at "tt2" 38 38 ∷ field_at "tt3" 39 39 ∷ field_at "Bx" 41 40 ∷
    field_at "Ax" 43 42 ∷ field_at "Dx" 45 44 ∷ [])
    (unknown_at 47 46 ∷ [])
    bitop
    ∷ contents "bitrev" 6
    (fixed_at 6 0 "0111110" ∷ fixed_at 15 15 "0" ∷ fixed_at 39 26 "00000000000001" ∷ [])
    (field_at "Dt" 8 7 ∷ field_at "D" 14 9 ∷ field_at "A" 21 16 ∷ field_at "At" 25 22 ∷ field_at "Ax" 43 42 ∷ field_at "Dx" 45 44 ∷
    [])
    (unknown_at 41 40 ∷ unknown_at 47 46 ∷ [])
    (scan Instruction.Bitrev)
    ∷ contents "popcount" 6
    (fixed_at 6 0 "0111110" ∷ fixed_at 15 15 "0" ∷ fixed_at 39 26 "00000000000010" ∷ [])
    (field_at "Dt" 8 7 ∷ field_at "D" 14 9 ∷ field_at "A" 21 16 ∷ field_at "At" 25 22 ∷ field_at "Ax" 43 42 ∷ field_at "Dx" 45 44 ∷
    [])
    (unknown_at 41 40 ∷ unknown_at 47 46 ∷ [])
    (scan Instruction.Popcount)
    ∷ contents "ffs" 6
    (fixed_at 6 0 "0111110" ∷ fixed_at 15 15 "0" ∷ fixed_at 39 26 "00000000000011" ∷ [])
    (field_at "Dt" 8 7 ∷ field_at "D" 14 9 ∷ field_at "A" 21 16 ∷ field_at "At" 25 22 ∷ field_at "Ax" 43 42 ∷ field_at "Dx" 45 44 ∷
    [])
    (unknown_at 41 40 ∷ unknown_at 47 46 ∷ [])
    (scan Instruction.Ffs)
    ∷ contents "jmp_exec_any" 6
    (fixed_at 15 0 "1100000000000000" ∷ [])
    (field_at "off" 47 16 ∷ [])
    ([])
    (jump Instruction.JmpExecAny)
    ∷ contents "jmp_exec_none" 6
    (fixed_at 15 0 "1100000000100000" ∷ [])
    (field_at "off" 47 16 ∷ [])
    ([])
    (jump Instruction.JmpExecNone)
    ∷ contents "pop_exec" 6
    (fixed_at 6 0 "1010010" ∷ fixed_at 10 9 "11" ∷ fixed_at 47 13 "00000000000000000000000000000000000" ∷ [])
    (field_at "Dt" 7 7 ∷ field_at "n" 12 11 ∷ [])
    (unknown_at 8 8 ∷ [])
    pop_exec
    ∷ contents "if_icmp" 6
    (fixed_at 6 0 "1010010" ∷ fixed_at 10 9 "00" ∷ fixed_at 27 26 "00" ∷ fixed_at 39 38 "00" ∷ fixed_at 45 44 "00" ∷ [])
    (field_at "Dt" 7 7 ∷ field_at "ccn" 8 8 ∷ field_at "n" 12 11 ∷ field_at "cc" 15 13 ∷ field_at "A" 21 16 ∷ field_at "At" 25 22 ∷
    field_at "B" 33 28 ∷ field_at "Bt" 37 34 ∷ field_at "Bx" 41 40 ∷ field_at "Ax" 43 42 ∷ [])
    (unknown_at 47 46 ∷ [])
    (compare Instruction.IfIcmp)
    ∷ contents "while_icmp" 6
    (fixed_at 6 0 "1010010" ∷ fixed_at 10 9 "10" ∷ fixed_at 27 26 "00" ∷ fixed_at 39 38 "00" ∷ fixed_at 45 44 "00" ∷ [])
    (field_at "Dt" 7 7 ∷ field_at "ccn" 8 8 ∷ field_at "n" 12 11 ∷ field_at "cc" 15 13 ∷ field_at "A" 21 16 ∷ field_at "At" 25 22 ∷
    field_at "B" 33 28 ∷ field_at "Bt" 37 34 ∷ field_at "Bx" 41 40 ∷ field_at "Ax" 43 42 ∷ [])
    (unknown_at 47 46 ∷ [])
    (compare Instruction.WhileIcmp)
    ∷ contents "else_icmp" 6
    (fixed_at 6 0 "1010010" ∷ fixed_at 10 9 "01" ∷ fixed_at 27 26 "00" ∷ fixed_at 39 38 "00" ∷ fixed_at 45 44 "00" ∷ [])
    (field_at "Dt" 7 7 ∷ field_at "ccn" 8 8 ∷ field_at "n" 12 11 ∷ field_at "cc" 15 13 ∷ field_at "A" 21 16 ∷ field_at "At" 25 22 ∷
    field_at "B" 33 28 ∷ field_at "Bt" 37 34 ∷ field_at "Bx" 41 40 ∷ field_at "Ax" 43 42 ∷ [])
    (unknown_at 47 46 ∷ [])
    (compare Instruction.ElseIcmp)
    ∷ []

pub rows_as_before : map contents_of rows ≡ before
unfolding rows before
rows_as_before = refl
