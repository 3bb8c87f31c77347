-- The built diagrams, one list in the order of document 002, each as the document prints it, from the top bit to bit 0; fixed bits side by
-- side are one cell. "Dt" of the movs is the field that it prints below bits 8 and 7, and bit 8, which it shares, is fixed too.
use Rattle.std.specs.Prelude.{List, [], ◌∷◌}
use Rattle.isa.specs.Strip.{fixed, ◌of◌, unknown, ◌above◌, ◌·◌}
use Rattle.isa.specs.Diagram.{Diagram, diagram}
use Rattle.isa.specs.Read.{mov16, mov32, get_sr, iadd, imadd, bitfield, shift, bitop, scan, jump, pop_exec, compare}
use Rattle.isa.specs.declared.instruction.Instruction.{Instruction}

unfoldable pub rows : List Diagram
rows =
    -- ---- Move Instructions

    -- mov (Move 16-bit Immediate)
    diagram "mov16" 6 mov16
    (unknown 2 · "Dx" of 2 · unknown 12 · "imm16" of 16 · "L" of 1 · "D" of 6 · "0?" above "Dt" · fixed "1100010")
    -- mov (Move 32-bit Immediate)
    ∷ diagram "mov32" 8 mov32
    (unknown 2 · "Dx" of 2 · unknown 12 · "imm32" of 32 · "L" of 1 · "D" of 6 · "1?" above "Dt" · fixed "1100010")
    -- get_sr (Move From Special Register)
    ∷ diagram "get_sr" 4 get_sr
    (unknown 2 · "Dx" of 2 · "SRx" of 2 · unknown 4 · "SR" of 6 · fixed "0" · "D" of 6 · "Dt" of 2 · fixed "1110010")
    -- ---- Integer Arithmetic Instructions

    -- iadd (Integer Add or Subtract)
    ∷ diagram "iadd" 8 iadd
    (unknown 10 · "s2" of 2 · unknown 6 · "Dx" of 2 · "Ax" of 2 · "Bx" of 2 · "s1" of 1 · "Bs" of 1 · "Bt" of 4 · "B" of 6 ·
    "N" of 1 · "As" of 1 · "At" of 4 · "A" of 6 · fixed "0" · "D" of 6 · "Dt" of 2 · "S" of 1 · fixed "001110")
    -- imadd (Integer Multiply-Add or Subtract)
    ∷ diagram "imadd" 8 imadd
    (unknown 2 · "Dx" of 2 · "Ax" of 2 · "Bx" of 2 · "Cx" of 2 · "s2" of 2 · unknown 1 · "Cs" of 1 · "Ct" of 4 · "C" of 6 ·
    "s1" of 1 · "Bs" of 1 · "Bt" of 4 · "B" of 6 · "N" of 1 · "As" of 1 · "At" of 4 · "A" of 6 · fixed "0" · "D" of 6 ·
    "Dt" of 2 · "S" of 1 · fixed "011110")
    -- ---- Shift/Bitfield Instructions

    -- bfi (Bitfield Insert/Shift Left)
    ∷ diagram "bfi" 8 (bitfield Instruction.Bfi)
    ("m3" of 1 · unknown 1 · "Dx" of 2 · "Ax" of 2 · "Bx" of 2 · "Cx" of 2 · unknown 2 · "m2" of 2 · "Ct" of 4 · "C" of 6 ·
    "m1" of 2 · "Bt" of 4 · "B" of 6 · fixed "00" · "At" of 4 · "A" of 6 · fixed "0" · "D" of 6 · "Dt" of 2 · fixed "0101110")
    -- bfeil (Bitfield Extract and Insert Low/Shift Right)
    ∷ diagram "bfeil" 8 (bitfield Instruction.Bfeil)
    ("m3" of 1 · unknown 1 · "Dx" of 2 · "Ax" of 2 · "Bx" of 2 · "Cx" of 2 · unknown 2 · "m2" of 2 · "Ct" of 4 · "C" of 6 ·
    "m1" of 2 · "Bt" of 4 · "B" of 6 · fixed "00" · "At" of 4 · "A" of 6 · fixed "1" · "D" of 6 · "Dt" of 2 · fixed "0101110")
    -- extr (Extract From Register Pair)
    ∷ diagram "extr" 8 (bitfield Instruction.Extr)
    ("m3" of 1 · unknown 1 · "Dx" of 2 · "Ax" of 2 · "Bx" of 2 · "Cx" of 2 · unknown 2 · "m2" of 2 · "Ct" of 4 · "C" of 6 ·
    "m1" of 2 · "Bt" of 4 · "B" of 6 · fixed "01" · "At" of 4 · "A" of 6 · fixed "0" · "D" of 6 · "Dt" of 2 · fixed "0101110")
    -- shlhi (Shift Left High and Insert)
    ∷ diagram "shlhi" 8 (bitfield Instruction.Shlhi)
    ("m3" of 1 · unknown 1 · "Dx" of 2 · "Ax" of 2 · "Bx" of 2 · "Cx" of 2 · unknown 2 · "m2" of 2 · "Ct" of 4 · "C" of 6 ·
    "m1" of 2 · "Bt" of 4 · "B" of 6 · fixed "10" · "At" of 4 · "A" of 6 · fixed "0" · "D" of 6 · "Dt" of 2 · fixed "0101110")
    -- shrhi (Shift Right High and Insert)
    ∷ diagram "shrhi" 8 (bitfield Instruction.Shrhi)
    ("m3" of 1 · unknown 1 · "Dx" of 2 · "Ax" of 2 · "Bx" of 2 · "Cx" of 2 · unknown 2 · "m2" of 2 · "Ct" of 4 · "C" of 6 ·
    "m1" of 2 · "Bt" of 4 · "B" of 6 · fixed "10" · "At" of 4 · "A" of 6 · fixed "1" · "D" of 6 · "Dt" of 2 · fixed "0101110")
    -- asr (Arithmetic Shift Right)
    ∷ diagram "asr" 8 (shift Instruction.Asr)
    (unknown 2 · "Dx" of 2 · "Ax" of 2 · "Bx" of 2 · unknown 18 · "Bt" of 4 · "B" of 6 · fixed "01" · "At" of 4 · "A" of 6 ·
    fixed "1" · "D" of 6 · "Dt" of 2 · fixed "0101110")
    -- asrh (Arithmetic Shift Right High)
    ∷ diagram "asrh" 8 (shift Instruction.Asrh)
    (unknown 2 · "Dx" of 2 · "Ax" of 2 · "Bx" of 2 · unknown 18 · "Bt" of 4 · "B" of 6 · fixed "11" · "At" of 4 · "A" of 6 ·
    fixed "1" · "D" of 6 · "Dt" of 2 · fixed "0101110")
    -- ---- Bit Manipulation Instructions

    -- bitop (Bitwise Operation)
    ∷ diagram "bitop" 6 bitop
    (unknown 2 · "Dx" of 2 · "Ax" of 2 · "Bx" of 2 · "tt3" of 1 · "tt2" of 1 · "Bt" of 4 · "B" of 6 · "tt1" of 1 · "tt0" of 1 ·
    "At" of 4 · "A" of 6 · fixed "0" · "D" of 6 · "Dt" of 2 · fixed "1111110")
    -- bitrev (Reverse Bits)
    ∷ diagram "bitrev" 6 (scan Instruction.Bitrev)
    (unknown 2 · "Dx" of 2 · "Ax" of 2 · unknown 2 · fixed "00000000000001" · "At" of 4 · "A" of 6 · fixed "0" · "D" of 6 ·
    "Dt" of 2 · fixed "0111110")
    -- popcount (Population Count)
    ∷ diagram "popcount" 6 (scan Instruction.Popcount)
    (unknown 2 · "Dx" of 2 · "Ax" of 2 · unknown 2 · fixed "00000000000010" · "At" of 4 · "A" of 6 · fixed "0" · "D" of 6 ·
    "Dt" of 2 · fixed "0111110")
    -- ffs (Find First Set)
    ∷ diagram "ffs" 6 (scan Instruction.Ffs)
    (unknown 2 · "Dx" of 2 · "Ax" of 2 · unknown 2 · fixed "00000000000011" · "At" of 4 · "A" of 6 · fixed "0" · "D" of 6 ·
    "Dt" of 2 · fixed "0111110")
    -- ---- Flow Control Instructions

    -- jmp_exec_any
    ∷ diagram "jmp_exec_any" 6 (jump Instruction.JmpExecAny)
    ("off" of 32 · fixed "1100000000000000")
    -- jmp_exec_none
    ∷ diagram "jmp_exec_none" 6 (jump Instruction.JmpExecNone)
    ("off" of 32 · fixed "1100000000100000")
    -- ---- Execution Mask Stack Instructions

    -- pop_exec
    ∷ diagram "pop_exec" 6 pop_exec
    (fixed "00000000000000000000000000000000000" · "n" of 2 · fixed "11" · unknown 1 · "Dt" of 1 · fixed "1010010")
    -- if_icmp
    ∷ diagram "if_icmp" 6 (compare Instruction.IfIcmp)
    (unknown 2 · fixed "00" · "Ax" of 2 · "Bx" of 2 · fixed "00" · "Bt" of 4 · "B" of 6 · fixed "00" · "At" of 4 · "A" of 6 ·
    "cc" of 3 · "n" of 2 · fixed "00" · "ccn" of 1 · "Dt" of 1 · fixed "1010010")
    -- while_icmp
    ∷ diagram "while_icmp" 6 (compare Instruction.WhileIcmp)
    (unknown 2 · fixed "00" · "Ax" of 2 · "Bx" of 2 · fixed "00" · "Bt" of 4 · "B" of 6 · fixed "00" · "At" of 4 · "A" of 6 ·
    "cc" of 3 · "n" of 2 · fixed "10" · "ccn" of 1 · "Dt" of 1 · fixed "1010010")
    -- else_icmp
    ∷ diagram "else_icmp" 6 (compare Instruction.ElseIcmp)
    (unknown 2 · fixed "00" · "Ax" of 2 · "Bx" of 2 · fixed "00" · "Bt" of 4 · "B" of 6 · fixed "00" · "At" of 4 · "A" of 6 ·
    "cc" of 3 · "n" of 2 · fixed "01" · "ccn" of 1 · "Dt" of 1 · fixed "1010010")
    ∷ []
