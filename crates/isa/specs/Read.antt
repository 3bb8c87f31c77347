-- What each diagram's fields say: the operand lines of document 002's pseudocode, in document order. An operand or a condition
-- that has no meaning leaves none to the instruction.
use Rattle.std.specs.Prelude.{ℕ, Some}
use Rattle.isa.specs.Bits.{◌⦂◌}
use Rattle.isa.specs.Operand.{ALUDst, ALUDst64, ALUSrc, AddSrc, MulSrc, cache_hint}
use Rattle.isa.specs.Together.{with_dst, with_unary, with_binary, with_ternary, with_compared, with_condition, unary, binary, ternary, compared}
use Rattle.isa.specs.Diagram.{Fields}
use Rattle.isa.specs.declared.instruction.Bitfield.{Bitfield}
use Rattle.isa.specs.declared.instruction.Shift.{Shift}
use Rattle.isa.specs.declared.instruction.Scan.{Scan}
use Rattle.isa.specs.declared.instruction.Compare.{Compare}
use Rattle.isa.specs.declared.instruction.Instruction.{Instruction}
use Rattle.isa.specs.Answer.{Reading}

-- ---- Move Instructions

abbrev pub mov16 : Fields → ℕ → Reading
mov16 f kept =
    with_dst (ALUDst (f "Dx" ⦂ f "D") (f "Dt")) λ d.
    Some (Instruction.Mov16 d (f "imm16").value (f "L").value kept)

abbrev pub mov32 : Fields → ℕ → Reading
mov32 f kept =
    with_dst (ALUDst (f "Dx" ⦂ f "D") (f "Dt")) λ d.
    Some (Instruction.Mov32 d (f "imm32").value (f "L").value kept)

abbrev pub get_sr : Fields → ℕ → Reading
get_sr f kept =
    with_dst (ALUDst (f "Dx" ⦂ f "D") (f "Dt")) λ d.
    Some (Instruction.GetSr d (f "SRx" ⦂ f "SR").value kept)

-- ---- Integer Arithmetic Instructions

abbrev pub iadd : Fields → ℕ → Reading
iadd f kept =
    let d = ALUDst64 (f "Dx" ⦂ f "D") (f "Dt") in
    let a = AddSrc (f "Ax" ⦂ f "A") (f "At") in
    let b = AddSrc (f "Bx" ⦂ f "B") (f "Bt") in
    let shift = f "s2" ⦂ f "s1" in
    with_binary (binary (unary d a) b) λ o.
    Some (Instruction.Iadd o (f "S").value (f "N").value (f "As").value (f "Bs").value shift.value kept)

abbrev pub imadd : Fields → ℕ → Reading
imadd f kept =
    let d = ALUDst64 (f "Dx" ⦂ f "D") (f "Dt") in
    let a = MulSrc (f "Ax" ⦂ f "A") (f "At") in
    let b = MulSrc (f "Bx" ⦂ f "B") (f "Bt") in
    let c = AddSrc (f "Cx" ⦂ f "C") (f "Ct") in
    let shift = f "s2" ⦂ f "s1" in
    with_ternary (ternary (binary (unary d a) b) c) λ o.
    Some
    (Instruction.Imadd o (f "S").value (f "N").value (f "As").value (f "Bs").value (f "Cs").value shift.value kept)

-- ---- Shift/Bitfield Instructions

-- bfi, bfeil, extr, shlhi and shrhi
abbrev pub bitfield : (Bitfield → Instruction) → Fields → ℕ → Reading
bitfield make f kept =
    let d = ALUDst (f "Dx" ⦂ f "D") (f "Dt") in
    let a = ALUSrc (f "Ax" ⦂ f "A") (f "At") in
    let b = ALUSrc (f "Bx" ⦂ f "B") (f "Bt") in
    let c = ALUSrc (f "Cx" ⦂ f "C") (f "Ct") in
    let m = f "m3" ⦂ f "m2" ⦂ f "m1" in
    with_ternary (ternary (binary (unary d a) b) c) λ o.
    Some (make (record { operands = o; m = m.value; kept = kept }))

-- asr and asrh
abbrev pub shift : (Shift → Instruction) → Fields → ℕ → Reading
shift make f kept =
    let d = ALUDst (f "Dx" ⦂ f "D") (f "Dt") in
    let a = ALUSrc (f "Ax" ⦂ f "A") (f "At") in
    let b = ALUSrc (f "Bx" ⦂ f "B") (f "Bt") in
    with_binary (binary (unary d a) b) λ o.
    Some (make (record { operands = o; kept = kept }))

-- ---- Bit Manipulation Instructions

abbrev pub bitop : Fields → ℕ → Reading
bitop f kept =
    let d = ALUDst (f "Dx" ⦂ f "D") (f "Dt") in
    let a = ALUSrc (f "Ax" ⦂ f "A") (f "At") in
    let b = ALUSrc (f "Bx" ⦂ f "B") (f "Bt") in
    with_binary (binary (unary d a) b) λ o.
    Some (Instruction.Bitop o (f "tt0").value (f "tt1").value (f "tt2").value (f "tt3").value kept)

-- bitrev, popcount and ffs
abbrev pub scan : (Scan → Instruction) → Fields → ℕ → Reading
scan make f kept =
    let d = ALUDst (f "Dx" ⦂ f "D") (f "Dt") in
    let a = ALUSrc (f "Ax" ⦂ f "A") (f "At") in
    with_unary (unary d a) λ o.
    Some (make (record { operands = o; kept = kept }))

-- ---- Flow Control Instructions

abbrev pub jump : (ℕ → Instruction) → Fields → ℕ → Reading
jump make f kept = Some (make (f "off").value)

-- ---- Execution Mask Stack Instructions

abbrev pub pop_exec : Fields → ℕ → Reading
pop_exec f kept = Some (Instruction.PopExec (cache_hint (f "Dt").value) (f "n").value kept)

-- if_icmp, while_icmp and else_icmp
abbrev pub compare : (Compare → Instruction) → Fields → ℕ → Reading
compare make f kept =
    let a = ALUSrc (f "Ax" ⦂ f "A") (f "At") in
    let b = ALUSrc (f "Bx" ⦂ f "B") (f "Bt") in
    with_condition (f "cc").value
    (with_compared (compared a b) λ o.
    Some
    (make
    (record {
      hint = cache_hint (f "Dt").value;
      cc = (f "cc").value;
      ccn = (f "ccn").value;
      n = (f "n").value;
      operands = o;
      kept = kept;
    })))
