-- A word that has the fields and the "?" bits of an instruction is read as that instruction, if its operands stand where they can be held.
-- One proof for each layout, in document order.
use Rattle.std.proofs.Common.{Some}
use mathlib.Core.Path.{◌≡◌, refl, sym, ap, ap₂, ◌∙◌}
use mathlib.Core.Bool.{Bool, true, false, cond}
use mathlib.Core.List.{List, [], ◌∷◌}
use Prim.Native.Nat.{ℕ, ◌+◌, ◌*◌, ◌/◌, ◌%◌, ◌^◌}
use Prim.Native.String.{String}
use native.Mathlib.Omega.{arith}
use lib.Bits.{bit_and}
use lib.Dec.{T}
use lib.Text.{eqt, eqt→eq}
use Rattle.isa.specs.Operand.{destination_of, source_of, cache_hint}
use Rattle.isa.specs.Together.{unary, binary, ternary, compared, with_dst, with_unary, with_binary, with_ternary, with_compared, with_condition}
use Rattle.isa.specs.Diagram.{Diagram, Field, field_in, mask, read_by}
use Rattle.isa.specs.Read.{bitfield, shift, scan, jump, compare}
use Rattle.isa.specs.Rows.{rows}
use Rattle.isa.specs.Decode.{row_at}
use Rattle.isa.specs.declared.operand.Hint.{Hint}
use Rattle.isa.specs.declared.operand.Dst.{Dst}
use Rattle.isa.specs.declared.operand.Src.{Src}
use Rattle.isa.specs.declared.operand.Binary.{Binary}
use Rattle.isa.specs.declared.operand.Ternary.{Ternary}
use Rattle.isa.specs.declared.instruction.Bitfield.{Bitfield}
use Rattle.isa.specs.declared.instruction.Shift.{Shift}
use Rattle.isa.specs.declared.instruction.Scan.{Scan}
use Rattle.isa.specs.declared.instruction.Compare.{Compare}
use Rattle.isa.specs.declared.instruction.Instruction.{Instruction}
use Rattle.encoding.specs.Write.{Named, ◌is◌, number_in, of_unary, of_binary, of_bitfield, of_compare, fields_for}
use Rattle.encoding.specs.Flags.{cache_bit, dst_number, dst_flags, src_number, src_flags}
use Rattle.roundtrip.specs.Reasons.{HoldsDst, HoldsSrc, HoldsHint, HoldsUnary, HoldsBinary, HoldsTernary, HoldsCompare}
use Rattle.roundtrip.proofs.Operands.{dst-back, src-back, cache_bit_lem}
use Rattle.roundtrip.proofs.Words.{Agree}

abbrev has_name : List Field → String → Bool
has_name [] name = false
has_name (f ∷ fs) name = cond (eqt f.name name) true (has_name fs name)

-- the field of a name
agree_at : (w : ℕ) (fs : List Field) (ns : List Named) → Agree w fs ns → (name : String) → T (has_name fs name)
    → (field_in fs w name).value ≡ number_in ns name
agree_at w [] ns a name t = absurd t
agree_at w (f ∷ fs) ns a name t = go (eqt f.name name) refl (agree_at w fs ns a.1 name)
  where
    go : (b : Bool) → eqt f.name name ≡ b → (T (has_name fs name) → (field_in fs w name).value ≡ number_in ns name)
        → (field_in (f ∷ fs) w name).value ≡ number_in ns name
    go true e ih = rw e (sym a.0 ∙ ap (number_in ns) (eqt→eq f.name name (rw e tt)))
    go false e ih = rw e (ih (rw e at t))

-- ---- operands, from the fields that their numbers were cut into

joined_again : {hi lo : ℕ} (x : ℕ) → hi ≡ x / 64 → lo ≡ x % 64 → hi * 2 ^ 6 + lo ≡ x
joined_again x h l = omega arith

dst_again : {hi lo t : ℕ} (wide : Bool) (d : Dst) → HoldsDst wide d → hi ≡ dst_number d.destination / 64 → lo ≡ dst_number d.destination % 64
    → t ≡ dst_flags d.destination + cache_bit d.hint → destination_of wide (hi * 2 ^ 6 + lo) t ≡ Some d
dst_again wide d (v, f, hv, hf, e) hi lo t =
    let q = dst-back wide v f d hf e in
    ap₂ (destination_of wide) (joined_again (dst_number d.destination) hi lo ∙ q.0) (t ∙ q.1) ∙ e

src_again : {hi lo t : ℕ} (wide : Bool) (s : Src) → HoldsSrc wide s → hi ≡ src_number s.source / 64 → lo ≡ src_number s.source % 64
    → t ≡ src_flags s.source s.hint → source_of wide (hi * 2 ^ 6 + lo) t ≡ Some s
src_again wide s (v, f, hv, hf, e) hi lo t =
    let q = src-back wide v f s hv hf e in
    ap₂ (source_of wide) (joined_again (src_number s.source) hi lo ∙ q.0) (t ∙ q.1) ∙ e

hint_again : {b : ℕ} (h : Hint) → HoldsHint h → b ≡ cache_bit h → cache_hint b ≡ h
hint_again h (b, l, e) z = ap cache_hint (z ∙ ap cache_bit (sym e) ∙ cache_bit_lem b l) ∙ e

-- ---- layouts

module _ (w : ℕ) where
  -- w has the fields and the "?" bits of the diagram
  abbrev pub Has : Diagram → List Named → ℕ → Type 0
  Has r ns kept = Agree w r.fields ns × (bit_and w (mask r.unknowns) ≡ kept)

  -- ---- Move Instructions

  pub mov16_again : (d : Dst) (imm l kept : ℕ) → Has (row_at 0) (fields_for (Instruction.Mov16 d imm l kept)) kept → HoldsDst false d
      → read_by (row_at 0) w ≡ Some (Instruction.Mov16 d imm l kept)
  unfolding rows fields_for with_dst
  mov16_again d imm l kept (a, k) h =
      let g = agree_at w (row_at 0).fields (fields_for (Instruction.Mov16 d imm l kept)) a in
      rw (dst_again false d h (g "Dx" tt) (g "D" tt) (g "Dt" tt), g "imm16" tt, g "L" tt, k)

  pub mov32_again : (d : Dst) (imm l kept : ℕ) → Has (row_at 1) (fields_for (Instruction.Mov32 d imm l kept)) kept → HoldsDst false d
      → read_by (row_at 1) w ≡ Some (Instruction.Mov32 d imm l kept)
  unfolding rows fields_for with_dst
  mov32_again d imm l kept (a, k) h =
      let g = agree_at w (row_at 1).fields (fields_for (Instruction.Mov32 d imm l kept)) a in
      rw (dst_again false d h (g "Dx" tt) (g "D" tt) (g "Dt" tt), g "imm32" tt, g "L" tt, k)

  pub get_sr_again : (d : Dst) (sr kept : ℕ) → Has (row_at 2) (fields_for (Instruction.GetSr d sr kept)) kept → HoldsDst false d
      → read_by (row_at 2) w ≡ Some (Instruction.GetSr d sr kept)
  unfolding rows fields_for with_dst
  get_sr_again d sr kept (a, k) h =
      let g = agree_at w (row_at 2).fields (fields_for (Instruction.GetSr d sr kept)) a in
      rw (dst_again false d h (g "Dx" tt) (g "D" tt) (g "Dt" tt), joined_again sr (g "SRx" tt) (g "SR" tt), k)

  -- ---- Integer Arithmetic Instructions

  shift_again : {hi lo : ℕ} (x : ℕ) → hi ≡ x / 2 → lo ≡ x % 2 → hi * 2 ^ 1 + lo ≡ x
  shift_again x h l = omega arith

  pub iadd_again : (o : Binary) (s n sa sb x kept : ℕ) → Has (row_at 3) (fields_for (Instruction.Iadd o s n sa sb x kept)) kept → HoldsBinary true o
      → read_by (row_at 3) w ≡ Some (Instruction.Iadd o s n sa sb x kept)
  unfolding rows fields_for unary binary with_binary
  iadd_again o s n sa sb x kept (a, k) (hd, ha, hb) =
      let g = agree_at w (row_at 3).fields (fields_for (Instruction.Iadd o s n sa sb x kept)) a in
      rw (
        dst_again true o.d hd (g "Dx" tt) (g "D" tt) (g "Dt" tt),
        src_again true o.a ha (g "Ax" tt) (g "A" tt) (g "At" tt),
        src_again true o.b hb (g "Bx" tt) (g "B" tt) (g "Bt" tt),
      )
      (rw (g "S" tt, g "N" tt, g "As" tt, g "Bs" tt, shift_again x (g "s2" tt) (g "s1" tt), k))

  pub imadd_again : (o : Ternary) (s n sa sb sc x kept : ℕ) → Has (row_at 4) (fields_for (Instruction.Imadd o s n sa sb sc x kept)) kept
      → HoldsTernary true o → read_by (row_at 4) w ≡ Some (Instruction.Imadd o s n sa sb sc x kept)
  unfolding rows fields_for unary binary ternary with_ternary
  imadd_again o s n sa sb sc x kept (a, k) (hd, ha, hb, hc) =
      let g = agree_at w (row_at 4).fields (fields_for (Instruction.Imadd o s n sa sb sc x kept)) a in
      rw (
        dst_again true o.d hd (g "Dx" tt) (g "D" tt) (g "Dt" tt),
        src_again false o.a ha (g "Ax" tt) (g "A" tt) (g "At" tt),
        src_again false o.b hb (g "Bx" tt) (g "B" tt) (g "Bt" tt),
        src_again true o.c hc (g "Cx" tt) (g "C" tt) (g "Ct" tt),
      )
      (rw (g "S" tt, g "N" tt, g "As" tt, g "Bs" tt, g "Cs" tt, shift_again x (g "s2" tt) (g "s1" tt), k))

  -- ---- Shift/Bitfield Instructions

  m_again : {hi mid lo : ℕ} (x : ℕ) → hi ≡ x / 16 → mid ≡ x / 4 % 4 → lo ≡ x % 4 → hi * 2 ^ 4 + (mid * 2 ^ 2 + lo) ≡ x
  m_again x h m l = omega arith

  pub bitfield_again : (make : Bitfield → Instruction) (x : Bitfield) → Has (row_at 5) (of_bitfield x) x.kept → HoldsTernary false x.operands
      → bitfield make (field_in (row_at 5).fields w) (bit_and w (mask (row_at 5).unknowns)) ≡ Some (make x)
  unfolding rows unary binary ternary with_ternary
  bitfield_again make x (a, k) (hd, ha, hb, hc) =
      let g = agree_at w (row_at 5).fields (of_bitfield x) a in
      let o = x.operands in
      rw (
        dst_again false o.d hd (g "Dx" tt) (g "D" tt) (g "Dt" tt),
        src_again false o.a ha (g "Ax" tt) (g "A" tt) (g "At" tt),
        src_again false o.b hb (g "Bx" tt) (g "B" tt) (g "Bt" tt),
        src_again false o.c hc (g "Cx" tt) (g "C" tt) (g "Ct" tt),
      )
      (rw (m_again x.m (g "m3" tt) (g "m2" tt) (g "m1" tt), k))

  pub shift_layout_again : (make : Shift → Instruction) (x : Shift) → Has (row_at 10) (of_binary x.operands []) x.kept
      → HoldsBinary false x.operands
      → shift make (field_in (row_at 10).fields w) (bit_and w (mask (row_at 10).unknowns)) ≡ Some (make x)
  unfolding rows unary binary with_binary
  shift_layout_again make x (a, k) (hd, ha, hb) =
      let g = agree_at w (row_at 10).fields (of_binary x.operands []) a in
      let o = x.operands in
      rw (
        dst_again false o.d hd (g "Dx" tt) (g "D" tt) (g "Dt" tt),
        src_again false o.a ha (g "Ax" tt) (g "A" tt) (g "At" tt),
        src_again false o.b hb (g "Bx" tt) (g "B" tt) (g "Bt" tt),
        k,
      )

  -- ---- Bit Manipulation Instructions

  pub bitop_again : (o : Binary) (t0 t1 t2 t3 kept : ℕ) → Has (row_at 12) (fields_for (Instruction.Bitop o t0 t1 t2 t3 kept)) kept → HoldsBinary false o
      → read_by (row_at 12) w ≡ Some (Instruction.Bitop o t0 t1 t2 t3 kept)
  unfolding rows fields_for unary binary with_binary
  bitop_again o t0 t1 t2 t3 kept (a, k) (hd, ha, hb) =
      let g = agree_at w (row_at 12).fields (fields_for (Instruction.Bitop o t0 t1 t2 t3 kept)) a in
      rw (
        dst_again false o.d hd (g "Dx" tt) (g "D" tt) (g "Dt" tt),
        src_again false o.a ha (g "Ax" tt) (g "A" tt) (g "At" tt),
        src_again false o.b hb (g "Bx" tt) (g "B" tt) (g "Bt" tt),
      )
      (rw (g "tt0" tt, g "tt1" tt, g "tt2" tt, g "tt3" tt, k))

  pub scan_again : (make : Scan → Instruction) (x : Scan) → Has (row_at 13) (of_unary x.operands []) x.kept → HoldsUnary x.operands
      → scan make (field_in (row_at 13).fields w) (bit_and w (mask (row_at 13).unknowns)) ≡ Some (make x)
  unfolding rows unary with_unary
  scan_again make x (a, k) (hd, ha) =
      let g = agree_at w (row_at 13).fields (of_unary x.operands []) a in
      let o = x.operands in
      rw (dst_again false o.d hd (g "Dx" tt) (g "D" tt) (g "Dt" tt), src_again false o.a ha (g "Ax" tt) (g "A" tt) (g "At" tt), k)

  -- ---- Flow Control Instructions

  pub jump_again : (make : ℕ → Instruction) (off kept : ℕ) → Has (row_at 16) (("off" is off) ∷ []) kept
      → jump make (field_in (row_at 16).fields w) (bit_and w (mask (row_at 16).unknowns)) ≡ Some (make off)
  unfolding rows
  jump_again make off kept (a, k) = rw (agree_at w (row_at 16).fields (("off" is off) ∷ []) a "off" tt)

  -- ---- Execution Mask Stack Instructions

  pub pop_exec_again : (h : Hint) (n kept : ℕ) → Has (row_at 18) (fields_for (Instruction.PopExec h n kept)) kept → HoldsHint h
      → read_by (row_at 18) w ≡ Some (Instruction.PopExec h n kept)
  unfolding rows fields_for
  pop_exec_again h n kept (a, k) q =
      let g = agree_at w (row_at 18).fields (fields_for (Instruction.PopExec h n kept)) a in
      rw (hint_again h q (g "Dt" tt), g "n" tt, k)

  pub compare_again : (make : Compare → Instruction) (x : Compare) → Has (row_at 19) (of_compare x) x.kept → HoldsCompare x
      → compare make (field_in (row_at 19).fields w) (bit_and w (mask (row_at 19).unknowns)) ≡ Some (make x)
  unfolding rows compared with_compared with_condition
  compare_again make x (a, k) (hh, ha, hb, means) =
      let g = agree_at w (row_at 19).fields (of_compare x) a in
      let o = x.operands in
      rw (
        hint_again x.hint hh (g "Dt" tt),
        src_again false o.a ha (g "Ax" tt) (g "A" tt) (g "At" tt),
        src_again false o.b hb (g "Bx" tt) (g "B" tt) (g "Bt" tt),
      )
      (rw (g "cc" tt, g "ccn" tt, g "n" tt, k, means))
