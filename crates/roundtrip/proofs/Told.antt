-- An instruction that was read by a diagram has the fields and the "?" bits of the word, and its operands stand where they can be held.
-- One proof for each layout, in document order.
use Rattle.std.proofs.Common.{Some}
use mathlib.Core.Path.{◌≡◌, refl, sym, ap, ◌∙◌, subst}
use mathlib.Core.Bool.{Bool, true, false}
use mathlib.Core.List.{List, [], ◌∷◌}
use Prim.Native.Nat.{ℕ, ◌+◌, ◌*◌, ◌/◌, ◌%◌, ◌^◌, ◌<◌}
use native.Mathlib.Nat.{mod-lt}
use native.Mathlib.Omega.{arith}
use lib.Bits.{bit_and, and_zero_r}
use lib.Dec.{lit<}
use Rattle.bits.specs.Word.{field_of}
use Rattle.bits.proofs.Masks.{fixed_field}
use Rattle.bits.proofs.Table.{◌&◌}
use Rattle.isa.specs.Operand.{destination_of, source_of}
use Rattle.isa.specs.Diagram.{Diagram, field_in, mask, fixed_mask, fixed_value, read_by}
use Rattle.isa.specs.Read.{bitfield, shift, scan, compare}
use Rattle.isa.specs.Rows.{rows}
use Rattle.isa.specs.Decode.{row_at}
use Rattle.isa.specs.declared.operand.Dst.{Dst}
use Rattle.isa.specs.declared.operand.Src.{Src}
use Rattle.isa.specs.declared.instruction.Bitfield.{Bitfield}
use Rattle.isa.specs.declared.instruction.Shift.{Shift}
use Rattle.isa.specs.declared.instruction.Scan.{Scan}
use Rattle.isa.specs.declared.instruction.Compare.{Compare}
use Rattle.isa.specs.declared.instruction.Instruction.{Instruction}
use Rattle.isa.proofs.WasRead.{Reads, is_reads, on_dst, on_unary, on_binary, on_ternary, on_compared, on_condition, of-unary, of-binary, of-ternary, of-compared}
use Rattle.isa.specs.Parts.{parts_of, kept_of}
use Rattle.encoding.specs.Write.{Named, ◌is◌, of_unary, of_binary, of_bitfield, of_compare, fields_for}
use Rattle.roundtrip.specs.Reasons.{Held, HoldsDst, HoldsSrc, HoldsUnary, HoldsBinary, HoldsTernary, HoldsCompare}
use Rattle.roundtrip.proofs.Operands.{dst-told, src-told, joined_lt, cut_joined, cache_bit_lem}
use Rattle.roundtrip.proofs.Words.{Agree}

abbrev pub Told : Diagram → ℕ → Instruction → Type 0
Told r w i =
    Agree w r.fields (fields_for i) × (kept_of i ≡ bit_and w (mask r.unknowns)) × ((parts_of i).l ≡ (field_in r.fields w "L").value) × Held i

abbrev pub Fixed : Diagram → ℕ → Type 0
Fixed r w = bit_and w (fixed_mask r.fixeds) ≡ fixed_value r.fixeds

-- the instructions of a layout have its fields, its "?" bits and its places
record Made {A : Type 0} (make : A → Instruction) (fields : A → List Named) (kept : A → ℕ) (Holds : A → Type 0) : Type 0 where
  named : (x : A) → fields_for (make x) ≡ fields x
  keeps : (x : A) → kept_of (make x) ≡ kept x
  unshortened : (x : A) → (parts_of (make x)).l ≡ 0
  holds : (x : A) → Holds x → Held (make x)

module _ (w : ℕ) where
  made : {A : Type 0} (r : Diagram) (make : A → Instruction) (fields : A → List Named) (kept : A → ℕ) (Holds : A → Type 0)
      → Made make fields kept Holds → (x : A) → Agree w r.fields (fields x) → kept x ≡ bit_and w (mask r.unknowns)
      → 0 ≡ (field_in r.fields w "L").value → Holds x
      → Reads (Told r w) (Some (make x))
  made r make fields kept Holds m x a k l h =
      is_reads (Told r w) (make x)
      (subst (Agree w r.fields) (sym (m.named x)) a, m.keeps x ∙ k, m.unshortened x ∙ l, m.holds x h)

  field_lt : (at n : ℕ) → 0 < 2 ^ n → field_of w at n < 2 ^ n
  field_lt at n h = mod-lt (w / 2 ^ at) h

  held-dst : (wide : Bool) (lo hi t : ℕ) (d : Dst)
      → destination_of wide (field_of w hi 2 * 2 ^ 6 + field_of w lo 6) (field_of w t 2) ≡ Some d → HoldsDst wide d
  held-dst wide lo hi t d e = (_, _, joined_lt w lo hi, field_lt t 2 (lit< tt), e)

  held-src : (wide : Bool) (lo hi t : ℕ) (s : Src)
      → source_of wide (field_of w hi 2 * 2 ^ 6 + field_of w lo 6) (field_of w t 4) ≡ Some s → HoldsSrc wide s
  held-src wide lo hi t s e = (_, _, joined_lt w lo hi, field_lt t 4 (lit< tt), e)

  -- ---- Move Instructions

  mov16-told : Fixed (row_at 0) w → Reads (Told (row_at 0) w) (read_by (row_at 0) w)
  unfolding rows fields_for parts_of Held
  mov16-told f =
      on_dst (Told (row_at 0) w) _ _ λ d e.
      let q = dst-told w false 9 44 7 d e in
      let b : field_of w 8 1 ≡ 0 = sym (fixed_field w (fixed_mask (row_at 0).fixeds) 8 1 refl) ∙ ap (λ (x : ℕ). field_of x 8 1) f in
      is_reads (Told (row_at 0) w) _
      ((q.flags & q.low & refl & refl & q.high & tt), refl, refl, (_, _, joined_lt w 9 44, field_lt 7 2 (lit< tt), e, omega arith))

  mov32-told : Fixed (row_at 1) w → Reads (Told (row_at 1) w) (read_by (row_at 1) w)
  unfolding rows fields_for parts_of Held
  mov32-told f =
      on_dst (Told (row_at 1) w) _ _ λ d e.
      let q = dst-told w false 9 60 7 d e in
      let b : field_of w 8 1 ≡ 1 = sym (fixed_field w (fixed_mask (row_at 1).fixeds) 8 1 refl) ∙ ap (λ (x : ℕ). field_of x 8 1) f in
      is_reads (Told (row_at 1) w) _
      ((q.flags & q.low & refl & refl & q.high & tt), refl, refl, (_, _, joined_lt w 9 60, field_lt 7 2 (lit< tt), e, omega arith))

  get_sr-told : Reads (Told (row_at 2) w) (read_by (row_at 2) w)
  unfolding rows fields_for parts_of Held
  get_sr-told =
      on_dst (Told (row_at 2) w) _ _ λ d e.
      let q = dst-told w false 9 28 7 d e in
      let s = cut_joined w 16 26 _ refl in
      is_reads (Told (row_at 2) w) _
      ((q.flags & q.low & s.0 & s.1 & q.high & tt), refl, refl, held-dst false 9 28 7 d e)

  -- ---- Integer Arithmetic Instructions

  -- s2:s1
  cut_shift : (x : ℕ) → x ≡ field_of w 52 2 * 2 ^ 1 + field_of w 39 1 → (x % 2 ≡ field_of w 39 1) × (x / 2 ≡ field_of w 52 2)
  cut_shift x e =
      let l : field_of w 39 1 < 2 = field_lt 39 1 (lit< tt) in
      (omega arith, omega arith)

  iadd-told : Reads (Told (row_at 3) w) (read_by (row_at 3) w)
  unfolding rows fields_for parts_of Held
  iadd-told =
      on_binary (Told (row_at 3) w) _ _ λ o e.
      let r = of-binary _ _ _ o e in
      let d = dst-told w true 9 44 7 o.d r.0 in
      let a = src-told w true 16 42 22 o.a r.1 in
      let b = src-told w true 28 40 34 o.b r.2 in
      let s = cut_shift _ refl in
      is_reads (Told (row_at 3) w) _ (
        (refl & d.flags & d.low & a.low & a.flags & refl & refl & b.low & b.flags & refl & s.0
            & b.high & a.high & d.high & s.1 & tt),
        refl,
        refl,
        (held-dst true 9 44 7 o.d r.0, held-src true 16 42 22 o.a r.1, held-src true 28 40 34 o.b r.2),
      )

  imadd-told : Reads (Told (row_at 4) w) (read_by (row_at 4) w)
  unfolding rows fields_for parts_of Held
  imadd-told =
      on_ternary (Told (row_at 4) w) _ _ λ o e.
      let r = of-ternary _ _ _ _ o e in
      let d = dst-told w true 9 60 7 o.d r.0 in
      let a = src-told w false 16 58 22 o.a r.1 in
      let b = src-told w false 28 56 34 o.b r.2 in
      let c = src-told w true 40 54 46 o.c r.3 in
      let s = cut_shift _ refl in
      is_reads (Told (row_at 4) w) _ (
        (refl & d.flags & d.low & a.low & a.flags & refl & refl & b.low & b.flags & refl & s.0 & c.low & c.flags & refl & s.1
            & c.high & b.high & a.high & d.high & tt),
        refl,
        refl,
        (
          held-dst true 9 60 7 o.d r.0,
          held-src false 16 58 22 o.a r.1,
          held-src false 28 56 34 o.b r.2,
          held-src true 40 54 46 o.c r.3,
        ),
      )

  -- ---- Shift/Bitfield Instructions

  -- m3:m2:m1
  cut_m : (x : ℕ) → x ≡ field_of w 63 1 * 2 ^ 4 + (field_of w 50 2 * 2 ^ 2 + field_of w 38 2)
      → (x % 4 ≡ field_of w 38 2) × (x / 4 % 4 ≡ field_of w 50 2) × (x / 16 ≡ field_of w 63 1)
  cut_m x e =
      let l : field_of w 38 2 < 4 = field_lt 38 2 (lit< tt) in
      let h : field_of w 50 2 < 4 = field_lt 50 2 (lit< tt) in
      (omega arith, omega arith, omega arith)

  module _ (make : Bitfield → Instruction) (m : Made make of_bitfield (λ x. x.kept) (λ x. HoldsTernary false x.operands)) where
    bitfield-told : Reads (Told (row_at 5) w) (bitfield make (field_in (row_at 5).fields w) (bit_and w (mask (row_at 5).unknowns)))
    unfolding rows
    bitfield-told =
        on_ternary (Told (row_at 5) w) _ _ λ o e.
        let r = of-ternary _ _ _ _ o e in
        let d = dst-told w false 9 60 7 o.d r.0 in
        let a = src-told w false 16 58 22 o.a r.1 in
        let b = src-told w false 28 56 34 o.b r.2 in
        let c = src-told w false 40 54 46 o.c r.3 in
        let n = cut_m _ refl in
        made (row_at 5) make of_bitfield (λ x. x.kept) (λ x. HoldsTernary false x.operands) m _
        (d.flags & d.low & a.low & a.flags & b.low & b.flags & n.0 & c.low & c.flags & n.1
        & c.high & b.high & a.high & d.high & n.2 & tt)
        refl
        refl (
          held-dst false 9 60 7 o.d r.0,
          held-src false 16 58 22 o.a r.1,
          held-src false 28 56 34 o.b r.2,
          held-src false 40 54 46 o.c r.3,
        )

  module _ (make : Shift → Instruction)
      (m : Made make (λ x. of_binary x.operands []) (λ x. x.kept) (λ x. HoldsBinary false x.operands)) where
    shift-told : Reads (Told (row_at 10) w) (shift make (field_in (row_at 10).fields w) (bit_and w (mask (row_at 10).unknowns)))
    unfolding rows
    shift-told =
        on_binary (Told (row_at 10) w) _ _ λ o e.
        let r = of-binary _ _ _ o e in
        let d = dst-told w false 9 60 7 o.d r.0 in
        let a = src-told w false 16 58 22 o.a r.1 in
        let b = src-told w false 28 56 34 o.b r.2 in
        made (row_at 10) make (λ x. of_binary x.operands []) (λ x. x.kept) (λ x. HoldsBinary false x.operands) m _
        (d.flags & d.low & a.low & a.flags & b.low & b.flags & b.high & a.high & d.high & tt)
        refl
        refl
        (held-dst false 9 60 7 o.d r.0, held-src false 16 58 22 o.a r.1, held-src false 28 56 34 o.b r.2)

  -- ---- Bit Manipulation Instructions

  bitop-told : Reads (Told (row_at 12) w) (read_by (row_at 12) w)
  unfolding rows fields_for parts_of Held
  bitop-told =
      on_binary (Told (row_at 12) w) _ _ λ o e.
      let r = of-binary _ _ _ o e in
      let d = dst-told w false 9 44 7 o.d r.0 in
      let a = src-told w false 16 42 22 o.a r.1 in
      let b = src-told w false 28 40 34 o.b r.2 in
      is_reads (Told (row_at 12) w) _ (
        (d.flags & d.low & a.low & a.flags & refl & refl & b.low & b.flags & refl & refl & b.high & a.high & d.high & tt),
        refl,
        refl,
        (held-dst false 9 44 7 o.d r.0, held-src false 16 42 22 o.a r.1, held-src false 28 40 34 o.b r.2),
      )

  module _ (make : Scan → Instruction)
      (m : Made make (λ x. of_unary x.operands []) (λ x. x.kept) (λ x. HoldsUnary x.operands)) where
    scan-told : Reads (Told (row_at 13) w) (scan make (field_in (row_at 13).fields w) (bit_and w (mask (row_at 13).unknowns)))
    unfolding rows
    scan-told =
        on_unary (Told (row_at 13) w) _ _ λ o e.
        let r = of-unary _ _ o e in
        let d = dst-told w false 9 44 7 o.d r.0 in
        let a = src-told w false 16 42 22 o.a r.1 in
        made (row_at 13) make (λ x. of_unary x.operands []) (λ x. x.kept) (λ x. HoldsUnary x.operands) m _
        (d.flags & d.low & a.low & a.flags & a.high & d.high & tt)
        refl
        refl
        (held-dst false 9 44 7 o.d r.0, held-src false 16 42 22 o.a r.1)

  -- ---- Flow Control Instructions

  jump-told : (make : ℕ → Instruction) → Made make (λ x. ("off" is x) ∷ []) (λ x. 0) (λ x. Unit {0})
      → Reads (Told (row_at 16) w) (Some (make (field_of w 16 32)))
  unfolding rows
  jump-told make m =
      made (row_at 16) make (λ x. ("off" is x) ∷ []) (λ x. 0) (λ x. Unit {0}) m (field_of w 16 32) (refl & tt) (sym (and_zero_r w)) refl tt

  -- ---- Execution Mask Stack Instructions

  pop_exec-told : Reads (Told (row_at 18) w) (read_by (row_at 18) w)
  unfolding rows fields_for parts_of Held
  pop_exec-told =
      let l = field_lt 7 1 (lit< tt) in
      is_reads (Told (row_at 18) w) _ ((cache_bit_lem (field_of w 7 1) l & refl & tt), refl, refl, (_, l, refl))

  module _ (make : Compare → Instruction) (m : Made make of_compare (λ x. x.kept) HoldsCompare) where
    compare-told : Reads (Told (row_at 19) w) (compare make (field_in (row_at 19).fields w) (bit_and w (mask (row_at 19).unknowns)))
    unfolding rows
    compare-told =
        on_condition (Told (row_at 19) w) _ _ λ means. on_compared (Told (row_at 19) w) _ _ λ o e.
        let r = of-compared _ _ o e in
        let a = src-told w false 16 42 22 o.a r.0 in
        let b = src-told w false 28 40 34 o.b r.1 in
        let l = field_lt 7 1 (lit< tt) in
        made (row_at 19) make of_compare (λ x. x.kept) HoldsCompare m _
        (cache_bit_lem (field_of w 7 1) l & refl & refl & refl & a.low & a.flags & b.low & b.flags & b.high & a.high & tt)
        refl
        refl
        ((_, l, refl), held-src false 16 42 22 o.a r.0, held-src false 28 40 34 o.b r.1, means)

-- ---- all of them

abbrev pub AllTold : List Diagram → Type 0
AllTold [] = Unit {0}
AllTold (r ∷ rs) = ((w : ℕ) → Fixed r w → Reads (Told r w) (read_by r w)) × AllTold rs

plainly : {A : Type 0} {make : A → Instruction} {fields : A → List Named} {kept : A → ℕ} {Holds : A → Type 0}
    → ((x : A) → fields_for (make x) ≡ fields x) → ((x : A) → kept_of (make x) ≡ kept x) → ((x : A) → (parts_of (make x)).l ≡ 0)
    → ((x : A) → Holds x → Held (make x)) → Made make fields kept Holds
plainly n k l h = record { named = n; keeps = k; unshortened = l; holds = h }

pub rows_told : AllTold rows
unfolding rows fields_for parts_of Held
rows_told =
    mov16-told
    & mov32-told
    & (λ w f. get_sr-told w)
    & (λ w f. iadd-told w)
    & (λ w f. imadd-told w)
    & (λ w f. bitfield-told w Instruction.Bfi (plainly (λ x. refl) (λ x. refl) (λ x. refl) (λ x h. h)))
    & (λ w f. bitfield-told w Instruction.Bfeil (plainly (λ x. refl) (λ x. refl) (λ x. refl) (λ x h. h)))
    & (λ w f. bitfield-told w Instruction.Extr (plainly (λ x. refl) (λ x. refl) (λ x. refl) (λ x h. h)))
    & (λ w f. bitfield-told w Instruction.Shlhi (plainly (λ x. refl) (λ x. refl) (λ x. refl) (λ x h. h)))
    & (λ w f. bitfield-told w Instruction.Shrhi (plainly (λ x. refl) (λ x. refl) (λ x. refl) (λ x h. h)))
    & (λ w f. shift-told w Instruction.Asr (plainly (λ x. refl) (λ x. refl) (λ x. refl) (λ x h. h)))
    & (λ w f. shift-told w Instruction.Asrh (plainly (λ x. refl) (λ x. refl) (λ x. refl) (λ x h. h)))
    & (λ w f. bitop-told w)
    & (λ w f. scan-told w Instruction.Bitrev (plainly (λ x. refl) (λ x. refl) (λ x. refl) (λ x h. h)))
    & (λ w f. scan-told w Instruction.Popcount (plainly (λ x. refl) (λ x. refl) (λ x. refl) (λ x h. h)))
    & (λ w f. scan-told w Instruction.Ffs (plainly (λ x. refl) (λ x. refl) (λ x. refl) (λ x h. h)))
    & (λ w f. jump-told w Instruction.JmpExecAny (plainly (λ x. refl) (λ x. refl) (λ x. refl) (λ x h. h)))
    & (λ w f. jump-told w Instruction.JmpExecNone (plainly (λ x. refl) (λ x. refl) (λ x. refl) (λ x h. h)))
    & (λ w f. pop_exec-told w)
    & (λ w f. compare-told w Instruction.IfIcmp (plainly (λ x. refl) (λ x. refl) (λ x. refl) (λ x h. h)))
    & (λ w f. compare-told w Instruction.WhileIcmp (plainly (λ x. refl) (λ x. refl) (λ x. refl) (λ x h. h)))
    & (λ w f. compare-told w Instruction.ElseIcmp (plainly (λ x. refl) (λ x. refl) (λ x. refl) (λ x h. h)))
    & tt
