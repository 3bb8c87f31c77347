-- What decodes fits: each number of the instruction is within its type. A field is within the bits that its diagram prints for it, and
-- the "?" bits are within the word. One proof for each layout, in document order.
use Rattle.std.proofs.Common.{Option, Some, None, Ok, Err}
use mathlib.Core.Path.{◌≡◌, subst}
use mathlib.Core.Bool.{Bool, true, false, cond}
use mathlib.Core.List.{List, [], ◌∷◌}
use Prim.Native.Nat.{ℕ, zero, suc, ◌+◌, ◌*◌, ◌/◌, ◌%◌, ◌^◌, ◌≤◌, ◌<◌}
use Prim.Native.String.{String}
use native.Mathlib.Nat.{mod-lt, suc-mul, mul-le-mul_right, lt_of_lt_of_le, lt_of_le_of_lt}
use native.Mathlib.Omega.{arith}
use lib.Bits.{bit_and, and_le_l}
use lib.Dec.{eqb, lit<, lit≤}
use lib.ListN.{length, get_or, take, length-take}
use lib.Pow.{pow_pos, pow-add, pow_mono}
use lib.Text.{eqt}
use Rattle.bits.specs.Word.{le}
use Rattle.bits.proofs.Laws.{Bytes, bytes_take, le_lt}
use Rattle.bits.proofs.Table.{◌&◌}
use Rattle.isa.specs.Bits.{Bits, ◌⦂◌}
use Rattle.isa.specs.Operand.{destination_of, uniform_of, source_of}
use Rattle.isa.specs.Diagram.{Diagram, Field, width_of, field_in, mask, read_by}
use Rattle.isa.specs.Read.{bitfield, shift, scan, jump, compare}
use Rattle.isa.specs.Rows.{rows}
use Rattle.isa.specs.Find.{find_of}
use Rattle.isa.specs.Decode.{no_diagram, row_at, read_at, decode_of}
use Rattle.isa.specs.declared.operand.Dst.{Dst}
use Rattle.isa.specs.declared.operand.Src.{Src}
use Rattle.isa.specs.declared.instruction.Bitfield.{Bitfield}
use Rattle.isa.specs.declared.instruction.Shift.{Shift}
use Rattle.isa.specs.declared.instruction.Scan.{Scan}
use Rattle.isa.specs.declared.instruction.Compare.{Compare}
use Rattle.isa.specs.declared.instruction.Instruction.{Instruction}
use Rattle.isa.specs.Answer.{Decoded}
use Rattle.isa.proofs.Cases.{cases}
use Rattle.isa.proofs.Found.{Lent, found-lent}
use Rattle.isa.proofs.WasRead.{Reads, none_reads, is_reads, on_dst, on_unary, on_binary, on_ternary, on_compared, on_condition}
use Rattle.isa.proofs.WasRead.{of-unary, of-binary, of-ternary, of-compared}
use Rattle.form.specs.Fits.{U8, U32, U64, FitsDestination, FitsSource, FitsBitfield, FitsShift, FitsScan, FitsCompare, Fits}

-- the property P of x; what both answers of a test have, its answer has
record Has {A : Type 0} (P : A → Type 0) (x : A) : Type 0 where
  has : P x

either : {A : Type 0} {P : A → Type 0} (b : Bool) {x y : A} → Has P x → Has P y → Has P (cond b x y)
either true p q = p
either false p q = q

-- ---- operands

abbrev FitsReadDst : Option Dst → Type 0
FitsReadDst (Some d) = FitsDestination d.destination
FitsReadDst None = Unit {0}

abbrev FitsReadSrc : Option Src → Type 0
FitsReadSrc (Some s) = FitsSource s.source
FitsReadSrc None = Unit {0}

destination_fits : (wide : Bool) (v t : ℕ) → U8 v → Has FitsReadDst (destination_of wide v t)
unfolding destination_of
destination_fits wide v t h =
    let q : U8 (v / 2) = omega arith in
    either (eqb (t / 2) 0) (record { has = h })
    (either (eqb (v % 2) 0) (record { has = q })
    (either wide (record { has = q }) (record { has = tt })))

uniform_fits : (wide : Bool) (u t : ℕ) → u < 2 ^ 9 → Has FitsReadSrc (uniform_of wide u t)
unfolding uniform_of
uniform_fits wide u t h =
    let q : U8 (u / 2) = omega arith in
    either (eqb t 0) (record { has = omega arith })
    (either (eqb (u % 2) 0) (record { has = q })
    (either (eqb (u / 2) 255) (record { has = tt })
    (either wide (record { has = q }) (record { has = tt }))))

source_fits : (wide : Bool) (v t : ℕ) → U8 v → Has FitsReadSrc (source_of wide v t)
unfolding source_of
source_fits wide v t h =
    let q : U8 (v / 2) = omega arith in
    either (eqb (t / 4) 0) (either (eqb (t % 4) 0) (record { has = h }) (record { has = h }))
    (either (eqb (t / 4) 1) (uniform_fits wide (v + 256 * (t % 2)) (t / 2 % 2) (omega arith))
    (either (eqb (t % 4) 0) (record { has = tt })
    (either (eqb (v % 2) 1) (record { has = tt })
    (either (eqb (t / 4) 2) (record { has = q })
    (either wide (record { has = q }) (record { has = tt }))))))

-- ---- fields

-- the number is within the bits
abbrev Within : Bits → Type 0
Within b = b.value < 2 ^ b.width

join : (hi lo : Bits) → Within hi → Within lo → Within (hi ⦂ lo)
join hi lo h l =
    let p : suc hi.value * 2 ^ lo.width ≤ 2 ^ hi.width * 2 ^ lo.width = mul-le-mul_right _ h in
    rw pow-add (omega (arith, suc-mul hi.value (2 ^ lo.width)))

field_within : (fs : List Field) (w : ℕ) (name : String) → Has Within (field_in fs w name)
field_within [] w name = record { has = lit< tt }
field_within (f ∷ fs) w name =
    either (eqt f.name name) (record { has = mod-lt (w / 2 ^ f.at.lo) (pow_pos (width_of f.at)) }) (field_within fs w name)

-- ---- what a diagram makes of a word

module _ (w : ℕ) (r : Diagram) where
  abbrev f : String → Bits
  f = field_in r.fields w

  field : (x : String) → Within (f x)
  field x = (field_within r.fields w x).has

  -- a field, and two and three joined
  one : (x : String) (n : ℕ) → (f x).width ≤ n → (f x).value < 2 ^ n
  one x n l = lt_of_lt_of_le (field x) (pow_mono l)

  two : (x y : String) → (f x ⦂ f y).width ≤ 8 → U8 (f x ⦂ f y).value
  two x y l = lt_of_lt_of_le (join (f x) (f y) (field x) (field y)) (pow_mono l)

  three : (x y z : String) → (f x ⦂ f y ⦂ f z).width ≤ 8 → U8 (f x ⦂ f y ⦂ f z).value
  three x y z l =
      lt_of_lt_of_le (join (f x) (f y ⦂ f z) (field x) (join (f y) (f z) (field y) (field z))) (pow_mono l)

  -- operands of two joined fields
  dst_fits : (wide : Bool) (t : ℕ) (d : Dst) → (f "Dx" ⦂ f "D").width ≤ 8 → destination_of wide (f "Dx" ⦂ f "D").value t ≡ Some d
      → FitsDestination d.destination
  dst_fits wide t d l e = subst FitsReadDst e (destination_fits wide _ t (two "Dx" "D" l)).has

  src_fits : (x y : String) (wide : Bool) (t : ℕ) (s : Src) → (f x ⦂ f y).width ≤ 8
      → source_of wide (f x ⦂ f y).value t ≡ Some s → FitsSource s.source
  src_fits x y wide t s l e = subst FitsReadSrc e (source_fits wide _ t (two x y l)).has

  -- the "?" bits
  kept_fits : w < 2 ^ 64 → U64 (bit_and w (mask r.unknowns))
  kept_fits h = lt_of_le_of_lt (and_le_l w (mask r.unknowns)) h

module _ (w : ℕ) (h : w < 2 ^ 64) where
  -- ---- Move Instructions

  mov16_fits : Reads Fits (read_by (row_at 0) w)
  unfolding rows
  mov16_fits =
      on_dst Fits _ _ λ d e.
      is_reads Fits _ (
        dst_fits w (row_at 0) _ _ d (lit≤ tt) e,
        one w (row_at 0) "imm16" 16 (lit≤ tt),
        one w (row_at 0) "L" 8 (lit≤ tt),
        kept_fits w (row_at 0) h,
      )

  mov32_fits : Reads Fits (read_by (row_at 1) w)
  unfolding rows
  mov32_fits =
      on_dst Fits _ _ λ d e.
      is_reads Fits _ (
        dst_fits w (row_at 1) _ _ d (lit≤ tt) e,
        one w (row_at 1) "imm32" 32 (lit≤ tt),
        one w (row_at 1) "L" 8 (lit≤ tt),
        kept_fits w (row_at 1) h,
      )

  get_sr_fits : Reads Fits (read_by (row_at 2) w)
  unfolding rows
  get_sr_fits =
      on_dst Fits _ _ λ d e.
      is_reads Fits _ (dst_fits w (row_at 2) _ _ d (lit≤ tt) e, two w (row_at 2) "SRx" "SR" (lit≤ tt), kept_fits w (row_at 2) h)

  -- ---- Integer Arithmetic Instructions

  iadd_fits : Reads Fits (read_by (row_at 3) w)
  unfolding rows
  iadd_fits =
      on_binary Fits _ _ λ o e.
      let q = of-binary _ _ _ o e in
      is_reads Fits _ (
        (
          dst_fits w (row_at 3) _ _ o.d (lit≤ tt) q.0,
          src_fits w (row_at 3) "Ax" "A" _ _ o.a (lit≤ tt) q.1,
          src_fits w (row_at 3) "Bx" "B" _ _ o.b (lit≤ tt) q.2,
        ),
        one w (row_at 3) "S" 8 (lit≤ tt),
        one w (row_at 3) "N" 8 (lit≤ tt),
        one w (row_at 3) "As" 8 (lit≤ tt),
        one w (row_at 3) "Bs" 8 (lit≤ tt),
        two w (row_at 3) "s2" "s1" (lit≤ tt),
        kept_fits w (row_at 3) h,
      )

  imadd_fits : Reads Fits (read_by (row_at 4) w)
  unfolding rows
  imadd_fits =
      on_ternary Fits _ _ λ o e.
      let q = of-ternary _ _ _ _ o e in
      is_reads Fits _ (
        (
          dst_fits w (row_at 4) _ _ o.d (lit≤ tt) q.0,
          src_fits w (row_at 4) "Ax" "A" _ _ o.a (lit≤ tt) q.1,
          src_fits w (row_at 4) "Bx" "B" _ _ o.b (lit≤ tt) q.2,
          src_fits w (row_at 4) "Cx" "C" _ _ o.c (lit≤ tt) q.3,
        ),
        one w (row_at 4) "S" 8 (lit≤ tt),
        one w (row_at 4) "N" 8 (lit≤ tt),
        one w (row_at 4) "As" 8 (lit≤ tt),
        one w (row_at 4) "Bs" 8 (lit≤ tt),
        one w (row_at 4) "Cs" 8 (lit≤ tt),
        two w (row_at 4) "s2" "s1" (lit≤ tt),
        kept_fits w (row_at 4) h,
      )

  -- ---- Shift/Bitfield Instructions

  bitfield_fits : (make : Bitfield → Instruction) → ((x : Bitfield) → FitsBitfield x → Fits (make x))
      → Reads Fits (bitfield make (field_in (row_at 5).fields w) (bit_and w (mask (row_at 5).unknowns)))
  unfolding rows
  bitfield_fits make m =
      on_ternary Fits _ _ λ o e.
      let q = of-ternary _ _ _ _ o e in
      is_reads Fits _
      (m _ (
        (
          dst_fits w (row_at 5) _ _ o.d (lit≤ tt) q.0,
          src_fits w (row_at 5) "Ax" "A" _ _ o.a (lit≤ tt) q.1,
          src_fits w (row_at 5) "Bx" "B" _ _ o.b (lit≤ tt) q.2,
          src_fits w (row_at 5) "Cx" "C" _ _ o.c (lit≤ tt) q.3,
        ),
        three w (row_at 5) "m3" "m2" "m1" (lit≤ tt),
        kept_fits w (row_at 5) h,
      ))

  shift_fits : (make : Shift → Instruction) → ((x : Shift) → FitsShift x → Fits (make x))
      → Reads Fits (shift make (field_in (row_at 10).fields w) (bit_and w (mask (row_at 10).unknowns)))
  unfolding rows
  shift_fits make m =
      on_binary Fits _ _ λ o e.
      let q = of-binary _ _ _ o e in
      is_reads Fits _
      (m _ (
        (
          dst_fits w (row_at 10) _ _ o.d (lit≤ tt) q.0,
          src_fits w (row_at 10) "Ax" "A" _ _ o.a (lit≤ tt) q.1,
          src_fits w (row_at 10) "Bx" "B" _ _ o.b (lit≤ tt) q.2,
        ),
        kept_fits w (row_at 10) h,
      ))

  -- ---- Bit Manipulation Instructions

  bitop_fits : Reads Fits (read_by (row_at 12) w)
  unfolding rows
  bitop_fits =
      on_binary Fits _ _ λ o e.
      let q = of-binary _ _ _ o e in
      is_reads Fits _ (
        (
          dst_fits w (row_at 12) _ _ o.d (lit≤ tt) q.0,
          src_fits w (row_at 12) "Ax" "A" _ _ o.a (lit≤ tt) q.1,
          src_fits w (row_at 12) "Bx" "B" _ _ o.b (lit≤ tt) q.2,
        ),
        one w (row_at 12) "tt0" 8 (lit≤ tt),
        one w (row_at 12) "tt1" 8 (lit≤ tt),
        one w (row_at 12) "tt2" 8 (lit≤ tt),
        one w (row_at 12) "tt3" 8 (lit≤ tt),
        kept_fits w (row_at 12) h,
      )

  scan_fits : (make : Scan → Instruction) → ((x : Scan) → FitsScan x → Fits (make x))
      → Reads Fits (scan make (field_in (row_at 13).fields w) (bit_and w (mask (row_at 13).unknowns)))
  unfolding rows
  scan_fits make m =
      on_unary Fits _ _ λ o e.
      let q = of-unary _ _ o e in
      is_reads Fits _
      (m _ (
        (dst_fits w (row_at 13) _ _ o.d (lit≤ tt) q.0, src_fits w (row_at 13) "Ax" "A" _ _ o.a (lit≤ tt) q.1),
        kept_fits w (row_at 13) h,
      ))

  -- ---- Flow Control Instructions

  jump_fits : (make : ℕ → Instruction) → ((x : ℕ) → U32 x → Fits (make x))
      → Reads Fits (jump make (field_in (row_at 16).fields w) (bit_and w (mask (row_at 16).unknowns)))
  unfolding rows
  jump_fits make m = is_reads Fits _ (m _ (one w (row_at 16) "off" 32 (lit≤ tt)))

  -- ---- Execution Mask Stack Instructions

  pop_exec_fits : Reads Fits (read_by (row_at 18) w)
  unfolding rows
  pop_exec_fits = is_reads Fits _ (one w (row_at 18) "n" 8 (lit≤ tt), kept_fits w (row_at 18) h)

  compare_fits : (make : Compare → Instruction) → ((x : Compare) → FitsCompare x → Fits (make x))
      → Reads Fits (compare make (field_in (row_at 19).fields w) (bit_and w (mask (row_at 19).unknowns)))
  unfolding rows
  compare_fits make m =
      on_condition Fits _ _ λ means. on_compared Fits _ _ λ o e.
      let q = of-compared _ _ o e in
      is_reads Fits _
      (m _ (
        one w (row_at 19) "cc" 8 (lit≤ tt),
        one w (row_at 19) "ccn" 8 (lit≤ tt),
        one w (row_at 19) "n" 8 (lit≤ tt),
        (src_fits w (row_at 19) "Ax" "A" _ _ o.a (lit≤ tt) q.0, src_fits w (row_at 19) "Bx" "B" _ _ o.b (lit≤ tt) q.1),
        kept_fits w (row_at 19) h,
      ))

-- ---- all of them

abbrev AllFit : List Diagram → Type 0
AllFit [] = Unit {0}
AllFit (r ∷ rs) = ((w : ℕ) → w < 2 ^ 64 → Reads Fits (read_by r w)) × AllFit rs

rows_fit : AllFit rows
unfolding rows
rows_fit =
    mov16_fits
    & mov32_fits
    & get_sr_fits
    & iadd_fits
    & imadd_fits
    & (λ w h. bitfield_fits w h Instruction.Bfi (λ x q. q))
    & (λ w h. bitfield_fits w h Instruction.Bfeil (λ x q. q))
    & (λ w h. bitfield_fits w h Instruction.Extr (λ x q. q))
    & (λ w h. bitfield_fits w h Instruction.Shlhi (λ x q. q))
    & (λ w h. bitfield_fits w h Instruction.Shrhi (λ x q. q))
    & (λ w h. shift_fits w h Instruction.Asr (λ x q. q))
    & (λ w h. shift_fits w h Instruction.Asrh (λ x q. q))
    & bitop_fits
    & (λ w h. scan_fits w h Instruction.Bitrev (λ x q. q))
    & (λ w h. scan_fits w h Instruction.Popcount (λ x q. q))
    & (λ w h. scan_fits w h Instruction.Ffs (λ x q. q))
    & (λ w h. jump_fits w h Instruction.JmpExecAny (λ x q. q))
    & (λ w h. jump_fits w h Instruction.JmpExecNone (λ x q. q))
    & pop_exec_fits
    & (λ w h. compare_fits w h Instruction.IfIcmp (λ x q. q))
    & (λ w h. compare_fits w h Instruction.WhileIcmp (λ x q. q))
    & (λ w h. compare_fits w h Instruction.ElseIcmp (λ x q. q))
    & tt

row_fits : (ds : List Diagram) → AllFit ds → (place w : ℕ) → w < 2 ^ 64 → Reads Fits (read_by (get_or ds place no_diagram) w)
row_fits [] a place w h = none_reads Fits
row_fits (d ∷ ds) a zero w h = a.0 w h
row_fits (d ∷ ds) a (suc place) w h = row_fits ds a.1 place w h

abbrev FitsDecoded : Decoded → Type 0
FitsDecoded (Ok (i, n)) = Fits i
FitsDecoded (Err r) = Unit {0}

-- what decodes fits: each number of the instruction is within its type
pub decoded_fits : (s : List ℕ) → Bytes s → (i : Instruction) (n : ℕ) → decode_of s ≡ Ok (i, n) → Fits i
decoded_fits s b i n e = subst FitsDecoded e (cases FitsDecoded s here (λ r x y. tt))
  where
    here : (p m : ℕ) (j : Instruction) → find_of s ≡ Ok (p, m) → read_at p (le (take m s)) ≡ Some j → Fits j
    here p m j found read =
        let k = subst (Lent s) found (found-lent s) in
        let l : length (take m s) ≤ 8 = simp length-take (omega arith) in
        (row_fits rows rows_fit p (le (take m s)) (le_lt (take m s) 8 (bytes_take m s b) l)).holds j read
