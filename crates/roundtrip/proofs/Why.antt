-- The reasons of refusal 8, and no others: what is accepted has none of them, and what has none of them is accepted.
use Rattle.std.proofs.Common.{Some, Ok, Err}
use mathlib.Core.Path.{◌≡◌, refl, sym, ap, ◌∙◌, subst}
use mathlib.Core.Bool.{Bool, true, false}
use mathlib.Core.List.{List, [], ◌∷◌}
use mathlib.Core.Logic.{◌↔◌}
use Prim.Native.Nat.{ℕ, ◌*◌, ◌/◌, ◌^◌, ◌<◌, ◌≤◌}
use native.Mathlib.Nat.{le_refl, mod-lt}
use native.Mathlib.Omega.{arith}
use lib.Bits.{bit_and, bit_or, and_self, or_zero_l}
use lib.Dec.{T, eqb, leb, lit≤}
use lib.ListN.{length, take, drop}
use lib.Pow.{pow_pos}
use borrow.Author.Tests.{eqb-true, eqb-false}
use Rattle.bits.specs.Word.{le}
use Rattle.bits.proofs.Laws.{Bytes, bytes-bytes_of, take-bytes, le_bytes, pow_bytes}
use Rattle.bits.proofs.Masks.{and_assoc, or_and}
use Rattle.bits.proofs.Table.{◌&◌, all-at}
use Rattle.isa.specs.Diagram.{Field, width_of, mask, fixed_value}
use Rattle.isa.specs.Refusal.{number_of, refusal}
use Rattle.isa.specs.Rows.{rows}
use Rattle.isa.specs.Decode.{no_diagram, row_at, read_at, decoded_of, read_found, decode_of}
use Rattle.isa.specs.Parts.{parts_of, place_of, kept_of}
use Rattle.isa.specs.declared.operand.Dst.{Dst}
use Rattle.isa.specs.declared.answer.Refusal.{Refusal}
use Rattle.isa.specs.Answer.{Find}
use Rattle.isa.specs.Answer.{Reading}
use Rattle.isa.specs.Answer.{Encoded}
use Rattle.isa.specs.declared.instruction.Instruction.{Instruction}
use Rattle.isa.proofs.Placed.{length-rows, place_below, found-place}
use Rattle.encoding.specs.Write.{Named, number_in, put, fields_for, word_for}
use Rattle.encode.specs.Encode.{length_of, bytes_for, accepts, encoded_of, encoding_left}
use Rattle.answers.specs.Encoded.{answer_by}
use Rattle.roundtrip.specs.Reasons.{Held, HoldsDst, HoldsMov, FieldsWithin, FieldsFit, KeptFits, NoAbsentBit, Finds, Encodable}
use Rattle.roundtrip.proofs.Operands.{dst-back}
use Rattle.roundtrip.proofs.Words.{Agree}
use Rattle.roundtrip.proofs.Placing.{kept_off, separate, all-separate, clear, Settled, settled, has_kept, has_settled, has_clear}
use Rattle.roundtrip.proofs.Again.{Has, mov16_again, mov32_again, get_sr_again, iadd_again, imadd_again, bitfield_again, shift_layout_again, bitop_again, scan_again, jump_again, pop_exec_again, compare_again}
use Rattle.roundtrip.proofs.Back.{told, word_lt, word-back}
use Rattle.roundtrip.proofs.Round.{accepted_decodes, decoded-accepted}

-- ---- what is accepted has none of the reasons

-- fields that a word has are within their widths
within : (w : ℕ) (fs : List Field) (ns : List Named) → Agree w fs ns → FieldsWithin fs ns
within w [] ns a = tt
within w (f ∷ fs) ns a =
    (rw a.0 (mod-lt (w / 2 ^ f.at.lo) (pow_pos (width_of f.at))), within w fs ns a.1)

-- what a mask cut out of a word, it cuts out again
cut_again : (w m k : ℕ) → k ≡ bit_and w m → bit_and k m ≡ k
cut_again w m k e = rw e (sym (and_assoc w m m) ∙ ap (bit_and w) (and_self m))

pub accepted_encodable : (i : Instruction) → accepts i ≡ true → Encodable i
accepted_encodable i a =
    let s = bytes_for i in
    let n = length_of i in
    let hs : Bytes s = bytes-bytes_of n (word_for i) in
    let e = accepted_decodes i a in
    let t = told s hs i n e in
    record {
      fields = within (le (take n s)) (row_at (place_of i)).fields (fields_for i) t.0;
      kept = cut_again (le (take n s)) (mask (row_at (place_of i)).unknowns) (kept_of i) t.1;
      held = t.3;
      absent = rw (word-back s hs i n e) (word_lt s hs i n e);
      finds = found-place s i n e;
    }

-- ---- what has none of the reasons is accepted

-- a mov's destination is one of any place
any_place : (u : ℕ) (d : Dst) → HoldsMov u d → HoldsDst false d
any_place u d (v, t, hv, ht, e, z) = (v, t, hv, ht, e)

module _ (i : Instruction) (e : Encodable i) where
  separate_row : T (separate (row_at (place_of i)))
  separate_row = all-at separate rows no_diagram all-separate (place_of i) (rw length-rows (place_below i))

  -- its word has its fields and its kept bits, if no field has a bit that is fixed to 1
  has : T (clear (row_at (place_of i))) → Has (word_for i) (row_at (place_of i)) (fields_for i) (kept_of i)
  unfolding word_for
  has c = (
    has_clear (row_at (place_of i)) separate_row (fields_for i) (kept_of i) e.fields e.kept c,
    has_kept (row_at (place_of i)) separate_row (fields_for i) (kept_of i) e.fields e.kept,
  )

-- bit 8 of a mov32 is fixed to 1, and 1 in Dt
upper-set : (t : ℕ) → t / 2 ≡ 1 → bit_or 256 (put 7 t) ≡ put 7 t
upper-set t h = go (eqb t 2) refl
  where
    go : (b : Bool) → eqb t 2 ≡ b → bit_or 256 (put 7 t) ≡ put 7 t
    go true z = let w : t ≡ 2 = eqb-true t 2 z in rw w
    go false z = let w : t ≡ 3 = (let n = eqb-false t 2 z in omega arith) in rw w

module _ (d : Dst) (imm l kept : ℕ) (e : Encodable (Instruction.Mov32 d imm l kept)) where
  abbrev ns : List Named
  ns = fields_for (Instruction.Mov32 d imm l kept)

  upper : number_in ns "Dt" / 2 ≡ 1
  unfolding Held fields_for
  upper =
      let h : HoldsMov 1 d = e.held in
      ap (λ (x : ℕ). x / 2) (dst-back false h.0 h.1 d h.3 h.4).1 ∙ h.5

  mov32_settled : Settled (bit_or kept (fixed_value (row_at 1).fixeds)) (row_at 1).fields ns
  unfolding rows parts_of
  mov32_settled =
      let k : bit_and kept (mask (row_at 1).unknowns) ≡ kept = e.kept in
      let z : bit_and (bit_or kept 0x162) 0x180 ≡ 0x100 =
      or_and kept 0x162 0x180 ∙ ap (λ (x : ℕ). bit_or x 0x100) (kept_off kept (mask (row_at 1).unknowns) 0x180 k refl) ∙ or_zero_l 0x100 in
      (ap (λ (x : ℕ). bit_or x (put 7 (number_in ns "Dt"))) z ∙ upper-set (number_in ns "Dt") upper)
      & settled kept 0x162 (mask (row_at 1).unknowns) (drop 1 (row_at 1).fields) ns k tt tt

  mov32_has : Has (word_for (Instruction.Mov32 d imm l kept)) (row_at 1) ns kept
  unfolding word_for parts_of
  mov32_has =
      let t = separate_row (Instruction.Mov32 d imm l kept) e in
      (has_settled (row_at 1) t ns kept e.fields e.kept mov32_settled, has_kept (row_at 1) t ns kept e.fields e.kept)

-- its word is read as the instruction
reads : (i : Instruction) → Encodable i → read_at (place_of i) (word_for i) ≡ Some i
unfolding rows fields_for Held parts_of
reads (Instruction.Mov16 d imm l kept) e =
    let i = Instruction.Mov16 d imm l kept in
    mov16_again (word_for i) d imm l kept (has i e tt) (any_place 0 d e.held)
reads (Instruction.Mov32 d imm l kept) e =
    mov32_again (word_for (Instruction.Mov32 d imm l kept)) d imm l kept (mov32_has d imm l kept e) (any_place 1 d e.held)
reads (Instruction.GetSr d sr kept) e = let i = Instruction.GetSr d sr kept in get_sr_again (word_for i) d sr kept (has i e tt) e.held
reads (Instruction.Iadd o s n sa sb x kept) e =
    let i = Instruction.Iadd o s n sa sb x kept in
    iadd_again (word_for i) o s n sa sb x kept (has i e tt) e.held
reads (Instruction.Imadd o s n sa sb sc x kept) e =
    let i = Instruction.Imadd o s n sa sb sc x kept in
    imadd_again (word_for i) o s n sa sb sc x kept (has i e tt) e.held
reads (Instruction.Bfi x) e = bitfield_again (word_for (Instruction.Bfi x)) Instruction.Bfi x (has (Instruction.Bfi x) e tt) e.held
reads (Instruction.Bfeil x) e = bitfield_again (word_for (Instruction.Bfeil x)) Instruction.Bfeil x (has (Instruction.Bfeil x) e tt) e.held
reads (Instruction.Extr x) e = bitfield_again (word_for (Instruction.Extr x)) Instruction.Extr x (has (Instruction.Extr x) e tt) e.held
reads (Instruction.Shlhi x) e = bitfield_again (word_for (Instruction.Shlhi x)) Instruction.Shlhi x (has (Instruction.Shlhi x) e tt) e.held
reads (Instruction.Shrhi x) e = bitfield_again (word_for (Instruction.Shrhi x)) Instruction.Shrhi x (has (Instruction.Shrhi x) e tt) e.held
reads (Instruction.Asr x) e = shift_layout_again (word_for (Instruction.Asr x)) Instruction.Asr x (has (Instruction.Asr x) e tt) e.held
reads (Instruction.Asrh x) e = shift_layout_again (word_for (Instruction.Asrh x)) Instruction.Asrh x (has (Instruction.Asrh x) e tt) e.held
reads (Instruction.Bitop o t0 t1 t2 t3 kept) e =
    let i = Instruction.Bitop o t0 t1 t2 t3 kept in
    bitop_again (word_for i) o t0 t1 t2 t3 kept (has i e tt) e.held
reads (Instruction.Bitrev x) e = scan_again (word_for (Instruction.Bitrev x)) Instruction.Bitrev x (has (Instruction.Bitrev x) e tt) e.held
reads (Instruction.Popcount x) e = scan_again (word_for (Instruction.Popcount x)) Instruction.Popcount x (has (Instruction.Popcount x) e tt) e.held
reads (Instruction.Ffs x) e = scan_again (word_for (Instruction.Ffs x)) Instruction.Ffs x (has (Instruction.Ffs x) e tt) e.held
reads (Instruction.JmpExecAny off) e =
    let i = Instruction.JmpExecAny off in
    jump_again (word_for i) Instruction.JmpExecAny off 0 (has i e tt)
reads (Instruction.JmpExecNone off) e =
    let i = Instruction.JmpExecNone off in
    jump_again (word_for i) Instruction.JmpExecNone off 0 (has i e tt)
reads (Instruction.PopExec h n kept) e =
    let i = Instruction.PopExec h n kept in
    pop_exec_again (word_for i) h n kept (has i e tt) e.held
reads (Instruction.IfIcmp x) e = compare_again (word_for (Instruction.IfIcmp x)) Instruction.IfIcmp x (has (Instruction.IfIcmp x) e tt) e.held
reads (Instruction.WhileIcmp x) e = compare_again (word_for (Instruction.WhileIcmp x)) Instruction.WhileIcmp x (has (Instruction.WhileIcmp x) e tt) e.held
reads (Instruction.ElseIcmp x) e = compare_again (word_for (Instruction.ElseIcmp x)) Instruction.ElseIcmp x (has (Instruction.ElseIcmp x) e tt) e.held

pub encodable_accepted : (i : Instruction) → Encodable i → accepts i ≡ true
unfolding decode_of
encodable_accepted i e = decoded-accepted (bytes_for i) (bytes-bytes_of (length_of i) (word_for i)) i (length_of i) decodes
  where
    n : ℕ
    n = length_of i

    again : le (take n (bytes_for i)) ≡ word_for i
    again =
        let l : word_for i < 2 ^ (8 * n) = e.absent in
        ap le (take-bytes n n (word_for i) (le_refl n)) ∙ le_bytes n (word_for i) (rw (← pow_bytes n) l)

    decodes : decode_of (bytes_for i) ≡ Ok (i, n)
    decodes =
        ap (λ (x : Find). read_found x (bytes_for i)) e.finds
        ∙ ap (λ (w : ℕ). decoded_of (read_at (place_of i) w) n) again
        ∙ ap (λ (x : Reading). decoded_of x n) (reads i e)

-- the encoder accepts exactly the instructions that have none of the reasons of refusal 8
pub accepts_encodable : (i : Instruction) → (accepts i ≡ true) ↔ Encodable i
accepts_encodable i = (accepted_encodable i, encodable_accepted i)

-- ---- what has one of the reasons is refused with 8

-- whatever the buffer is, the answer is 8 and it is left as it was
abbrev pub Refused8 : Instruction → Type 0
Refused8 i = (out : List ℕ) → (encoded_of i out ≡ Err (refusal 8)) × (encoding_left i out ≡ out)

pub refused_for : (i : Instruction) → (Encodable i → ⊥) → Refused8 i
unfolding encoded_of encoding_left
refused_for i h out = go (accepts i) refl
  where
    go : (b : Bool) → accepts i ≡ b → (encoded_of i out ≡ Err (refusal 8)) × (encoding_left i out ≡ out)
    go true e = absurd (h (accepted_encodable i e))
    go false e = (rw e, rw e)

pub field_too_wide : (i : Instruction) → (FieldsFit i → ⊥) → Refused8 i
field_too_wide i h = refused_for i (λ e. h e.fields)

pub kept_too_wide : (i : Instruction) → (KeptFits i → ⊥) → Refused8 i
kept_too_wide i h = refused_for i (λ e. h e.kept)

-- an operand or a condition that its place can't hold, or that 4 refuses
pub not-held : (i : Instruction) → (Held i → ⊥) → Refused8 i
not-held i h = refused_for i (λ e. h e.held)

pub absent_bit : (i : Instruction) → (NoAbsentBit i → ⊥) → Refused8 i
absent_bit i h = refused_for i (λ e. h e.absent)

-- the finding rule, given the bytes alone, gives them to another instruction
pub found-other : (i : Instruction) → (Finds i → ⊥) → Refused8 i
found-other i h = refused_for i (λ e. h e.finds)

abbrev Numbered : Encoded → Type 0
Numbered (Ok n) = Unit {0}
Numbered (Err r) = (8 ≤ number_of r) × (number_of r ≤ 9)

-- refused, the encoder answers 8 or 9, and nothing else
pub refused-with : (i : Instruction) (out : List ℕ) (r : Refusal) → encoded_of i out ≡ Err r → (8 ≤ number_of r) × (number_of r ≤ 9)
unfolding encoded_of
refused-with i out r e = subst Numbered e (go (accepts i) (leb (length_of i) (length out)) refl)
  where
    go : (a b : Bool) → leb (length_of i) (length out) ≡ b → Numbered (answer_by a (length_of i) (length out))
    go true true z = rw z tt
    go true false z = rw z (lit≤ tt, lit≤ tt)
    go false b z = (lit≤ tt, lit≤ tt)
