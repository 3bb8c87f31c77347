-- The exported functions undo each other. What was decoded encodes to its own bytes; what was encoded decodes to the same byte form.
use Rattle.std.proofs.Common.{Option, Some, None, Ok}
use mathlib.Core.Path.{◌≡◌, refl, sym, ap, ◌∙◌}
use mathlib.Core.List.{List, ◌++◌}
use Prim.Native.Nat.{ℕ, ◌≤◌, zero-le}
use native.Mathlib.Omega.{arith}
use lib.IntN.{ℤ}
use lib.ListN.{length, take, drop}
use Rattle.bits.proofs.Laws.{Bytes, bytes_drop}
use Rattle.isa.specs.Answer.{Decoded}
use Rattle.isa.specs.declared.instruction.Instruction.{Instruction}
use Rattle.form.specs.Form.{spelled_of}
use Rattle.form.proofs.Form.{spelled_form}
use Rattle.encode.specs.Encode.{encoded_spelled, left_spelled, encoded_from}
use Rattle.roundtrip.proofs.Round.{decode_encode, encode_decode}
use Rattle.answers.specs.Returned.{decoded_by, encoded_by}
use Rattle.decodeat.specs.DecodeAt.{form_length, decoded_at, form_left, DecodesAt}
use Rattle.reedtassel.specs.EncodeForm.{EncodesForm}
use Rattle.decodeat.proofs.Decoding.{form_first, decoded-there, decoded-whole}

module _ {code : List ℕ} {offset : ℕ} {instruction : List ℕ} {z : ℤ} {left : List ℕ} (d : DecodesAt code offset instruction z left)
    (bytes : Bytes code) (i : Instruction) (n : ℕ) (e : decoded_at code offset instruction ≡ Ok (i, n)) where
  -- with room for them, the same bytes, and the same number is returned
  pub decoded_again : (out : List ℕ) → n ≤ length out → {y : ℤ} {encoding : List ℕ} → EncodesForm (take form_length left) out y encoding
      → (y ≡ z) × (encoding ≡ take n (drop offset code) ++ drop n out)
  decoded_again out h {y} {encoding} c =
      let s = d.spells i n e in
      let r = decode_encode (drop offset code) (bytes_drop offset code bytes) i n (decoded-there code offset instruction i n e) out h in
      let a : encoded_from (take form_length left) out ≡ Ok n = ap (λ (x : Option Instruction). encoded_spelled x out) s ∙ r.0 in (
        c.returns ∙ ap encoded_by a ∙ sym (d.returns ∙ ap decoded_by e),
        c.leaves ∙ ap (λ (x : Option Instruction). left_spelled x out) s ∙ r.1,
      )

module _ {form out : List ℕ} {z : ℤ} {encoding : List ℕ} (c : EncodesForm form out z encoding) (n : ℕ)
    (e : encoded_from form out ≡ Ok n) where
  -- the encoding alone, decoded from its start, gives the byte form back, and the same number is returned
  pub encoded_again : (instruction : List ℕ) → form_length ≤ length instruction → {y : ℤ} {left : List ℕ}
      → DecodesAt (take n encoding) 0 instruction y left → (y ≡ z) × (take form_length left ≡ form)
  encoded_again instruction h {y} {left} d = go (spelled_of form) refl
    where
      go : (s : Option Instruction) → spelled_of form ≡ s → (y ≡ z) × (take form_length left ≡ form)
      go None q =
          let w : encoded_spelled None out ≡ Ok n = ap (λ (x : Option Instruction). encoded_spelled x out) (sym q) ∙ e in
          let z : ◌≡◌ {A = ℕ} 0 1 = cc in
          absurd (omega arith)
      go (Some i) q =
          let w = ap (λ (x : Option Instruction). encoded_spelled x out) (sym q) ∙ e in
          let l = c.leaves ∙ ap (λ (x : Option Instruction). left_spelled x out) q in
          let f : decoded_at (take n encoding) 0 instruction ≡ Ok (i, n) =
          decoded-whole (take n encoding) 0 instruction i n zero-le h (rw l (encode_decode i out n w)) in (
            d.returns ∙ ap decoded_by f ∙ sym (c.returns ∙ ap encoded_by e),
            ap (take form_length) (d.leaves ∙ ap (λ (x : Decoded). form_left x instruction) f) ∙ form_first i instruction
                ∙ sym (spelled_form form i q),
          )
