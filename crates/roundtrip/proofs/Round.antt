-- The two round trips: what was decoded is encoded to the same bytes, "?" bits too, and what the encoder accepts decodes, alone, to
-- what it was given. Stated of the bytes, and of what encoding answers and leaves.
use Rattle.std.proofs.Common.{Option, Ok, Err}
use mathlib.Core.Path.{◌≡◌, refl, sym, ap, ap₂, ◌∙◌, subst}
use mathlib.Core.Bool.{Bool, true, false}
use mathlib.Core.List.{List, ◌++◌}
use mathlib.Core.Logic.{◌↔◌}
use Prim.Native.Nat.{ℕ, ◌≤◌}
use native.Mathlib.Omega.{arith}
use lib.Dec.{eqb, leb}
use lib.ListN.{length, take, drop}
use lib.Seq.{take-append_seam}
use borrow.Author.Tests.{eqb-true, eq-eqb, le-leb}
use Rattle.bits.proofs.Laws.{Bytes, length-bytes_of, bytes-bytes_of}
use Rattle.isa.specs.Decode.{decode_of}
use Rattle.isa.specs.Answer.{Decoded}
use Rattle.isa.proofs.Pairs.{ok_pair_parts}
use Rattle.isa.specs.Answer.{Encoded}
use Rattle.isa.specs.declared.instruction.Instruction.{Instruction}
use Rattle.bits.proofs.Table.{and_left, and_right}
use Rattle.isa.specs.Parts.{same}
use Rattle.parts.proofs.Back.{same-is, same_self}
use Rattle.form.specs.Fits.{Fits}
use Rattle.form.specs.Form.{form_of}
use Rattle.form.proofs.Form.{form_spelled}
use Rattle.encoding.specs.Write.{word_for}
use Rattle.encode.specs.Encode.{length_of, bytes_for, is_found, accepts, encoded_of, encoding_left, encoded_spelled, left_spelled, encoded_from, left_from}
use Rattle.roundtrip.proofs.Back.{length_back, bytes_back, first_decodes}

-- ---- decode, then encode

-- what bytes decode to, is accepted, and its bytes are those that were decoded
pub decoded-accepted : (s : List ℕ) → Bytes s → (i : Instruction) (n : ℕ) → decode_of s ≡ Ok (i, n) → accepts i ≡ true
unfolding accepts
decoded-accepted s hs i n e =
    let d : decode_of (bytes_for i) ≡ Ok (i, n) = ap decode_of (bytes_back s hs i n e) ∙ first_decodes s hs i n e in
    rw (d, eq-eqb n (length_of i) (sym (length_back s hs i n e)), same_self i)

-- encoding it into a buffer with room answers n, and leaves the first n bytes again and nothing after them changed
pub decode_encode : (s : List ℕ) → Bytes s → (i : Instruction) (n : ℕ) → decode_of s ≡ Ok (i, n) → (out : List ℕ) → n ≤ length out
    → (encoded_of i out ≡ Ok n) × (encoding_left i out ≡ take n s ++ drop n out)
unfolding encoded_of encoding_left
decode_encode s hs i n e out h =
    let a = decoded-accepted s hs i n e in
    let l = length_back s hs i n e in
    let r : leb (length_of i) (length out) ≡ true = rw l (le-leb n (length out) h) in (
      rw (a, r) (ap Ok l),
      rw (a, r) (ap₂ (λ (x y : List ℕ). x ++ y) (bytes_back s hs i n e) (ap (λ (k : ℕ). drop k out) l)),
    )

-- ---- encode, then decode

is_found_lem : (d : Decoded) (i : Instruction) (n : ℕ) → is_found d i n ≡ true → d ≡ Ok (i, n)
is_found_lem (Ok (j, m)) i n e =
    ap₂ (λ (x : Instruction) (y : ℕ). Ok (x, y))
    (same-is j i (and_right (eqb m n) (same j i) e))
    (eqb-true m n (and_left (eqb m n) (same j i) e))
is_found_lem (Err r) i n e = let z : ◌≡◌ {A = ℕ} 0 1 = cc in absurd (omega arith)

pub accepted_decodes : (i : Instruction) → accepts i ≡ true → decode_of (bytes_for i) ≡ Ok (i, length_of i)
unfolding accepts
accepted_decodes i e = is_found_lem (decode_of (bytes_for i)) i (length_of i) e

abbrev Wrote : Instruction → List ℕ → Encoded → Type 0
Wrote i out (Ok n) = (accepts i ≡ true) × (n ≡ length_of i) × (encoding_left i out ≡ bytes_for i ++ drop n out)
Wrote i out (Err r) = Unit {0}

-- an answer that counts bytes comes from an instruction that is accepted, and its bytes stand in the buffer
wrote : (i : Instruction) (out : List ℕ) → Wrote i out (encoded_of i out)
unfolding encoded_of encoding_left
wrote i out = go (accepts i) refl (leb (length_of i) (length out)) refl
  where
    go : (a : Bool) → accepts i ≡ a → (b : Bool) → leb (length_of i) (length out) ≡ b → Wrote i out (encoded_of i out)
    go true e true f = rw (e, f) (e, refl, rw (e, f))
    go true e false f = rw (e, f) tt
    go false e b f = rw e tt

-- the bytes that encoding leaves, decoded alone, give the instruction back, with their number as its length
pub encode_decode : (i : Instruction) (out : List ℕ) (n : ℕ) → encoded_of i out ≡ Ok n
    → decode_of (take n (encoding_left i out)) ≡ Ok (i, n)
encode_decode i out n e =
    let q : Wrote i out (Ok n) = subst (Wrote i out) e (wrote i out) in
    let l : length (bytes_for i) ≡ n = length-bytes_of (length_of i) (word_for i) ∙ sym q.1 in
    ap (λ (x : List ℕ). decode_of (take n x)) q.2
    ∙ ap (λ (k : ℕ). decode_of (take k (bytes_for i ++ drop n out))) (sym l)
    ∙ ap decode_of (take-append_seam (bytes_for i) (drop n out))
    ∙ accepted_decodes i q.0
    ∙ ap (λ (k : ℕ). Ok (i, k)) (sym q.1)

-- ---- hence

-- two instructions that are accepted and have the same bytes are the same
pub injective : (i j : Instruction) → accepts i ≡ true → accepts j ≡ true → bytes_for i ≡ bytes_for j → i ≡ j
injective i j a b e =
    (ok_pair_parts i j (length_of i) (length_of j) (sym (accepted_decodes i a) ∙ ap decode_of e ∙ accepted_decodes j b)).0

-- some bytes decode to the instruction
abbrev pub Decodes : Instruction → Type 0
Decodes i = (s : List ℕ) × (n : ℕ) × Bytes s × (decode_of s ≡ Ok (i, n))

-- the encoder accepts exactly the instructions that some bytes decode to
pub accepts_exactly : (i : Instruction) → (accepts i ≡ true) ↔ Decodes i
accepts_exactly i = (
  (λ a. (bytes_for i, length_of i, bytes-bytes_of (length_of i) (word_for i), accepted_decodes i a)),
  (λ d. decoded-accepted d.0 d.2 i d.1 d.3),
)

-- ---- by way of the byte form

-- encoding from the byte form of an instruction is encoding the instruction
pub form_encode : (i : Instruction) → Fits i → (out : List ℕ) → (encoded_from (form_of i) out ≡ encoded_of i out) × (left_from (form_of i) out ≡ encoding_left i out)
form_encode i h out =
    (ap (λ (x : Option Instruction). encoded_spelled x out) (form_spelled i h), ap (λ (x : Option Instruction). left_spelled x out) (form_spelled i h))
