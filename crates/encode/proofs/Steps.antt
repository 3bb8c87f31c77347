-- The steps of encoding: when the instruction is found again, and what each answer leaves.
use Rattle.std.proofs.Common.{Ok, Err}
use mathlib.Core.Path.{◌≡◌, sym, ap, ap₂, ◌∙◌}
use mathlib.Core.Bool.{Bool, true, false}
use mathlib.Core.List.{List, ◌++◌}
use Prim.Native.Nat.{ℕ, ◌+◌, ◌≤◌, ◌<◌}
use native.Mathlib.Nat.{zero-add, le_of_suc-le-suc}
use lib.Dec.{leb}
use lib.ListN.{length, take, drop}
use lib.Seq.{sets, sets-eq}
use borrow.Author.Tests.{le-leb, lt-leb, leb-true}
use Rattle.bits.specs.Word.{bytes_of}
use Rattle.bits.proofs.Laws.{length-bytes_of, take-bytes}
use Rattle.isa.specs.Decode.{decode_of}
use Rattle.isa.specs.Answer.{Decoded}
use Rattle.isa.specs.Refusal.{refusal}
use Rattle.isa.specs.declared.instruction.Instruction.{Instruction}
use Rattle.isa.specs.Parts.{parts_of, length_for}
use Rattle.isa.specs.declared.parts.Parts.{Parts}
use Rattle.encoding.specs.Write.{word_for}
use Rattle.encode.specs.Encode.{length_of, bytes_for, is_found, accepts, encoded_of, encoding_left}

pub length_eight : (n w : ℕ) (bs : List ℕ) → bs ≡ bytes_of 8 w → n < 9 → length (take n bs) ≡ n
length_eight n w bs e h = rw (e, take-bytes 8 n w (le_of_suc-le-suc h)) (length-bytes_of n w)

-- p, n, w, bs, d and t are what the calls gave
module _ (i : Instruction) (p : Parts) (n w : ℕ) (bs : List ℕ) (d : Decoded) (t : Bool) (ep : p ≡ parts_of i) (ln : (n ≡ length_for p) × (n < 9))
    (ew : w ≡ word_for i) (eb : bs ≡ bytes_of 8 w) (ed : d ≡ decode_of (take n bs)) (et : t ≡ is_found d i n) where
  en : n ≡ length_of i
  en = ln.0 ∙ ap length_for ep

  hn : n < 9
  hn = ln.1

  bytes : take n bs ≡ bytes_for i
  bytes = ap (λ (l : List ℕ). take n l) eb ∙ take-bytes 8 n w (le_of_suc-le-suc hn) ∙ ap₂ bytes_of en ew

  test : t ≡ accepts i
  unfolding accepts
  test = et ∙ ap₂ (λ (y : Decoded) (k : ℕ). is_found y i k) (ed ∙ ap decode_of bytes) en

  -- what is not found again is refused with 8
  pub unaccepted : t ≡ false → (out : List ℕ) → (Err (refusal 8) ≡ encoded_of i out) × (out ≡ encoding_left i out)
  unfolding encoded_of encoding_left
  unaccepted z out = let a : accepts i ≡ false = sym test ∙ z in (rw a, rw a)

  -- a buffer that is too short is refused with 9
  pub short : t ≡ true → (out : List ℕ) → length out < n → (Err (refusal 9) ≡ encoded_of i out) × (out ≡ encoding_left i out)
  unfolding encoded_of encoding_left
  short z out h =
      let a : accepts i ≡ true = sym test ∙ z in
      let y : leb (length_of i) (length out) ≡ false = ap (λ (m : ℕ). leb m (length out)) (sym en) ∙ lt-leb n (length out) h in
      (rw (a, y), rw (a, y))

  -- else the bytes are put
  pub written : t ≡ true → (out last : List ℕ) → n ≤ length out → last ≡ sets out 0 (take n bs)
      → (Ok n ≡ encoded_of i out) × (last ≡ encoding_left i out)
  unfolding encoded_of encoding_left
  written z out last h l =
      let a : accepts i ≡ true = sym test ∙ z in
      let y : leb (length_of i) (length out) ≡ true = ap (λ (m : ℕ). leb m (length out)) (sym en) ∙ le-leb n (length out) h in
      let j : length (bytes_for i) ≡ length_of i = length-bytes_of (length_of i) (word_for i) in
      let k : 0 + length (bytes_for i) ≤ length out = rw (zero-add (length (bytes_for i)), j) (leb-true (length_of i) (length out) y) in
      let q : sets out 0 (bytes_for i) ≡ bytes_for i ++ drop (length_of i) out =
      sets-eq (bytes_for i) out 0 k ∙ ap (λ (m : ℕ). bytes_for i ++ drop m out) (zero-add (length (bytes_for i)) ∙ j) in
      (rw (a, y) (ap Ok en), rw (a, y) (l ∙ ap (sets out 0) bytes ∙ q))
