-- The steps of the loop. It writes the code up to an address, and from there on leaves what stood in the buffer.
use Rattle.std.proofs.Common.{Ok, Err}
use mathlib.Core.Path.{◌≡◌, sym, ap, ap₂, ◌∙◌}
use mathlib.Core.List.{List, ◌++◌, append_assoc, append-nil}
use Prim.Native.Nat.{ℕ, ◌+◌, ◌-◌, ◌≤◌, ◌<◌}
use native.Mathlib.Omega.{arith}
use lib.ListN.{length, take, drop, length-append, length-drop, take-append-drop, drop_of_length-le}
use lib.Seq.{sets, sets-eq, length-take-le, take-length, take_all, take_at, take-add, drop_at, drop-drop}
use borrow.Author.Tests.{le-leb}
use Rattle.bits.proofs.Laws.{Bytes, bytes_drop}
use Rattle.isa.specs.Decode.{decode_of}
use Rattle.isa.specs.Answer.{Encoded}
use Rattle.isa.specs.declared.answer.Refusal.{Refusal}
use Rattle.isa.specs.declared.instruction.Instruction.{Instruction}
use Rattle.isa.proofs.Found.{found-length}
use Rattle.encode.specs.Encode.{encoded_of, encoding_left}
use Rattle.roundtrip.proofs.Round.{decode_encode}
use Rattle.recode.specs.Recode.{answer_of, left_of}
use Rattle.recode.proofs.Same.{recoded_same}

-- the code up to an address, over an old buffer
abbrev pub done : List ℕ → List ℕ → ℕ → List ℕ
done code old at = take at code ++ drop at old

-- an instruction of n bytes, encoded into the part of the buffer that starts at the address, leaves the code n bytes further
pub record Turn (code old out : List ℕ) (at : ℕ) (i : Instruction) (n : ℕ) : Type 0 where
  pub within : (0 < n) × (at + n ≤ length code)
  pub taken : encoded_of i (take (length out - at) (drop at out)) ≡ Ok n
  pub encoded : (part : List ℕ) → part ≡ encoding_left i (take (length out - at) (drop at out))
      → take at out ++ (part ++ drop (length out - at) (drop at out)) ≡ done code old (at + n)

module _ (code old out : List ℕ) (at : ℕ) (e : out ≡ done code old at) (h : at ≤ length code) (g : length code ≤ length old) where
  size : length (take at code) ≡ at
  size = length-take-le at code h

  written : take at out ≡ take at code
  written = ap (take at) e ∙ take_at (take at code) (drop at old) at size

  kept : drop at out ≡ drop at old
  kept = ap (drop at) e ∙ drop_at (take at code) (drop at old) at size

  same_size : length out ≡ length old
  same_size = ap length e ∙ length-append (take at code) (drop at old) ∙ omega (arith, size, length-drop at old)

  -- the rest of the code fits
  pub fits_rest : at + length (take (length code - at) (drop at code)) ≤ length out
  fits_rest =
      let l = length-drop at code in
      let m = same_size in
      rw (take_all (length code - at) (drop at code) (omega arith)) (omega arith)

  -- and is put
  pub copied : (new : List ℕ) → new ≡ sets out at (take (length code - at) (drop at code)) → new ≡ done code old (length code)
  copied new c =
      let k = length code - at in
      let m : at + k ≡ length code = omega arith in
      let l = length-drop at code in
      let r : take k (drop at code) ≡ drop at code = take_all k (drop at code) (omega arith) in
      let f : length (drop at code) ≡ k = omega arith in
      let h : at + length (drop at code) ≤ length out = omega (arith, same_size) in
      let d : drop (at + k) out ≡ drop (at + k) old =
      sym (drop-drop k at out) ∙ ap (drop k) kept ∙ drop-drop k at old in
      c
      ∙ ap (sets out at) r
      ∙ sets-eq (drop at code) out at h
      ∙ ap₂ (λ (x y : List ℕ). x ++ drop at code ++ y) written (ap (λ (j : ℕ). drop (at + j) out) f ∙ d ∙ ap (λ (j : ℕ). drop j old) m)
      ∙ ap (λ (x : List ℕ). x ++ drop (length code) old) (take-append-drop at code ∙ sym (take-length code))

  -- an instruction is decoded from the part of the code that starts at the address
  pub turn : Bytes code → (i : Instruction) (n : ℕ) → decode_of (take (length code - at) (drop at code)) ≡ Ok (i, n)
      → Turn code old out at i n
  turn hs i n d =
      let c = length-drop at code in
      let o = length-drop at out in
      let l = same_size in
      let t : decode_of (drop at code) ≡ Ok (i, n) =
      ap decode_of (sym (take_all (length code - at) (drop at code) (omega arith))) ∙ d in
      let w : (0 < n) × (at + n ≤ length code) = omega (arith, found-length (drop at code) i n t) in
      let all : length (drop at out) ≤ length out - at = omega arith in
      let again = decode_encode (drop at code) (bytes_drop at code hs) i n t (drop at out) (omega arith) in
      let q : encoding_left i (drop at out) ≡ take n (drop at code) ++ drop (at + n) old =
      again.1
      ∙ ap (λ (x : List ℕ). take n (drop at code) ++ x) (ap (drop n) kept ∙ drop-drop n at old) in
      record {
        within = w;
        taken = ap (encoded_of i) (take_all (length out - at) (drop at out) all) ∙ again.0;
        encoded =
            λ part p.
            rw (
              written,
              drop_of_length-le (drop at out) {i = length out - at} all,
              append-nil,
              p,
              take_all (length out - at) (drop at out) all,
              q,
              take-add at n code,
            )
            (sym (append_assoc (take at code) (take n (drop at code)) (drop (at + n) old)));
      }

-- no call both answers a number and is refused
pub not_both : (a : Encoded) (n : ℕ) (r : Refusal) → a ≡ Ok n → a ≡ Err r → ⊥
not_both a n r e f = let z : ◌≡◌ {A = ℕ} 0 1 = cc in absurd (omega arith)

-- all is written: what the call answers and leaves
pub finished : (code old out : List ℕ) (at : ℕ) → Bytes code → out ≡ done code old at → at ≡ length code → length code ≤ length old
    → (Ok at ≡ answer_of (length code) (length old)) × (out ≡ left_of code old)
finished code old out at hs e h g =
    let t = le-leb (length code) (length old) g in
    let f : out ≡ code ++ drop (length code) old =
    e ∙ ap (done code old) h ∙ ap (λ (x : List ℕ). x ++ drop (length code) old) (take-length code) in
    (rw (t, h), rw (t, recoded_same code hs) f)
