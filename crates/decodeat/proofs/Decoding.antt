-- The ways through decoding at an offset.
use Rattle.std.proofs.Common.{Some, Result, Ok, Err, Option, None, ◌⊎◌, inl, inr, refl, subst}
use Rattle.std.specs.List.{slice_range}
use Rattle.std.specs.Option.{MatchOption, ok_or}
use Rattle.isa.proofs.Pairs.{ok_pair_parts}
use mathlib.Core.Path.{◌≡◌, sym, ap, ◌∙◌}
use mathlib.Core.Bool.{Bool, true, false, cond}
use mathlib.Core.List.{List, ◌++◌}
use Prim.Native.Nat.{ℕ, ◌-◌, ◌≤◌, ◌<◌}
use native.Mathlib.Omega.{arith}
use borrow.Author.Tests.{le-leb, lt-leb, leb-true, leb-false}
use lib.Dec.{leb}
use lib.IntN.{ℤ, pos}
use lib.ListN.{length, take, drop, length-drop}
use lib.Seq.{sets, take_all, take_at}
use Rattle.isa.specs.Decode.{decode_of}
use Rattle.isa.specs.Refusal.{refusal}
use Rattle.isa.specs.declared.answer.Refusal.{Refusal}
use Rattle.isa.specs.Answer.{Decoded, Encoded}
use Rattle.isa.specs.declared.instruction.Instruction.{Instruction}
use Rattle.isa.proofs.Found.{found-length}
use Rattle.bits.proofs.Laws.{Bytes, bytes_drop}
use Rattle.isa.specs.Parts.{parts_of}
use Rattle.isa.specs.declared.parts.Parts.{Parts}
use Rattle.form.specs.Form.{lay_out, form_of, spelled_of}
use Rattle.form.proofs.Form.{form_length_lem, form_spelled}
use Rattle.form.proofs.Decoded.{decoded_fits}
use Rattle.decodeparts.specs.Parts.{parts_decoded}
use Rattle.bits.proofs.Pieces.{put_first}
use Rattle.answers.specs.Encoded.{count_of}
use Rattle.answers.specs.Returned.{refused_by, decoded_by, encoded_by}
use Rattle.decodeat.specs.DecodeAt.{DecodesInto, form_left, length_decoded, form_length, with_room, decoded_at, DecodesAt}

-- ---- what was decoded, by its parts

pub was_refused : (d : Decoded) (r : Refusal) → Err r ≡ parts_decoded d → d ≡ Err r
was_refused (Ok (i, n)) r e = cc
was_refused (Err q) r e = let z : r ≡ q = cc in ap (λ (x : Refusal). Err x) (sym z)

pub was_found : (d : Decoded) (p : Parts) (n : ℕ) → Ok (p, n) ≡ parts_decoded d → (i : Instruction) × (d ≡ Ok (i, n)) × (p ≡ parts_of i)
was_found (Ok (i, m)) p n e =
    let z = ok_pair_parts p (parts_of i) n m e in
    (i, ap (λ (k : ℕ). Ok (i, k)) (sym z.1), z.0)
was_found (Err r) p n e = cc

-- ---- what was looked for, or refusal 1

pub not_there : {A : Type 0} (r : Option A) (N : Type 0) (Q : A → Type 0) (q : Refusal) → MatchOption r N Q
    → ◌≡◌ {A = Result A Refusal} (Err q) (ok_or r Refusal.BadSize) → N × (q ≡ refusal 1)
not_there (Some x) N Q q m e = cc
not_there None N Q q m e = (m, cc)

pub there : {A : Type 0} (r : Option A) (N : Type 0) (Q : A → Type 0) (x : A) → MatchOption r N Q
    → ◌≡◌ {A = Result A Refusal} (Ok x) (ok_or r Refusal.BadSize) → Q x
there (Some y) N Q x m e = let z : y ≡ x = cc in subst Q z m
there None N Q x m e = cc

pub past : (n o : ℕ) → (n < o) ⊎ (n < n) → n < o
past n o h = elim h [ inl l ↦ l | inr l ↦ absurd (omega arith) ]

-- ---- the ways through

-- the first bytes of what is left are the byte form
pub form_first : (i : Instruction) (instruction : List ℕ) → take form_length (form_of i ++ drop form_length instruction) ≡ form_of i
form_first i instruction = take_at (form_of i) (drop form_length instruction) form_length (form_length_lem i)

module _ (code : List ℕ) (offset : ℕ) (instruction : List ℕ) where
  -- what is decoded is at the offset
  pub decoded-there : (i : Instruction) (n : ℕ) → decoded_at code offset instruction ≡ Ok (i, n) → decode_of (drop offset code) ≡ Ok (i, n)
  unfolding decoded_at
  decoded-there i n e = go (leb offset (length code)) (decode_of (drop offset code)) e
    where
      roomy : (b : Bool) (d : Decoded) → cond b d (Err (refusal 1)) ≡ Ok (i, n) → d ≡ Ok (i, n)
      roomy true d q = q
      roomy false d q = let z : ◌≡◌ {A = ℕ} 0 1 = cc in absurd (omega arith)

      go : (b : Bool) (d : Decoded) → cond b (with_room d (length instruction)) (Err (refusal 1)) ≡ Ok (i, n)
          → d ≡ Ok (i, n)
      go true (Ok (j, m)) q = roomy (leb form_length (length instruction)) (Ok (j, m)) q
      go true (Err r) q = q
      go false d q = let z : ◌≡◌ {A = ℕ} 0 1 = cc in absurd (omega arith)

  -- what is at the offset is decoded, where there is room for its byte form
  pub decoded-whole : (i : Instruction) (n : ℕ) → offset ≤ length code → form_length ≤ length instruction
      → decode_of (drop offset code) ≡ Ok (i, n) → decoded_at code offset instruction ≡ Ok (i, n)
  unfolding decoded_at
  decoded-whole i n h g e = rw (le-leb offset (length code) h, e, le-leb form_length (length instruction) g)

  -- the offset is above the code length
  nothing_there : length code < offset → decoded_at code offset instruction ≡ Err (refusal 1)
  unfolding decoded_at
  nothing_there h = rw (lt-leb offset (length code) h)

  here : offset ≤ length code → decoded_at code offset instruction ≡ with_room (decode_of (drop offset code)) (length instruction)
  unfolding decoded_at
  here h = rw (le-leb offset (length code) h)

  module _ (z : ℤ) where
    as_refusal : (r : Refusal) → decoded_at code offset instruction ≡ Err r → z ≡ refused_by r → DecodesAt code offset instruction z instruction
    as_refusal r d e = record { returns = rw d e; leaves = rw d; spells = λ i n f. cc }

    -- the offset is above the code length
    pub past_the_code : length code < offset → z ≡ refused_by (refusal 1) → DecodesAt code offset instruction z instruction
    past_the_code h = as_refusal (refusal 1) (nothing_there h)

    -- the part of the code that is decoded is all from the offset on
    module _ (h : offset ≤ length code) (d : Decoded) (e : d ≡ decode_of (take (length code - offset) (drop offset code))) where
      there-decoded : decoded_at code offset instruction ≡ with_room d (length instruction)
      there-decoded =
          here h
          ∙ ap (λ (t : List ℕ). with_room (decode_of t) (length instruction)) (sym (take_all (length code - offset) (drop offset code) (omega (arith, length-drop offset code))))
          ∙ ap (λ (x : Decoded). with_room x (length instruction)) (sym e)

      pub refused : (r : Refusal) → d ≡ Err r → z ≡ refused_by r → DecodesAt code offset instruction z instruction
      refused r f = as_refusal r (there-decoded ∙ ap (λ (x : Decoded). with_room x (length instruction)) f)

      -- the buffer is too short for the byte form
      pub no_room : (i : Instruction) (n : ℕ) → d ≡ Ok (i, n) → length instruction < form_length → z ≡ refused_by (refusal 1)
          → DecodesAt code offset instruction z instruction
      no_room i n f g =
          as_refusal (refusal 1)
          (there-decoded ∙ ap (λ (y : Decoded). with_room y (length instruction)) f ∙ rw (lt-leb form_length (length instruction) g))

      pub found : (i : Instruction) (n : ℕ) → d ≡ Ok (i, n) → form_length ≤ length instruction → z ≡ pos n → (form left : List ℕ)
          → (form ≡ form_of i) × (spelled_of form ≡ Some i) → left ≡ sets instruction 0 form → DecodesAt code offset instruction z left
      found i n f g q form left a b =
          let x : decoded_at code offset instruction ≡ Ok (i, n) =
          there-decoded ∙ ap (λ (y : Decoded). with_room y (length instruction)) f ∙ rw (le-leb form_length (length instruction) g) in
          let l : left ≡ form_of i ++ drop form_length instruction =
          b ∙ ap (sets instruction 0) a.0 ∙ put_first instruction (form_of i) form_length (form_length_lem i) g in
          let s : spelled_of (take form_length left) ≡ Some i =
          ap (λ (t : List ℕ). spelled_of (take form_length t)) l ∙ ap spelled_of (form_first i instruction ∙ sym a.0) ∙ a.1 in
          record { returns = rw x q; leaves = rw x l; spells = λ j m p. s ∙ ap Some (ok_pair_parts i j n m (sym x ∙ p)).0 }

  module _ (z : Encoded) where
    as_refused : (r : Refusal) → decoded_at code offset instruction ≡ Err r → z ≡ Err r → DecodesInto code offset instruction z instruction
    as_refused r d e = record { returns = rw d e; leaves = rw d }

    pub refused_past : length code < offset → z ≡ Err (refusal 1) → DecodesInto code offset instruction z instruction
    refused_past h = as_refused (refusal 1) (nothing_there h)

    -- the part of the code that is decoded is all from the offset on
    module _ (h : offset ≤ length code) (s : List ℕ) (part : s ≡ slice_range code offset (length code)) where
      rest : s ≡ drop offset code
      rest = part ∙ take_all (length code - offset) (drop offset code) (omega (arith, length-drop offset code))

      decoded-here : (d : Decoded) → decode_of s ≡ d → decoded_at code offset instruction ≡ with_room d (length instruction)
      decoded-here d e = here h ∙ ap (λ (t : List ℕ). with_room (decode_of t) (length instruction)) (sym rest) ∙ ap (λ (x : Decoded). with_room x (length instruction)) e

      pub refused_into : (r : Refusal) → Err r ≡ parts_decoded (decode_of s) → z ≡ Err r → DecodesInto code offset instruction z instruction
      refused_into r f = as_refused r (decoded-here (Err r) (was_refused (decode_of s) r f))

      module _ (p : Parts) (n : ℕ) (f : Ok (p, n) ≡ parts_decoded (decode_of s)) where
        w : (i : Instruction) × (decode_of s ≡ Ok (i, n)) × (p ≡ parts_of i)
        w = was_found (decode_of s) p n f

        -- the buffer is too short for the byte form
        pub no_room_into : length instruction < form_length → z ≡ Err (refusal 1) → DecodesInto code offset instruction z instruction
        no_room_into g = as_refused (refusal 1) (decoded-here _ w.1 ∙ rw (lt-leb form_length (length instruction) g))

        pub written : form_length ≤ length instruction → z ≡ Ok n → (form left : List ℕ) → form ≡ lay_out p
            → left ≡ form ++ drop form_length instruction → DecodesInto code offset instruction z left
        written g e form left q l =
            let x : decoded_at code offset instruction ≡ Ok (w.0, n) = decoded-here _ w.1 ∙ rw (le-leb form_length (length instruction) g) in
            record {
              returns = rw x e;
              leaves = rw x (l ∙ ap (λ (t : List ℕ). t ++ drop form_length instruction) (q ∙ ap lay_out w.2));
            }

-- ---- the number that is returned

-- a length is at most eight bytes
pub small : (code : List ℕ) (offset : ℕ) (instruction : List ℕ) (r : Encoded) (left : List ℕ) → DecodesInto code offset instruction r left → count_of r ≤ 8
small code offset instruction r left h = subst (λ (x : Encoded). count_of x ≤ 8) (sym h.returns) (go (decoded_at code offset instruction) refl)
  where
    go : (d : Decoded) → decoded_at code offset instruction ≡ d → count_of (length_decoded d) ≤ 8
    go (Ok (i, n)) e = (found-length (drop offset code) i n (decoded-there code offset instruction i n e)).1
    go (Err r) e = omega arith

-- as a number, in each of the four cases
module _ (code : List ℕ) (hs : Bytes code) (offset : ℕ) (instruction : List ℕ) (r : Encoded) (left : List ℕ) (z : ℤ)
    (h : DecodesInto code offset instruction r left) (e : z ≡ encoded_by r) where
  number : (d : Decoded) → decoded_at code offset instruction ≡ d → z ≡ decoded_by d
  number d f = e ∙ ap encoded_by (h.returns ∙ ap length_decoded f) ∙ same d
    where
      same : (x : Decoded) → encoded_by (length_decoded x) ≡ decoded_by x
      same (Ok (i, n)) = refl
      same (Err q) = refl

  left_by : (d : Decoded) → decoded_at code offset instruction ≡ d → left ≡ form_left d instruction
  left_by d f = h.leaves ∙ ap (λ (x : Decoded). form_left x instruction) f

  untouched : (q : Refusal) → decoded_at code offset instruction ≡ Err q → DecodesAt code offset instruction z instruction
      → DecodesAt code offset instruction z left
  untouched q f w = subst (λ (t : List ℕ). DecodesAt code offset instruction z t) (sym (left_by (Err q) f)) w

  pub as_number : DecodesAt code offset instruction z left
  as_number = by_offset (leb offset (length code)) refl
    where
      by_room : (g : offset ≤ length code) (i : Instruction) (n : ℕ) → decode_of (take (length code - offset) (drop offset code)) ≡ Ok (i, n)
          → (b : Bool) → leb form_length (length instruction) ≡ b → DecodesAt code offset instruction z left
      by_room g i n d true b =
          let room = leb-true form_length (length instruction) b in
          let f : decoded_at code offset instruction ≡ Ok (i, n) =
          there-decoded code offset instruction z g _ refl ∙ ap (λ (x : Decoded). with_room x (length instruction)) d ∙ rw b in
          found code offset instruction z g _ refl i n d room (number (Ok (i, n)) f) (form_of i) left
          (refl, form_spelled i (decoded_fits (drop offset code) (bytes_drop offset code hs) i n (decoded-there code offset instruction i n f)))
          (left_by (Ok (i, n)) f ∙ sym (put_first instruction (form_of i) form_length (form_length_lem i) room))
      by_room g i n d false b =
          let f : decoded_at code offset instruction ≡ Err (refusal 1) =
          there-decoded code offset instruction z g _ refl ∙ ap (λ (x : Decoded). with_room x (length instruction)) d ∙ rw b in
          untouched (refusal 1) f
          (no_room code offset instruction z g _ refl i n d (leb-false form_length (length instruction) b) (number (Err (refusal 1)) f))

      by_decoded : (g : offset ≤ length code) (d : Decoded) → decode_of (take (length code - offset) (drop offset code)) ≡ d
          → DecodesAt code offset instruction z left
      by_decoded g (Ok (i, n)) d = by_room g i n d (leb form_length (length instruction)) refl
      by_decoded g (Err q) d =
          let f : decoded_at code offset instruction ≡ Err q =
          there-decoded code offset instruction z g _ refl ∙ ap (λ (x : Decoded). with_room x (length instruction)) d in
          untouched q f (refused code offset instruction z g _ refl q d (number (Err q) f))

      by_offset : (b : Bool) → leb offset (length code) ≡ b → DecodesAt code offset instruction z left
      by_offset true b = by_decoded (leb-true offset (length code) b) (decode_of (take (length code - offset) (drop offset code))) refl
      by_offset false b =
          let g = leb-false offset (length code) b in
          let f = nothing_there code offset instruction g in
          untouched (refusal 1) f (past_the_code code offset instruction z g (number (Err (refusal 1)) f))
