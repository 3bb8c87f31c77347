-- What is left of a listing from an address on: the line that stands there, and what is left from the next address.
use Rattle.std.proofs.Common.{Ok, Err}
use mathlib.Core.Path.{◌≡◌, refl, sym, ap, ◌∙◌}
use mathlib.Core.Bool.{Bool, true, false, cond}
use mathlib.Core.List.{List, ◌++◌}
use Prim.Native.Nat.{ℕ, ◌+◌, ◌*◌, ◌-◌, ◌≤◌, ◌<◌}
use native.Mathlib.Omega.{arith}
use lib.Dec.{leb}
use lib.ListN.{length, take, drop, length-append, length-take, length-drop, drop_of_length-le}
use borrow.Author.Tests.{le-leb, leb-true}
use Rattle.isa.proofs.Found.{found-length}
use Rattle.isa.specs.Decode.{decode_of}
use Rattle.isa.specs.Refusal.{refusal}
use Rattle.isa.specs.declared.answer.Refusal.{Refusal}
use Rattle.isa.specs.Answer.{Decoded}
use Rattle.isa.specs.declared.instruction.Instruction.{Instruction}
use Rattle.walk.specs.Walk.{Walk, refused, walk_from, walk_of, stands_at, limit}
use Rattle.walk.proofs.Steps.{step_by, walk_all, step-at}
use Rattle.isa.specs.Parts.{place_of}
use Rattle.lines.specs.Line.{line_of, end_line, refused_line, tail_at}
use Rattle.listing.specs.Listing.{text_of, listing_of}
use Rattle.lines.proofs.Lengths.{length_line}

walk_at : List ℕ → ℕ → Walk
walk_at code at = cond (leb (length code) limit) (walk_all at (drop at code)) (refused at (refusal 1))

pub left : List ℕ → ℕ → List ℕ
left code at = text_of (walk_at code at)

pub left_all : (code : List ℕ) → left code 0 ≡ listing_of code
unfolding left walk_at walk_of listing_of
left_all code = refl

-- where an instruction is found, the code is short enough to be listed
listed : (t : Bool) (d : Decoded) (r : Refusal) (i : Instruction) (n : ℕ) → cond t d (Err r) ≡ Ok (i, n)
    → (t ≡ true) × (d ≡ Ok (i, n))
listed true d r i n e = (refl, e)
listed false d r i n e = let z : ◌≡◌ {A = ℕ} 0 1 = cc in absurd (omega arith)

found_within : (code : List ℕ) (at : ℕ) (i : Instruction) (k : ℕ) → at < length code → stands_at code at ≡ Ok (i, k)
    → (4 ≤ k) × (k ≤ 8) × (at + k ≤ length code) × (length code ≤ limit)
found_within code at i k h e =
    let t = listed (leb (length code) limit) (decode_of (drop at code)) (refusal 1) i k e in
    let l : length code ≤ limit = leb-true (length code) limit t.0 in
    let f = found-length (drop at code) i k t.1 in
    let d = length-drop at code in
    omega arith

walk_at_lem : (code : List ℕ) (at : ℕ) → at < length code
    → walk_at code at ≡ step_by (stands_at code at) (λ a t. walk_at code a) at (drop at code)
unfolding walk_at
walk_at_lem code at h = one (leb (length code) limit)
  where
    one : (t : Bool)
        → cond t (walk_all at (drop at code)) (refused at (refusal 1))
        ≡ step_by (cond t (decode_of (drop at code)) (Err (refusal 1)))
        (λ a s. cond t (walk_all a (drop a code)) (refused a (refusal 1))) at (drop at code)
    one true = step-at code at h
    one false = refl

left_at : (code : List ℕ) (at : ℕ) (d : Decoded) → at < length code → stands_at code at ≡ d
    → left code at ≡ text_of (step_by d (λ a t. walk_at code a) at (drop at code))
unfolding left
left_at code at d h e = ap text_of (walk_at_lem code at h ∙ ap (λ (x : Decoded). step_by x (λ a t. walk_at code a) at (drop at code)) e)

left_line : (code : List ℕ) (at : ℕ) (i : Instruction) (k : ℕ) → at < length code → stands_at code at ≡ Ok (i, k)
    → left code at ≡ line_of at (take k (drop at code)) i ++ left code (at + k)
unfolding left text_of
left_line code at i k h e = left_at code at (Ok (i, k)) h e

-- what a turn of the two loops goes by
pub record Step (code : List ℕ) (at : ℕ) (i : Instruction) (k : ℕ) : Type 0 where
  pub within : (4 ≤ k) × (k ≤ 8) × (at + k ≤ length code) × (length code ≤ limit)
  pub bytes : length (take (at + k - at) (drop at code)) ≡ k
  pub text : left code at ≡ line_of at (take (at + k - at) (drop at code)) i ++ left code (at + k)
  pub size : length (left code at) ≡ 5 + 2 * k + length (tail_at (place_of i)) + length (left code (at + k))

pub step : (code : List ℕ) (at : ℕ) (i : Instruction) (k : ℕ) (d : Decoded) → at < length code → d ≡ stands_at code at
    → d ≡ Ok (i, k) → Step code at i k
step code at i k d h e f =
    let g : stands_at code at ≡ Ok (i, k) = sym e ∙ f in
    let w = found_within code at i k h g in
    let z : at + k - at ≡ k = omega arith in
    let t : length (take k (drop at code)) ≡ k = rw length-take (rw length-drop (omega arith)) in
    let l = length_line at (take k (drop at code)) (place_of i) in
    record {
      within = w;
      bytes = rw z t;
      text = rw z (left_line code at i k h g);
      size =
          ap length (left_line code at i k h g)
          ∙ length-append (line_of at (take k (drop at code)) i) (left code (at + k))
          ∙ omega arith;
    }

pub left_refused : (code : List ℕ) (at : ℕ) (r : Refusal) (d : Decoded) → at < length code → d ≡ stands_at code at
    → d ≡ Err r → left code at ≡ refused_line at r
unfolding text_of
left_refused code at r d h e f = left_at code at (Err r) h (sym e ∙ f)

pub left_end : (code : List ℕ) (at : ℕ) → length code ≤ at → at ≤ limit → left code at ≡ end_line at
unfolding left walk_at walk_from text_of
left_end code at h g =
    let l : length code ≤ limit = omega arith in
    let t = le-leb (length code) limit l in
    rw (t, drop_of_length-le code {i = at} h)
