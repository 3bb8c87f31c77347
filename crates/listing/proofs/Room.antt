-- A text of 65,536 bytes has room for every listing.
use Rattle.std.proofs.Common.{Result, Ok, IsOk}
use mathlib.Core.Path.{◌≡◌, refl, ap}
use mathlib.Core.Bool.{Bool, true, false, cond}
use mathlib.Core.List.{List, [], ◌∷◌, ◌++◌}
use Prim.Native.Nat.{ℕ, zero, suc, ◌+◌, ◌*◌, ◌≤◌, ◌<◌}
use native.Mathlib.Omega.{arith}
use lib.Dec.{leb}
use lib.ListN.{length, take, drop, length-append, length-take, length-drop}
use lib.Seq.{take-append_seam}
use borrow.Author.Tests.{leb-true, le-leb}
use Rattle.isa.proofs.Found.{found-length}
use Rattle.isa.specs.Decode.{decode_of}
use Rattle.isa.specs.Parts.{place_of}
use Rattle.isa.specs.Refusal.{refusal}
use Rattle.isa.specs.declared.answer.Refusal.{Refusal}
use Rattle.isa.specs.declared.instruction.Instruction.{Instruction}
use Rattle.walk.specs.Walk.{Walk, refused, stepped, walk_from, walk_of, limit}
use Rattle.walk.proofs.Steps.{step-all}
use Rattle.lines.specs.Line.{line_of, tail_at, end_line, refused_line}
use Rattle.listing.specs.Listing.{text_of, listing_of, listed_of, listing_left}
use Rattle.lines.proofs.Lengths.{length_line}
use Rattle.isa.specs.Rows.{rows}
use Rattle.bits.proofs.Table.{agree}
use Rattle.isa.proofs.Placed.{place_below}

-- no heading word is longer than 15 characters with its space and its line feed
tail_short : (p : ℕ) → p < 22 → length (tail_at p) ≤ 15
unfolding rows
tail_short p h = leb-true (length (tail_at p)) 15 (agree 22 (λ k. leb (length (tail_at k)) 15) (λ k. true) refl p h)

-- an instruction of n bytes, at least four, takes at most 7 * n
room-step : (at n : ℕ) (s : List ℕ) (i : Instruction) (w : Walk) → 4 ≤ n → n ≤ length s
    → length (text_of w) ≤ 7 * length (drop n s) + 15
    → length (text_of (stepped at (take n s) i w)) ≤ 7 * length s + 15
unfolding text_of
room-step at n s i w h g r =
    let p = place_below i in
    let a = length-append (line_of at (take n s) i) (text_of w) in
    let b = length_line at (take n s) (place_of i) in
    let t : length (take n s) ≡ n = rw length-take (omega arith) in
    let e = tail_short (place_of i) p in
    let d = length-drop n s in
    omega arith

room-from : (k at : ℕ) (s : List ℕ) → length (text_of (walk_from k at s)) ≤ 7 * length s + 15
unfolding walk_from text_of end_line refused_line
room-from zero at s = omega arith
room-from (suc k) at [] = omega arith
room-from (suc k) at (b ∷ s) =
    step-all (λ w. length (text_of w) ≤ 7 * length (b ∷ s) + 15) (decode_of (b ∷ s)) (walk_from k) at (b ∷ s)
    (λ i n e.
    let f = found-length (b ∷ s) i n e in
    room-step at n (b ∷ s) i (walk_from k (at + n) (drop n (b ∷ s))) f.0 f.2 (room-from k (at + n) (drop n (b ∷ s))))
    (λ r. omega arith)

pub room : (code : List ℕ) → length (listing_of code) ≤ 65536
unfolding listing_of walk_of text_of refused_line
room code = one (leb (length code) limit) refl
  where
    one : (t : Bool) → leb (length code) limit ≡ t
        → length (text_of (cond t (walk_from (length code) 0 code) (refused 0 (refusal 1)))) ≤ 65536
    one true e =
        let h = leb-true (length code) limit e in
        let g = room-from (length code) 0 code in
        omega arith
    one false e = omega arith

-- the call on a text of 65,536 bytes: it is not refused, and leaves the listing at the start
module _ (code old new : List ℕ) (r : Result ℕ Refusal) (h : 65536 ≡ length old) (e : r ≡ listed_of code (length old))
    (f : new ≡ listing_left code old) where
  fits : leb (length (listing_of code)) (length old) ≡ true
  fits = le-leb (length (listing_of code)) (length old) (omega (arith, room code))

  accepted : r ≡ Ok (length (listing_of code))
  accepted = rw fits at e

  pub not-refused : IsOk r
  not-refused = rw accepted refl

  pub whole : (n : ℕ) → r ≡ Ok n → (n ≤ length new) × (take n new ≡ listing_of code)
  whole n g =
      let w = accepted in
      let v : new ≡ listing_of code ++ drop (length (listing_of code)) old = rw fits at f in
      let l : n ≡ length (listing_of code) = cc in
      let a = length-append (listing_of code) (drop (length (listing_of code)) old) in
      (omega (arith, ap length v), rw (l, v) (take-append_seam (listing_of code) (drop (length (listing_of code)) old)))
