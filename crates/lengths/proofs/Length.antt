-- The length of an encoding, by the row of its kind; and its bounds: computed over the rows.
use mathlib.Core.Path.{◌≡◌}
use mathlib.Core.Bool.{Bool, true, false, cond, ◌&&◌}
use Prim.Native.Nat.{ℕ, ◌-◌, ◌≤◌, ◌<◌}
use native.Mathlib.Omega.{arith}
use lib.Dec.{T, eqb, leb, leb→le}
use lib.ListN.{get_or-eq_default}
use Rattle.bits.proofs.Table.{left, right, all, all-at}
use Rattle.isa.specs.Diagram.{Diagram, field_mask}
use Rattle.isa.specs.Rows.{rows}
use Rattle.isa.specs.Find.{absent}
use Rattle.isa.specs.Decode.{no_diagram, row_at}
use Rattle.isa.specs.Parts.{place_of, parts_of, length_for}
use Rattle.isa.specs.declared.instruction.Instruction.{Instruction}
use Rattle.isa.proofs.Placed.{length-rows, place_below}
use Rattle.isa.proofs.RowBytes.{bytes-of_row, two_absent}
use Rattle.isa.specs.declared.parts.Parts.{Parts}

-- ---- four to eight bytes

-- of a diagram, by whether L is 0
abbrev length_as : Bool → Diagram → ℕ
length_as b r = cond (eqb (field_mask r.fields "L") 0) r.bytes (cond b (r.bytes - absent r.bytes) r.bytes)

abbrev four_to_eight : Bool → Diagram → Bool
four_to_eight b r = leb 4 (length_as b r) && leb (length_as b r) 8

all-rows : (b : Bool) → T (all (four_to_eight b) rows)
unfolding rows
all-rows true = tt
all-rows false = tt

within : (n : ℕ) → T (leb 4 n && leb n 8) → (4 ≤ n) × (n ≤ 8)
within n t = (leb→le 4 n (left (leb 4 n) (leb n 8) t), leb→le n 8 (right (leb 4 n) (leb n 8) t))

row : (b : Bool) (k : ℕ) → k < 22 → (4 ≤ length_as b (row_at k)) × (length_as b (row_at k) ≤ 8)
row b k h = within (length_as b (row_at k)) (all-at (four_to_eight b) rows no_diagram (all-rows b) k (rw length-rows h))

pub length_for_lem : (i : Instruction) → (4 ≤ length_for (parts_of i)) × (length_for (parts_of i) ≤ 8)
unfolding length_for
length_for_lem i = row (eqb (parts_of i).l 0) (place_of i) (place_below i)

-- ---- by the row of the kind

-- from the bytes n of the row, and its bit L
module _ (p : Parts) (place n : ℕ) (k : place ≡ p.kind - 1) (h : place < 22) (en : n ≡ (row_at place).bytes) where
  pub more_than_one : 1 < n
  more_than_one = let b = bytes-of_row place h in rw en (omega arith)

  abbrev by_row : ℕ → ℕ
  by_row l = cond (eqb l 0) n (cond (eqb p.l 0) (n - 2) n)

  pub by_row_lem : (l : ℕ) → l ≡ field_mask (row_at place).fields "L" → (by_row l ≡ length_for p) × (by_row l < 9)
  unfolding length_for
  by_row_lem l el =
      let t = two_absent (row_at place).bytes (bytes-of_row place h).1 in
      let q : by_row l ≡ length_for p = rw (en, el, ← k, t) in
      let b = row (eqb p.l 0) place h in
      (q, rw (en, el, ← t) (omega arith))

-- no diagram has a kind above 22
pub length_past : (p : Parts) → 22 < p.kind → 0 ≡ length_for p
unfolding length_for rows
length_past p h = rw (get_or-eq_default rows no_diagram {n = p.kind - 1} (omega arith))
