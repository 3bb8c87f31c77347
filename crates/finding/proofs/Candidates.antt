-- Rows that the lowest seven bits rule out do not agree, so the loop can begin after them and stop before them.
use Rattle.std.proofs.Common.{Err}
use mathlib.Core.Path.{◌≡◌, refl, sym, ap, ap₂, ◌∙◌, subst}
use mathlib.Core.Bool.{Bool, true, false, cond}
use mathlib.Core.List.{List, [], ◌∷◌}
use Prim.Native.Nat.{ℕ, zero, suc, ◌*◌, ◌-◌, ◌%◌, ◌^◌, ◌≤◌, zero-le, suc-le-suc, ◌<◌}
use native.Mathlib.Nat.{zero-add, mod-lt, mod-eq_of_lt, le_of_suc-le-suc, not-suc-le-zero}
use native.Mathlib.Omega.{arith}
use lib.Bits.{bit_and, and_comm, and_mod, and_mask}
use lib.Dec.{eqb}
use lib.ListN.{drop, get_or, length, length-map}
use borrow.Author.Tests.{eqb-true, eqb-false, ne_eqb}
use Rattle.bits.specs.Word.{ones}
use Rattle.bits.proofs.Masks.{and_within}
use Rattle.bits.proofs.Table.{agree}
use Rattle.isa.specs.Rows.{rows}
use Rattle.isa.specs.Refusal.{refusal}
use Rattle.isa.proofs.Placed.{length-rows}
use Rattle.isa.proofs.RowBytes.{bytes-of_row}
use Rattle.rows.specs.Table.{row_of, table, no_row}
use Rattle.rows.proofs.At.{of-diagram}
use Rattle.rows.specs.declared.Row.{Row}
use Rattle.finding.specs.First.{agrees, length_by, first_of}
use Rattle.finding.specs.Candidates.{low_agrees, first_in, end_in}
use Rattle.finding.proofs.Steps.{skip, ends}

pub length-table : length table ≡ 22
unfolding table
length-table = length-map rows row_of ∙ length-rows

-- ---- the first and the last that agree

first_within : (low : ℕ) (rs : List Row) → first_in low rs ≤ length rs
first_within low [] = zero-le
first_within low (r ∷ rs) = go (low_agrees low r) (first_within low rs)
  where
    go : (a : Bool) → first_in low rs ≤ length rs → cond a 0 (suc (first_in low rs)) ≤ suc (length rs)
    go true h = zero-le
    go false h = suc-le-suc h

before_first : (low : ℕ) (rs : List Row) (j : ℕ) → j < first_in low rs → low_agrees low (get_or rs j no_row) ≡ false
before_first low [] j h = absurd (not-suc-le-zero h)
before_first low (r ∷ rs) j h = go (low_agrees low r) refl j (λ k l. before_first low rs k l) h
  where
    go : (a : Bool) → low_agrees low r ≡ a → (j : ℕ) → ((k : ℕ) → k < first_in low rs → low_agrees low (get_or rs k no_row) ≡ false)
        → j < cond a 0 (suc (first_in low rs)) → low_agrees low (get_or (r ∷ rs) j no_row) ≡ false
    go true e j ih h = absurd (not-suc-le-zero h)
    go false e zero ih h = e
    go false e (suc j) ih h = ih j (le_of_suc-le-suc h)

end-within : (low : ℕ) (rs : List Row) → end_in low rs ≤ length rs
end-within low [] = zero-le
end-within low (r ∷ rs) = go (eqb (end_in low rs) 0) (low_agrees low r) (end-within low rs)
  where
    go : (z a : Bool) → end_in low rs ≤ length rs → cond z (cond a 1 0) (suc (end_in low rs)) ≤ suc (length rs)
    go true true h = suc-le-suc zero-le
    go true false h = zero-le
    go false a h = suc-le-suc h

after-end : (low : ℕ) (rs : List Row) (j : ℕ) → end_in low rs ≤ j → j < length rs → low_agrees low (get_or rs j no_row) ≡ false
after-end low [] j h l = absurd (not-suc-le-zero l)
after-end low (r ∷ rs) j h l = go (eqb (end_in low rs) 0) (low_agrees low r) refl refl j (λ k g q. after-end low rs k g q) h l
  where
    go : (z a : Bool) → eqb (end_in low rs) 0 ≡ z → low_agrees low r ≡ a → (j : ℕ)
        → ((k : ℕ) → end_in low rs ≤ k → k < length rs → low_agrees low (get_or rs k no_row) ≡ false)
        → cond z (cond a 1 0) (suc (end_in low rs)) ≤ j → j < suc (length rs) → low_agrees low (get_or (r ∷ rs) j no_row) ≡ false
    go true true ez ea zero ih h l = absurd (not-suc-le-zero h)
    go true false ez ea zero ih h l = ea
    go true a ez ea (suc j) ih h l = ih j (let z : end_in low rs ≡ 0 = eqb-true _ _ ez in omega arith) (le_of_suc-le-suc l)
    go false a ez ea zero ih h l = absurd (not-suc-le-zero h)
    go false a ez ea (suc j) ih h l = ih j (le_of_suc-le-suc h) (le_of_suc-le-suc l)

-- ---- the lowest seven bits, where a byte or more is lent

low_ones : (n : ℕ) → 0 < n → n < 9 → ones n % 2 ^ 7 ≡ 127
low_ones zero h l = absurd (not-suc-le-zero h)
low_ones (suc n) h l = agree 8 (λ k. ones (suc k) % 2 ^ 7) (λ k. 127) refl n (le_of_suc-le-suc l)

module _ (w n : ℕ) (some : 0 < n) (few : n < 9) where
  low_misses : (r : Row) → low_agrees (w % 128) r ≡ false → agrees r w n ≡ false
  low_misses r h =
      ne_eqb _ _ λ q.
      eqb-false (bit_and (w % 128) r.fixed) (bit_and r.value 127) h
      (and_comm (w % 128) r.fixed
      ∙ sym (and_within r.fixed (w % 128) 7 (mod-lt w (suc-le-suc zero-le)))
      ∙ and_comm (r.fixed % 2 ^ 7) (w % 128)
      ∙ sym (and_mod w r.fixed 7)
      ∙ ap (λ (x : ℕ). x % 2 ^ 7) q
      ∙ and_mod r.value (ones n) 7
      ∙ ap (λ (x : ℕ). bit_and (r.value % 2 ^ 7) x) (low_ones n some few)
      ∙ and_mask (r.value % 2 ^ 7) 7
      ∙ mod-eq_of_lt (mod-lt r.value (suc-le-suc zero-le))
      ∙ sym (and_mask r.value 7))

  pub from_first : first_of (drop (first_in (w % 128) table) table) (first_in (w % 128) table) false w n ≡ first_of table 0 false w n
  from_first =
      sym
      (skip table w n false 0 (first_in (w % 128) table) (first_in (w % 128) table) (zero-add _) (first_within (w % 128) table)
      (λ j l h. low_misses (get_or table j no_row) (before_first (w % 128) table j h)))

  pub past_end : (i : ℕ) (more : Bool) → end_in (w % 128) table ≤ i → i ≤ 22
      → first_of (drop i table) i more w n ≡ cond more (Err (refusal 2)) (Err (refusal 3))
  past_end i more h l =
      skip table w n more i (22 - i) 22 (omega arith) (rw length-table (omega arith))
      (λ j g k. low_misses (get_or table j no_row) (after-end (w % 128) table j (omega arith) (rw length-table k)))
      ∙ ends table 22 w n more (rw length-table (omega arith))

pub first_below : (low : ℕ) → first_in low table ≤ 22
first_below low = let h = first_within low table in let e = length-table in omega (arith, h, e)

pub end_below : (low : ℕ) → end_in low table ≤ 22
end_below low = let h = end-within low table in let e = length-table in omega (arith, h, e)

-- where nothing is lent every row agrees, and is longer
none_of_none : first_of table 0 false 0 0 ≡ Err (refusal 2)
unfolding rows table
none_of_none = refl

pub none_lent : (w n : ℕ) → n ≡ 0 → w < 2 ^ (8 * n) → first_of table 0 false w n ≡ Err (refusal 2)
none_lent w n e h =
    let z : w ≡ 0 = (let g : w < 2 ^ (8 * 0) = subst (λ (x : ℕ). w < 2 ^ (8 * x)) e h in omega arith) in
    ap₂ (λ (x y : ℕ). first_of table 0 false x y) z e ∙ none_of_none

-- ---- lengths

pub bytes-within : (i : ℕ) → i < 22 → (1 < (get_or table i no_row).bytes) × ((get_or table i no_row).bytes < 9)
bytes-within i h = let b = bytes-of_row i h in rw (of-diagram i) (omega arith, omega arith)

pub length-within : (r : Row) (w : ℕ) → r.bytes < 9 → length_by r w < 9
length-within r w h = go (eqb (bit_and w r.bit_l) r.bit_l)
  where
    go : (b : Bool) → cond b r.bytes (r.bytes - 2) < 9
    go true = h
    go false = omega arith
