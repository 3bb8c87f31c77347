-- The marks of some halves as a part of all.
use mathlib.Core.Path.{◌≡◌, sym, ◌∙◌}
use mathlib.Core.Bool.{cond, not}
use mathlib.Core.List.{List}
use Prim.Native.Nat.{ℕ, ◌+◌, ◌-◌, ◌*◌, ◌/◌, ◌%◌, ◌≤◌, ◌<◌}
use native.Mathlib.Omega.{arith}
use native.Mathlib.Decide.{dec_lt}
use borrow.Author.Tests.{eq-eqb, ne_eqb}
use borrow.Rule.Slice.PartMut.{put_mid}
use lib.Dec.{eqb}
use lib.ListN.{length, get_or, take, drop, length-take, length-drop}
use lib.Seq.{ext_get_or}
use Rattle.std.proofs.Common.{rules}
use Rattle.std.proofs.lemmas.List.{places}
use Rattle.machine.specs.Lanes.{active_in, any_below}
use Rattle.machine.specs.Meaning.{both}
use Rattle.machine.proofs.Masks.{all_active_lem}
use Rattle.machine.proofs.Marks.{length-each, get_or-each, any_below_cong}
use Rattle.markrows.specs.Rows.{all_clear, block_marked, row_set}
use Rattle.markrows.proofs.Setting.{twice_not}

pub part_marked : (l : List ℕ) (h n : ℕ) → 32 * (h + n) ≤ length l
    → not (all_clear (take (32 * (h + n) - 32 * h) (drop (32 * h) l))) ≡ block_marked l h n
part_marked l h n room =
    let part = take (32 * (h + n) - 32 * h) (drop (32 * h) l) in
    let size : length part ≡ 32 * n = simp (length-take, length-drop) (omega arith) in
    sym (twice_not (any_below (length part) (λ i. not (eqb (get_or part i 0) 0))))
    ∙ rw size (any_below_cong (32 * n) (λ i. not (eqb (get_or part i 0) 0)) (λ i. not (eqb (get_or l (32 * h + i) 0) 0)) (λ i k.
    let e : get_or part i 0 ≡ get_or l (32 * h + i) 0 = search (rules, places) in rw e))

module _ (h v : ℕ) (l row : List ℕ) (room : 32 * (h + 1) ≤ length l) (size : length row ≡ 32)
    (all : (i : ℕ) → i < 32 → get_or row i 0 ≡ v) where
  abbrev after : List ℕ
  after = put_mid (32 * h) (32 * (h + 1) - 32 * h) l row

  mark_at : (j : ℕ) → j < length l
      → get_or after j 0 ≡ cond (both (eqb (j / 32) h) (active_in 4294967295 (j % 32))) v (get_or l j 0)
  mark_at j m = go (dec_lt j (32 * h)) (dec_lt j (32 * (h + 1)))
    where
      go : Dec (j < 32 * h) → Dec (j < 32 * (h + 1))
          → get_or after j 0 ≡ cond (both (eqb (j / 32) h) (active_in 4294967295 (j % 32))) v (get_or l j 0)
      go (yes p) _ =
          let e : get_or after j 0 ≡ get_or l j 0 = search (rules, places) in
          rw (ne_eqb (j / 32) h (λ same. omega arith)) e
      go (no p) (yes q) =
          let e : get_or after j 0 ≡ get_or row (j - 32 * h) 0 = search (rules, places) in
          let g : j / 32 ≡ h = omega arith in
          rw (eq-eqb (j / 32) h g, all_active_lem (j % 32) (omega arith)) (e ∙ all (j - 32 * h) (omega arith))
      go (no p) (no q) =
          let e : get_or after j 0 ≡ get_or l j 0 = search (rules, places) in
          rw (ne_eqb (j / 32) h (λ same. omega arith)) e

  pub part_filled : after ≡ row_set h 4294967295 v l
  part_filled =
      let f : ℕ → ℕ → ℕ → ℕ = λ g t byte. cond (both (eqb g h) (active_in 4294967295 t)) v byte in
      let long : length after ≡ length l = search (rules, places) in
      ext_get_or 0 after (row_set h 4294967295 v l) (long ∙ sym (length-each f l)) (λ j m.
      mark_at j (omega (arith, long)) ∙ sym (get_or-each f l j 0 (omega (arith, long))))
