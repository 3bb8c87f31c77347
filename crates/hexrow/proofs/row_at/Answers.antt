-- No row, a row with characters that are no digits, one with a wrong sum, and one whose numbers decide.
use Rattle.std.specs.Prelude.{Result, Ok, Err, Option, Some, None}
use Rattle.std.specs.Option.{ok_or}
use Rattle.std.proofs.lemmas.Result.{err_from_is_err_and}
use mathlib.Core.Path.{◌≡◌, refl, sym, ap, ◌∙◌}
use mathlib.Core.Bool.{Bool, true, false}
use mathlib.Core.List.{List, [], ◌∷◌}
use mathlib.Core.Logic.{◌⊎◌, inl, inr}
use Prim.Native.Nat.{ℕ, ◌+◌, ◌*◌, ◌%◌, ◌≤◌, ◌<◌}
use native.Mathlib.Omega.{arith}
use lib.Dec.{ltb}
use lib.ListN.{length, drop, length-drop}
use lib.Seq.{drop-drop}
use borrow.Author.Tests.{ne_eqb, ltb-true, ltb-false}
use Rattle.hexpairs.specs.Pairs.{pair_value, pairs, spelled, total}
use Rattle.hexrow.specs.Row.{placed}
use Rattle.hexpairs.specs.Reads.{end_size, sum_by, counted as counted_by}
use Rattle.hexpairs.proofs.Places.{byte-some, byte-none}
use Rattle.hexrow.proofs.Told.{never, pairs_front}
use Rattle.hexrow.specs.Reads.{size_by, says_by, told, row_at}
use Rattle.hexrow.specs.declared.Fault.{Fault}
use Rattle.hexrow.proofs.Rows.{count, body, At, Sized, sized, at-sized, no_row, at_row, told-placed, size_of, end-within}
use Rattle.hexrow.proofs.row_at.Goals as goal

-- where the characters are digits the sum is below 256
Told : ℕ → ℕ → List ℕ → Type 0
Told n r s = ((r ≡ 256) × (pairs n s ≡ false)) ⊎ ((r < 256) × (pairs n s ≡ true) × (total (spelled n s) % 256 ≡ r))

sum_told : (n r : ℕ) (s : List ℕ) → r ≡ sum_by n s → Told n r s
unfolding Told
sum_told n r s e = go (pairs n s) refl
  where
    go : (b : Bool) → pairs n s ≡ b → Told n r s
    go true f = let g : r ≡ total (spelled n s) % 256 = e ∙ rw f in inr (omega arith, f, sym g)
    go false f = inl (e ∙ rw f, f)

-- the size, the count and the sum that were found from the place `at` on
module _ (at next size n sum : ℕ) (text : List ℕ) (e : size ≡ size_by (drop at text)) (f : n ≡ pair_value (drop (at + 1) text))
    (g : sum ≡ sum_by (n + 5) (drop (at + 1) text)) where
  counted : n ≡ count (drop at text)
  counted = f ∙ ap pair_value (sym (drop-drop 1 at text))

  same-pairs : pairs (n + 5) (drop (at + 1) text) ≡ pairs (count (drop at text) + 5) (drop 1 (drop at text))
  same-pairs = rw (drop-drop 1 at text, f)

  no-digits : sum ≡ 256 → Err Fault.Form ≡ row_at next (drop at text)
  unfolding Told
  no-digits z = go (sum_told (n + 5) sum (drop (at + 1) text) g)
    where
      go : Told (n + 5) sum (drop (at + 1) text) → Err Fault.Form ≡ row_at next (drop at text)
      go (inl p) =
          no_row next (drop at text) (λ r. let w = sym r.digits ∙ sym same-pairs ∙ p.1 in let z : ◌≡◌ {A = ℕ} 0 1 = cc in omega arith)
      go (inr p) = let h = p.0 in absurd (omega arith)

  module _ (h : size ≡ 0 → ⊥) where
    whole : Sized (drop at text)
    whole = sized (drop at text) (λ z. h (e ∙ z))

    within : at + (2 * n + 11) < length text
    within =
        let w = end-within (body (drop at text)) (drop at text) whole.end in
        let c = counted in
        omega (arith, length-drop at text)

    module _ (d : sum ≡ 256 → ⊥) where
      row : At (drop at text) × (total (spelled (count (drop at text) + 5) (drop 1 (drop at text))) % 256 ≡ sum)
      unfolding Told
      row = go (sum_told (n + 5) sum (drop (at + 1) text) g)
        where
          go : Told (n + 5) sum (drop (at + 1) text)
              → At (drop at text) × (total (spelled (count (drop at text) + 5) (drop 1 (drop at text))) % 256 ≡ sum)
          go (inl p) = absurd (d p.0)
          go (inr p) = (
            record { colon = whole.colon; digits = sym same-pairs ∙ p.1; end = whole.end },
            rw (drop-drop 1 at text, ← f) p.2,
          )

      wrong-sum : (sum ≡ 0 → ⊥) → Err Fault.Sum ≡ row_at next (drop at text)
      wrong-sum z =
          let b = spelled (count (drop at text) + 5) (drop 1 (drop at text)) in
          let q = ne_eqb (total b % 256) 0 (λ k. z (sym row.1 ∙ k)) in
          rw (at_row (drop at text) row.0 next, q)

      first_four : pairs 4 (drop (at + 1) text) ≡ true
      first_four =
          let k : count (drop at text) + 5 ≡ 4 + (count (drop at text) + 1) = omega arith in
          rw (← (drop-drop 1 at text)) (pairs_front 4 (count (drop at text) + 1) (drop 1 (drop at text)) (rw k at row.0.digits))

      right_sum : sum ≡ 0
          → says_by (pair_value (drop 6 (drop (at + 1) text))) (256 * pair_value (drop 2 (drop (at + 1) text)) + pair_value (drop 4 (drop (at + 1) text))) n next size
          ≡ row_at next (drop at text)
      right_sum z =
          let s = drop at text in
          let q : total (spelled (count s + 5) (drop 1 s)) % 256 ≡ 0 = row.1 ∙ z in
          let t = drop 1 s in
          let k : size ≡ body s + end_size (drop (body s) s) = e ∙ sym (size_of s whole) in
          let u : row_at next s ≡ told (placed next (spelled (count s + 5) t)) (body s + end_size (drop (body s) s)) =
          at_row s row.0 next ∙ rw q in
          let v = told-placed next (body s + end_size (drop (body s) s)) (count s) t refl in
          let w : says_by (pair_value (drop 6 t)) (256 * pair_value (drop 2 t) + pair_value (drop 4 t)) (count s) next
          (body s + end_size (drop (body s) s))
          ≡ says_by (pair_value (drop 6 (drop (at + 1) text))) (256 * pair_value (drop 2 (drop (at + 1) text)) + pair_value (drop 4 (drop (at + 1) text))) n next size =
          rw (← (drop-drop 1 at text), counted, k) in
          sym (u ∙ v ∙ w)

-- ---- what the functions answered

counted-some : (n k : ℕ) (r : Option ℕ) → r ≡ counted_by n → r ≡ Some k → (0 < n) × (n ≡ k)
counted-some n k r e f = go (ltb 0 n) refl
  where
    go : (t : Bool) → ltb 0 n ≡ t → (0 < n) × (n ≡ k)
    go true g = let h : r ≡ Some n = e ∙ rw g in (ltb-true 0 n g, (cc))
    go false g = let h : r ≡ None = e ∙ rw g in never (cc)

counted-none : (n : ℕ) (r : Option ℕ) → r ≡ counted_by n → r ≡ None → n ≡ 0
counted-none n r e f = go (ltb 0 n) refl
  where
    go : (t : Bool) → ltb 0 n ≡ t → n ≡ 0
    go true g = let h : r ≡ Some n = e ∙ rw g in never (cc)
    go false g = let h = ltb-false 0 n g in omega arith

sum_most : (n : ℕ) (s : List ℕ) → 256 ≤ sum_by n s → sum_by n s ≡ 256
unfolding Told
sum_most n s h = go (sum_told n (sum_by n s) s refl)
  where
    go : Told n (sum_by n s) s → sum_by n s ≡ 256
    go (inl p) = p.0
    go (inr p) = let q = p.0 in absurd (omega arith)

seen : (o : Option ℕ) (n : ℕ) → ◌≡◌ {A = Result ℕ Fault} (Ok n) (ok_or o Fault.Form) → o ≡ Some n
seen (Some m) n e = cc
seen None n e = cc

unseen : (o : Option ℕ) (f : Fault) → ◌≡◌ {A = Result ℕ Fault} (Err f) (ok_or o Fault.Form) → (o ≡ None) × (f ≡ Fault.Form)
unseen (Some m) f e = cc
unseen None f e = (refl, (cc))

head_at : (t : List ℕ) → spelled 4 t ≡ pair_value t ∷ pair_value (drop 2 t) ∷ pair_value (drop 4 t) ∷ pair_value (drop 6 t) ∷ []
unfolding spelled
head_at t = rw (drop-drop 2 2 t, drop-drop 2 4 t)

pub returns-in_err-size : goal.returns-in_err-size
returns-in_err-size c =
    let p = err_from_is_err_and c.from_residual.result c.from_residual.ensures.1 in
    let u = unseen _ _ c.in_err-size.ensures.value in
    let s = drop c.args.at c.args.text.now in
    rw (p.1, p.2, u.1) (no_row c.args.next s (λ r. at-sized s r (counted-none (size_by s) c.size_at.result c.size_at.ensures u.0)))

pub pair_at-requires : goal.pair_at-requires
pair_at-requires c =
    let a = c.args in
    let z = counted-some (size_by (drop a.at a.text.now)) c.in_ok-size.size c.size_at.result c.size_at.ensures (seen _ _ c.in_ok-size.ensures.value) in
    let h = within a.at a.next c.in_ok-size.size (pair_value (drop (a.at + 1) a.text.now)) _ a.text.now (sym z.1) refl refl (λ y. omega (arith, z.0, z.1)) in
    omega (arith, h)

pub returns-in_err-count : goal.returns-in_err-count
returns-in_err-count c =
    let p = err_from_is_err_and c.from_residual-in_err-count.result c.from_residual-in_err-count.ensures.1 in
    let u = unseen c.pair_at.result c.in_err-count.field-0.0 c.in_err-count.ensures.value in
    let a = c.args in
    let v = pair_value (drop (a.at + 1) a.text.now) in
    let z = counted-some (size_by (drop a.at a.text.now)) c.in_ok-size.size c.size_at.result c.size_at.ensures (seen _ _ c.in_ok-size.ensures.value) in
    let k = whole a.at a.next c.in_ok-size.size v _ a.text.now (sym z.1) refl refl (λ y. omega (arith, z.0, z.1)) in
    let n = counted a.at a.next c.in_ok-size.size v _ a.text.now (sym z.1) refl refl in
    rw (p.1, p.2, u.1) (absurd (omega (arith, k.few, n, byte-none v c.pair_at.result c.pair_at.ensures u.0)))

pub sum-requires : goal.sum-requires
sum-requires c =
    let a = c.args in
    let z = counted-some (size_by (drop a.at a.text.now)) c.in_ok-size.size c.size_at.result c.size_at.ensures (seen _ _ c.in_ok-size.ensures.value) in
    let n = byte-some (pair_value (drop (a.at + 1) a.text.now)) c.in_ok-count.count c.pair_at.result c.pair_at.ensures (seen _ _ c.in_ok-count.ensures.value) in
    let h = within a.at a.next c.in_ok-size.size c.in_ok-count.count _ a.text.now (sym z.1) (sym n.1) refl (λ y. omega (arith, z.0, z.1)) in
    omega (arith, h)

pub returns-in_err-sum : goal.returns-in_err-sum
returns-in_err-sum c =
    let p = err_from_is_err_and c.from_residual-in_err-sum.result c.from_residual-in_err-sum.ensures.1 in
    let u = unseen _ _ c.in_err-sum.ensures.value in
    let a = c.args in
    let z = counted-some (size_by (drop a.at a.text.now)) c.in_ok-size.size c.size_at.result c.size_at.ensures (seen _ _ c.in_ok-size.ensures.value) in
    let n = byte-some (pair_value (drop (a.at + 1) a.text.now)) c.in_ok-count.count c.pair_at.result c.pair_at.ensures (seen _ _ c.in_ok-count.ensures.value) in
    let t = drop (a.at + 1) a.text.now in
    let m = sum_most (c.in_ok-count.count + 5) t (byte-none (sum_by (c.in_ok-count.count + 5) t) c.sum.result c.sum.ensures u.0) in
    rw (p.1, p.2, u.1) (no-digits a.at a.next c.in_ok-size.size c.in_ok-count.count (sum_by (c.in_ok-count.count + 5) t) a.text.now (sym z.1) (sym n.1) refl m)

pub returns-then-sum-ne0 : goal.returns-then-sum-ne0
returns-then-sum-ne0 c =
    let a = c.args in
    let z = counted-some (size_by (drop a.at a.text.now)) c.in_ok-size.size c.size_at.result c.size_at.ensures (seen _ _ c.in_ok-size.ensures.value) in
    let n = byte-some (pair_value (drop (a.at + 1) a.text.now)) c.in_ok-count.count c.pair_at.result c.pair_at.ensures (seen _ _ c.in_ok-count.ensures.value) in
    let m = byte-some (sum_by (c.in_ok-count.count + 5) (drop (a.at + 1) a.text.now)) c.in_ok-sum.sum c.sum.result c.sum.ensures (seen _ _ c.in_ok-sum.ensures.value) in
    wrong-sum a.at a.next c.in_ok-size.size c.in_ok-count.count c.in_ok-sum.sum a.text.now (sym z.1) (sym n.1) (sym m.1)
    (λ y. omega (arith, z.0, z.1)) (λ y. omega (arith, m.0, m.1)) c.if-sum-ne0.true

pub put-requires : goal.put-requires
put-requires c =
    let a = c.args in
    let z = counted-some (size_by (drop a.at a.text.now)) c.in_ok-size.size c.size_at.result c.size_at.ensures (seen _ _ c.in_ok-size.ensures.value) in
    let n = byte-some (pair_value (drop (a.at + 1) a.text.now)) c.in_ok-count.count c.pair_at.result c.pair_at.ensures (seen _ _ c.in_ok-count.ensures.value) in
    let m = byte-some (sum_by (c.in_ok-count.count + 5) (drop (a.at + 1) a.text.now)) c.in_ok-sum.sum c.sum.result c.sum.ensures (seen _ _ c.in_ok-sum.ensures.value) in
    let h = within a.at a.next c.in_ok-size.size c.in_ok-count.count _ a.text.now (sym z.1) (sym n.1) refl (λ y. omega (arith, z.0, z.1)) in (
      omega arith,
      omega (arith, h),
      first_four a.at a.next c.in_ok-size.size c.in_ok-count.count c.in_ok-sum.sum a.text.now (sym z.1) (sym n.1) (sym m.1)
          (λ y. omega (arith, z.0, z.1)) (λ y. omega (arith, m.0, m.1)),
    )

pub returns : goal.returns
returns c =
    let a = c.args in
    let z = counted-some (size_by (drop a.at a.text.now)) c.in_ok-size.size c.size_at.result c.size_at.ensures (seen _ _ c.in_ok-size.ensures.value) in
    let n = byte-some (pair_value (drop (a.at + 1) a.text.now)) c.in_ok-count.count c.pair_at.result c.pair_at.ensures (seen _ _ c.in_ok-count.ensures.value) in
    let m = byte-some (sum_by (c.in_ok-count.count + 5) (drop (a.at + 1) a.text.now)) c.in_ok-sum.sum c.sum.result c.sum.ensures (seen _ _ c.in_ok-sum.ensures.value) in
    c.says.ensures
    ∙ rw (c.put.ensures, head_at (drop (a.at + 1) a.text.now))
    (right_sum a.at a.next c.in_ok-size.size c.in_ok-count.count c.in_ok-sum.sum a.text.now (sym z.1) (sym n.1) (sym m.1)
    (λ y. omega (arith, z.0, z.1)) (λ y. omega (arith, m.0, m.1)) c.if-sum-ne0.false)
