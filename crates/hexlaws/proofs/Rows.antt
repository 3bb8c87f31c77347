-- A row by the statements, and a row by the definition of reading: they are the same, and a row is a line of its text.
use mathlib.Core.Path.{◌≡◌, refl, sym, ap, ◌∙◌}
use mathlib.Core.Bool.{Bool, true, false, cond, ◌&&◌, ◌||◌}
use mathlib.Core.List.{List, [], ◌∷◌, ◌++◌, append_assoc}
use mathlib.Core.Logic.{◌⊎◌, inl, inr}
use Prim.Native.Nat.{ℕ, zero, suc, ◌+◌, ◌*◌, ◌<◌}
use native.Mathlib.Omega.{arith}
use lib.Dec.{eqb}
use lib.ListN.{length, get_or, take, drop, take-append-drop, length-append}
use lib.Seq.{drop-append_seam}
use borrow.Author.Tests.{eqb-true, ne_eqb}
use Rattle.bits.specs.Lists.{eq_list}
use Rattle.bits.proofs.Lists.{eq_list-is}
use Rattle.bits.proofs.Table.{and_left, and_right}
use Rattle.hexpairs.specs.Pairs.{pair_value, pairs, spelled, is_end}
use Rattle.hexrow.specs.Row.{count_in, bytes_in, formed, line_of}
use Rattle.hexrow.proofs.Rows.{length-spelled}
use Rattle.hexfile.specs.Read.{lines_of}
use Rattle.hexfile.proofs.Lines.{lines_first}
use Rattle.hexlaws.specs.Form.{Spells, none, pair, LineEnd, feed, returned, IsRow}
use Rattle.hexlaws.proofs.Spelling.{no_feed, spells-pairs, pairs_spell}

-- ---- the end of a line

is-end : {s : List ℕ} → LineEnd s → is_end s ≡ true
is-end feed = refl
is-end returned = refl

or_true : (a b : Bool) → (a || b) ≡ true → (a ≡ true) ⊎ (b ≡ true)
or_true true b e = inl refl
or_true false b e = inr e

end_is : (s : List ℕ) → is_end s ≡ true → LineEnd s
end_is s e = go (or_true (eq_list s (10 ∷ [])) (eq_list s (13 ∷ 10 ∷ [])) e)
  where
    go : (eq_list s (10 ∷ []) ≡ true) ⊎ (eq_list s (13 ∷ 10 ∷ []) ≡ true) → LineEnd s
    go (inl f) = rw (eq_list-is s (10 ∷ []) f) feed
    go (inr f) = rw (eq_list-is s (13 ∷ 10 ∷ []) f) returned

-- ---- a row of the definition

first_spelled : (k : ℕ) (t : List ℕ) → 0 < k → get_or (spelled k t) 0 0 ≡ pair_value t
unfolding spelled
first_spelled zero t h = absurd (omega arith)
first_spelled (suc k) t h = refl

module _ (line bytes : List ℕ) (r : IsRow line bytes) where
  same_count : count_in line ≡ get_or bytes 0 0
  same_count =
      let p = spells-pairs r.spells r.end in
      let c = r.count in
      ap count_in r.whole
      ∙ sym (first_spelled (length bytes) (r.digits ++ r.end) (omega arith))
      ∙ ap (λ (l : List ℕ). get_or l 0 0) p.1

  as_counted : count_in line + 5 ≡ length bytes
  as_counted = omega (arith, same_count, r.count)

  rest-is_end : drop (2 * count_in line + 11) line ≡ r.end
  rest-is_end =
      let p = (spells-pairs r.spells r.end).2 in
      let e : 2 * count_in line + 11 ≡ suc (length r.digits) = omega (arith, as_counted) in
      ap (λ (k : ℕ). drop k line) e
      ∙ ap (drop (suc (length r.digits))) r.whole
      ∙ drop-append_seam r.digits r.end

  pub row_formed : formed line ≡ true
  unfolding formed
  row_formed =
      let p = spells-pairs r.spells r.end in
      let h : get_or line 0 0 ≡ 58 = ap (λ (l : List ℕ). get_or l 0 0) r.whole in
      let q : pairs (count_in line + 5) (drop 1 line) ≡ true = rw (as_counted, ap (drop 1) r.whole) p.0 in
      rw (h, q, rest-is_end) (is-end r.ended)

  pub row_bytes : bytes_in line ≡ bytes
  row_bytes = rw (as_counted, ap (drop 1) r.whole) (spells-pairs r.spells r.end).1

pub formed_row : (line : List ℕ) → formed line ≡ true → IsRow line (bytes_in line)
unfolding formed
formed_row [] e = let z : ◌≡◌ {A = ℕ} 0 1 = cc in absurd (omega arith)
formed_row (c ∷ t) e =
    let n = pair_value t in
    let p = pairs (n + 5) t in
    let z = is_end (drop (2 * n + 11) (c ∷ t)) in
    let f = and_right (eqb c 58) (p && z) e in
    let colon = eqb-true c 58 (and_left (eqb c 58) (p && z) e) in
    let k : 2 * n + 11 ≡ suc (2 * (n + 5)) = omega arith in
    let g : is_end (drop (2 * (n + 5)) t) ≡ true = rw k at (and_right p z f) in
    record {
      digits = take (2 * (n + 5)) t;
      end = drop (2 * (n + 5)) t;
      whole = rw (colon, take-append-drop (2 * (n + 5)) t);
      spells = pairs_spell (n + 5) t (and_left p z f);
      ended = end_is (drop (2 * (n + 5)) t) g;
      count = length-spelled (n + 5) t ∙ sym (ap (λ (x : ℕ). x + 5) (first_spelled (n + 5) t (omega arith)));
    }

-- ---- a row in a text

spells_line : {s b : List ℕ} → Spells s b → (r : List ℕ) → line_of (s ++ r) ≡ s ++ line_of r
unfolding line_of
spells_line none r = refl
spells_line (pair {c = c} {d = d} {s = s} x y z) r =
    rw (ne_eqb c 10 (no_feed x), ne_eqb d 10 (no_feed y)) (ap (λ (l : List ℕ). c ∷ d ∷ l) (spells_line z r))

end_line_lem : {s : List ℕ} → LineEnd s → (r : List ℕ) → line_of (s ++ r) ≡ s
unfolding line_of
end_line_lem feed r = refl
end_line_lem returned r = refl

module _ (line bytes rest : List ℕ) (r : IsRow line bytes) where
  pub row_line : line_of (line ++ rest) ≡ line
  unfolding line_of
  row_line =
      ap (λ (l : List ℕ). line_of (l ++ rest)) r.whole
      ∙ ap (λ (l : List ℕ). 58 ∷ line_of l) (append_assoc r.digits r.end rest)
      ∙ ap (λ (l : List ℕ). 58 ∷ l) (spells_line r.spells (r.end ++ rest) ∙ ap (λ (l : List ℕ). r.digits ++ l) (end_line_lem r.ended rest))
      ∙ sym r.whole

  pub row_lines : lines_of (line ++ rest) ≡ line ∷ lines_of rest
  row_lines =
      let h : 0 < length (line ++ rest) = omega (arith, ap length r.whole, length-append line rest) in
      lines_first (line ++ rest) h ∙ rw row_line (ap (λ (l : List ℕ). line ∷ lines_of l) (drop-append_seam line rest))

-- a text is its first line and what follows it
pub line_splits : (s : List ℕ) → line_of s ++ drop (length (line_of s)) s ≡ s
unfolding line_of
line_splits [] = refl
line_splits (c ∷ s) = go (eqb c 10) (line_splits s)
  where
    go : (b : Bool) → line_of s ++ drop (length (line_of s)) s ≡ s
        → cond b (c ∷ []) (c ∷ line_of s) ++ drop (length (cond b (c ∷ []) (c ∷ line_of s))) (c ∷ s) ≡ c ∷ s
    go true h = refl
    go false h = ap (λ (l : List ℕ). c ∷ l) h
