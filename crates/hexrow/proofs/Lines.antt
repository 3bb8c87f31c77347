-- The first line of a text, and what stands at the start of the text: pairs of digits and the end of a line are the same in both.
use mathlib.Core.Path.{◌≡◌, refl, sym, ap, ◌∙◌}
use mathlib.Core.Bool.{Bool, true, false, cond, ◌&&◌}
use mathlib.Core.List.{List, [], ◌∷◌}
use Prim.Native.Nat.{ℕ, zero, suc, ◌+◌, ◌*◌, ◌<◌}
use native.Mathlib.Omega.{arith}
use lib.Dec.{eqb, ltb}
use lib.ListN.{length, get_or, drop}
use lib.Seq.{drop-drop}
use borrow.Author.Tests.{ne_eqb, eqb-true, eqb-false, le-ltb, ltb-true}
use Rattle.bits.specs.Lists.{eq_list}
use Rattle.bits.proofs.Table.{and_left, and_right}
use Rattle.hexpairs.specs.Pairs.{digit_value, pair_value, pairs, spelled, is_end}
use Rattle.hexrow.specs.Row.{line_of}
use Rattle.hexpairs.specs.Reads.{end_size}

pub head_line : (s : List ℕ) → get_or (line_of s) 0 0 ≡ get_or s 0 0
unfolding line_of
head_line [] = refl
head_line (c ∷ s) = go (eqb c 10)
  where
    go : (b : Bool) → get_or (cond b (c ∷ []) (c ∷ line_of s)) 0 0 ≡ c
    go true = refl
    go false = refl

pub tail_line : (s : List ℕ) → (get_or s 0 0 ≡ 10 → ⊥) → drop 1 (line_of s) ≡ line_of (drop 1 s)
unfolding line_of
tail_line [] h = refl
tail_line (c ∷ s) h = rw (ne_eqb c 10 h)

second : (s : List ℕ) → get_or s 1 0 ≡ get_or (drop 1 s) 0 0
second [] = refl
second (c ∷ s) = refl

-- ---- a pair

-- a line feed is no digit
module _ (s : List ℕ) (h : pair_value s < 256) where
  no_feed : get_or s 0 0 ≡ 10 → ⊥
  no_feed e = omega (arith, ap digit_value e)

  no_feed_after : get_or (drop 1 s) 0 0 ≡ 10 → ⊥
  no_feed_after e = omega (arith, ap digit_value (second s ∙ e))

pair_line : (s : List ℕ) → (get_or s 0 0 ≡ 10 → ⊥) → pair_value (line_of s) ≡ pair_value s
pair_line s h =
    let e : get_or (line_of s) 1 0 ≡ get_or s 1 0 =
    second (line_of s) ∙ ap (λ (l : List ℕ). get_or l 0 0) (tail_line s h) ∙ head_line (drop 1 s) ∙ sym (second s) in
    rw (head_line s, e)

test_line : (s : List ℕ) → ltb (pair_value (line_of s)) 256 ≡ ltb (pair_value s) 256
test_line s = go (eqb (get_or s 0 0) 10) refl
  where
    go : (b : Bool) → eqb (get_or s 0 0) 10 ≡ b → ltb (pair_value (line_of s)) 256 ≡ ltb (pair_value s) 256
    go true e =
        let f = eqb-true (get_or s 0 0) 10 e in
        let g = ap digit_value f in
        let k = ap digit_value (head_line s ∙ f) in
        le-ltb (pair_value (line_of s)) 256 (omega arith) ∙ sym (le-ltb (pair_value s) 256 (omega arith))
    go false e = ap (λ (x : ℕ). ltb x 256) (pair_line s (eqb-false (get_or s 0 0) 10 e))

two_line : (s : List ℕ) → pair_value s < 256 → drop 2 (line_of s) ≡ line_of (drop 2 s)
two_line s h =
    sym (drop-drop 1 1 (line_of s))
    ∙ ap (drop 1) (tail_line s (no_feed s h))
    ∙ tail_line (drop 1 s) (no_feed_after s h)
    ∙ ap line_of (drop-drop 1 1 s)

-- ---- pairs

pub pairs_line : (n : ℕ) (s : List ℕ) → pairs n (line_of s) ≡ pairs n s
unfolding pairs
pairs_line zero s = refl
pairs_line (suc n) s = go (ltb (pair_value s) 256) refl (pairs_line n (drop 2 s))
  where
    go : (b : Bool) → ltb (pair_value s) 256 ≡ b → pairs n (line_of (drop 2 s)) ≡ pairs n (drop 2 s)
        → (ltb (pair_value (line_of s)) 256 && pairs n (drop 2 (line_of s))) ≡ (ltb (pair_value s) 256 && pairs n (drop 2 s))
    go true e ih = rw (test_line s, e, two_line s (ltb-true (pair_value s) 256 e)) ih
    go false e ih = rw (test_line s, e)

pub first_pair : (n : ℕ) (s : List ℕ) → pairs (suc n) s ≡ true → (pair_value s < 256) × (pairs n (drop 2 s) ≡ true)
unfolding pairs
first_pair n s e = (
  ltb-true (pair_value s) 256 (and_left (ltb (pair_value s) 256) (pairs n (drop 2 s)) e),
  and_right (ltb (pair_value s) 256) (pairs n (drop 2 s)) e,
)

pub spelled_line : (n : ℕ) (s : List ℕ) → pairs n s ≡ true → spelled n (line_of s) ≡ spelled n s
unfolding spelled
spelled_line zero s e = refl
spelled_line (suc n) s e =
    let f = first_pair n s e in
    rw (pair_line s (no_feed s f.0), two_line s f.0) (ap (λ (l : List ℕ). pair_value s ∷ l) (spelled_line n (drop 2 s) f.1))

pub after_line : (n : ℕ) (s : List ℕ) → pairs n s ≡ true → drop (2 * n) (line_of s) ≡ line_of (drop (2 * n) s)
after_line zero s e = refl
after_line (suc n) s e =
    let f = first_pair n s e in
    let g : 2 * suc n ≡ 2 + 2 * n = omega arith in
    rw g
    (sym (drop-drop (2 * n) 2 (line_of s))
    ∙ ap (drop (2 * n)) (two_line s f.0)
    ∙ after_line n (drop 2 s) f.1
    ∙ ap line_of (drop-drop (2 * n) 2 s))

pub same_count : (s : List ℕ) → pair_value s < 256 → pair_value (line_of s) ≡ pair_value s
same_count s h = pair_line s (no_feed s h)

-- ---- the end of a line

feed_line : (s : List ℕ) → eq_list (line_of s) (10 ∷ []) ≡ eqb (get_or s 0 0) 10
unfolding line_of
feed_line [] = refl
feed_line (c ∷ s) = go (eqb c 10) refl
  where
    go : (b : Bool) → eqb c 10 ≡ b → eq_list (cond (eqb c 10) (c ∷ []) (c ∷ line_of s)) (10 ∷ []) ≡ eqb c 10
    go true e = rw e (rw e)
    go false e = rw e (rw e)

-- what a text begins with, and its first line
abbrev pub Ends : List ℕ → List ℕ → Type 0
Ends s line = (is_end line ≡ ltb 0 (end_size s)) × (0 < end_size s → length line ≡ end_size s)

-- a line feed is the second character where it is the first of what follows
short : (s : List ℕ) → eqb (get_or s 0 0) 10 ≡ true → length (line_of s) ≡ 1
unfolding line_of
short [] e = let z : ◌≡◌ {A = ℕ} 0 10 = eqb-true 0 10 e in absurd (omega arith)
short (c ∷ s) e = rw e

pub end_line_lem : (s : List ℕ) → Ends s (line_of s)
unfolding line_of
end_line_lem [] = (refl, λ h. absurd (omega arith))
end_line_lem (c ∷ s) = go (eqb c 10) refl
  where
    returned : (b d : Bool) → eqb c 10 ≡ false → eqb c 13 ≡ b → eqb (get_or s 0 0) 10 ≡ d → Ends (c ∷ s) (c ∷ line_of s)
    returned true true e f g = (rw (e, f, feed_line s, g), λ h. rw (e, f, g) (ap suc (short s g)))
    returned true false e f g = (rw (e, f, feed_line s, g), rw (e, f, g) (λ h. absurd (omega arith)))
    returned false d e f g = (rw (e, f), rw (e, f) (λ h. absurd (omega arith)))

    go : (b : Bool) → eqb c 10 ≡ b → Ends (c ∷ s) (cond b (c ∷ []) (c ∷ line_of s))
    go true e = (rw e, rw e (λ h. refl))
    go false e = returned (eqb c 13) (eqb (get_or s 0 0) 10) e refl refl
