-- A visit's change of the marks: it is of its own thread's alone, goes by the thread's bit of the mask alone, and is what a step makes of
-- that thread's marks.
use mathlib.Core.Path.{◌≡◌, refl, sym, ap, ◌∙◌}
use mathlib.Core.Bool.{Bool, true, false, cond}
use mathlib.Core.List.{List}
use Prim.Native.Nat.{ℕ, ◌+◌, ◌*◌, ◌<◌}
use native.Mathlib.Omega.{arith}
use native.Mathlib.Decide.{dec_lt}
use borrow.Author.Tests.{eq-eqb, ne_eqb, eqb-true}
use lib.Dec.{eqb}
use lib.ListN.{length, get_or, get_or-eq_default}
use Rattle.machine.specs.Lanes.{active_in}
use Rattle.machine.specs.Meaning.{Meaning, writes, masks, jumps}
use Rattle.machine.specs.Marks.{each_mark, clears_of, mark_after, marks_after}
use Rattle.machine.proofs.Marks.{length-each, mark_each, each_cong, length-marks}
use Rattle.threads.specs.Visit.{visit_marks}
use Rattle.threads.proofs.Own.{Same, Own}

-- a mark past the end
beyond : (f : ℕ → ℕ → ℕ → ℕ) (l : List ℕ) (i : ℕ) → (i < length l → ⊥) → get_or (each_mark f l) i 0 ≡ get_or l i 0
beyond f l i n =
    get_or-eq_default (each_mark f l) 0 {n = i} (omega (arith, length-each f l)) ∙ sym (get_or-eq_default l 0 {n = i} (omega arith))

module _ (m : Meaning) (mask t : ℕ) where
  abbrev lane : ℕ → ℕ → ℕ → ℕ
  lane h u byte = cond (eqb u t) (mark_after m mask h u byte) byte

  leaves-other : (u : ℕ) → u < 32 → (t ≡ u → ⊥) → (l : List ℕ) (h : ℕ) → get_or (each_mark lane l) (32 * h + u) 0 ≡ get_or l (32 * h + u) 0
  leaves-other u k n l h = go (dec_lt (32 * h + u) (length l))
    where
      go : Dec (32 * h + u < length l) → get_or (each_mark lane l) (32 * h + u) 0 ≡ get_or l (32 * h + u) 0
      go (yes p) = mark_each lane l h u k p ∙ rw (ne_eqb u t (λ e. n (sym e)))
      go (no p) = beyond lane l (32 * h + u) p

  goes_by_own : t < 32 → (a b : List ℕ) → length a ≡ length b → Same t a b → (h : ℕ)
      → get_or (each_mark lane a) (32 * h + t) 0 ≡ get_or (each_mark lane b) (32 * h + t) 0
  goes_by_own k a b e w h = go (dec_lt (32 * h + t) (length a))
    where
      go : Dec (32 * h + t < length a) → get_or (each_mark lane a) (32 * h + t) 0 ≡ get_or (each_mark lane b) (32 * h + t) 0
      go (yes p) = mark_each lane a h t k p ∙ ap (lane h t) (w h) ∙ sym (mark_each lane b h t k (omega arith))
      go (no p) = beyond lane a (32 * h + t) p ∙ w h ∙ sym (beyond lane b (32 * h + t) (λ q. p (omega arith)))

  pub own-marks : t < 32 → Own t (visit_marks m mask t)
  unfolding visit_marks
  own-marks k = record { keeps = length-each lane; leaves = leaves-other; goes_by = goes_by_own k }

  -- a step, seen from thread t
  pub marks-seen : t < 32 → (l : List ℕ) → Same t (marks_after m mask l) (visit_marks m mask t l)
  unfolding marks_after visit_marks
  marks-seen k l h = go (dec_lt (32 * h + t) (length l))
    where
      go : Dec (32 * h + t < length l) → get_or (each_mark (mark_after m mask) l) (32 * h + t) 0 ≡ get_or (each_mark lane l) (32 * h + t) 0
      go (yes p) = mark_each (mark_after m mask) l h t k p ∙ sym (mark_each lane l h t k p ∙ rw (eq-eqb t t refl))
      go (no p) = beyond (mark_after m mask) l (32 * h + t) p ∙ sym (beyond lane l (32 * h + t) p)

  pub marks-length : (l : List ℕ) → length (marks_after m mask l) ≡ length (visit_marks m mask t l)
  unfolding visit_marks
  marks-length l = length-marks m mask l ∙ sym (length-each lane l)

-- the mask is looked at for the thread's own bit alone
clears_bit : (m : Meaning) (p q t : ℕ) → active_in p t ≡ active_in q t → clears_of m p t ≡ clears_of m q t
unfolding clears_of
clears_bit (writes d a b c result) p q t e = rw e
clears_bit (masks compares a b result) p q t e = refl
clears_bit (jumps any offset) p q t e = refl

pub marks_bit : (m : Meaning) (p q t : ℕ) (l : List ℕ) → active_in p t ≡ active_in q t → visit_marks m p t l ≡ visit_marks m q t l
unfolding visit_marks mark_after
marks_bit m p q t l e =
    each_cong (λ h u x. cond (eqb u t) (mark_after m p h u x) x) (λ h u x. cond (eqb u t) (mark_after m q h u x) x) l (λ h u x k. go h u x (eqb u t) refl)
  where
    go : (h u x : ℕ) (b : Bool) → eqb u t ≡ b → cond b (mark_after m p h u x) x ≡ cond b (mark_after m q h u x) x
    go h u x true y = rw (eqb-true u t y, clears_bit m p q t e)
    go h u x false y = refl
