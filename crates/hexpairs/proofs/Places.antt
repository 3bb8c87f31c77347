-- A loop that goes over pairs of digits one by one.
use Rattle.std.specs.Prelude.{Option, Some, None}
use mathlib.Core.Path.{◌≡◌, refl, ap, ◌∙◌}
use mathlib.Core.Bool.{Bool, true, false, ◌&&◌}
use mathlib.Core.List.{List, ◌∷◌}
use Prim.Native.Nat.{ℕ, suc, ◌+◌, ◌*◌, ◌-◌, ◌≤◌, ◌<◌}
use native.Mathlib.Nat.{add-zero}
use native.Mathlib.Omega.{arith}
use lib.Dec.{ltb}
use lib.ListN.{get_or, drop}
use lib.Seq.{drop-drop, get_or-drop}
use borrow.Author.Tests.{ltb-true, ltb-false}
use Rattle.hexpairs.specs.Pairs.{pair_value, pairs, spelled}
use Rattle.hexpairs.specs.Reads.{byte_in}

pub head_drop : (at : ℕ) (s : List ℕ) → get_or (drop at s) 0 0 ≡ get_or s at 0
head_drop at s = get_or-drop at s 0 0 ∙ ap (λ (k : ℕ). get_or s k 0) (add-zero at)

-- one pair of those that are left after i of n
module _ (at n i : ℕ) (s : List ℕ) (h : i < n) where
  one_less : n - i ≡ suc (n - (i + 1))
  one_less = omega arith

  two_on : drop 2 (drop (at + 2 * i) s) ≡ drop (at + 2 * (i + 1)) s
  two_on =
      let e : at + 2 * i + 2 ≡ at + 2 * (i + 1) = omega arith in
      drop-drop 2 (at + 2 * i) s ∙ ap (λ (k : ℕ). drop k s) e

  pub pairs-more : pairs (n - i) (drop (at + 2 * i) s)
      ≡ (ltb (pair_value (drop (at + 2 * i) s)) 256 && pairs (n - (i + 1)) (drop (at + 2 * (i + 1)) s))
  unfolding pairs
  pairs-more = rw (one_less, ← two_on)

  pub spelled-more : spelled (n - i) (drop (at + 2 * i) s)
      ≡ pair_value (drop (at + 2 * i) s) ∷ spelled (n - (i + 1)) (drop (at + 2 * (i + 1)) s)
  unfolding spelled
  spelled-more = rw (one_less, ← two_on)

-- ---- a byte that a function answers

pub byte-some : (n b : ℕ) (r : Option ℕ) → r ≡ byte_in n → r ≡ Some b → (n < 256) × (n ≡ b)
byte-some n b r e f = go (ltb n 256) refl
  where
    go : (t : Bool) → ltb n 256 ≡ t → (n < 256) × (n ≡ b)
    go true g = let h : r ≡ Some n = e ∙ rw g in (ltb-true n 256 g, (cc))
    go false g = let h : r ≡ None = e ∙ rw g in let z : ◌≡◌ {A = ℕ} 0 1 = cc in absurd (omega arith)

pub byte-none : (n : ℕ) (r : Option ℕ) → r ≡ byte_in n → r ≡ None → 256 ≤ n
byte-none n r e f = go (ltb n 256) refl
  where
    go : (t : Bool) → ltb n 256 ≡ t → 256 ≤ n
    go true g = let h : r ≡ Some n = e ∙ rw g in let z : ◌≡◌ {A = ℕ} 0 1 = cc in absurd (omega arith)
    go false g = ltb-false n 256 g
