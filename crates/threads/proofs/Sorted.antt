-- The step numbers of one thread in an order are 1, 2, .. n.
use mathlib.Core.Path.{◌≡◌, refl, sym, ap, ap₂, ◌∙◌, subst}
use mathlib.Core.Bool.{Bool, true, false, cond}
use mathlib.Core.List.{List, [], ◌∷◌}
use Prim.Native.Nat.{ℕ, zero, suc, ◌+◌, ◌≤◌, ◌<◌}
use native.Mathlib.Omega.{arith}
use borrow.Author.Tests.{eqb-true, eqb-false, ne_eqb}
use lib.Dec.{eqb}
use lib.Arith.{lt_of_le-ne}
use Rattle.machine.specs.Meaning.{both}
use Rattle.threads.specs.Visit.{Visit, All, IsVisit, Rising, count, Order}

-- thread t's step numbers
unfoldable pub mine : ℕ → List Visit → List ℕ
mine t [] = []
mine t (v ∷ vs) = cond (eqb v.thread t) (v.step ∷ mine t vs) (mine t vs)

-- a + 1, .. a + n
unfoldable pub from : ℕ → ℕ → List ℕ
from a zero = []
from a (suc n) = suc a ∷ from (suc a) n

-- rising, and above a
abbrev Up : ℕ → List ℕ → Type 0
Up a [] = Unit {0}
Up a (k ∷ ks) = (a < k) × Up k ks

abbrev Below : ℕ → List ℕ → Type 0
Below n [] = Unit {0}
Below n (k ∷ ks) = (k ≤ n) × Below n ks

-- how often k stands in a list
times : ℕ → List ℕ → ℕ
times k [] = 0
times k (x ∷ xs) = cond (eqb x k) (suc (times k xs)) (times k xs)

pub all_map : {P Q : Visit → Type 0} → ((v : Visit) → P v → Q v) → (vs : List Visit) → All P vs → All Q vs
all_map f [] p = tt
all_map f (v ∷ vs) p = (f v p.0, all_map f vs p.1)

-- ---- what an order says of one thread's numbers

up_mine : (t a : ℕ) (vs : List Visit) → All (λ u. u.thread ≡ t → a < u.step) vs → Rising vs → Up a (mine t vs)
unfolding mine
up_mine t a [] p r = tt
up_mine t a (v ∷ vs) p r = go (eqb v.thread t) refl (up_mine t a vs p.1 r.1) (λ h. up_mine t v.step vs h r.1)
  where
    go : (b : Bool) → eqb v.thread t ≡ b → Up a (mine t vs)
        → (All (λ u. u.thread ≡ t → v.step < u.step) vs → Up v.step (mine t vs))
        → Up a (cond b (v.step ∷ mine t vs) (mine t vs))
    go true e i j =
        let q : v.thread ≡ t = eqb-true _ _ e in
        (p.0 q, j (all_map (λ u f h. f (h ∙ sym q)) vs r.0))
    go false e i j = i

below_mine : (t n : ℕ) (vs : List Visit) → All (IsVisit n) vs → Below n (mine t vs)
unfolding mine
below_mine t n [] p = tt
below_mine t n (v ∷ vs) p = go (eqb v.thread t) (below_mine t n vs p.1)
  where
    go : (b : Bool) → Below n (mine t vs) → Below n (cond b (v.step ∷ mine t vs) (mine t vs))
    go true i = (p.0.2, i)
    go false i = i

times-mine : (v : Visit) (us : List Visit) → count v us ≡ times v.step (mine v.thread us)
unfolding mine times count
times-mine v [] = refl
times-mine v (u ∷ us) = go (eqb u.thread v.thread) (eqb u.step v.step) refl (times-mine v us)
  where
    go : (a b : Bool) → eqb u.step v.step ≡ b → count v us ≡ times v.step (mine v.thread us)
        → cond (both a b) (suc (count v us)) (count v us)
        ≡ times v.step (cond a (u.step ∷ mine v.thread us) (mine v.thread us))
    go true true e i = rw e (ap suc i)
    go true false e i = rw e i
    go false b e i = i

-- ---- rising numbers up to a + n, each once

-- a number that is not above a does not stand in a list that rises above a
times_none : (k a : ℕ) (l : List ℕ) → k ≤ a → Up a l → times k l ≡ 0
unfolding times
times_none k a [] h u = refl
times_none k a (x ∷ xs) h u = rw (ne_eqb x k (omega arith)) (times_none k x xs (omega arith) u.1)

is-from : (n a : ℕ) (l : List ℕ) → Up a l → Below (a + n) l → ((k : ℕ) → a < k → k ≤ a + n → times k l ≡ 1) → l ≡ from a n
unfolding from times
is-from zero a [] u b c = refl
is-from zero a (x ∷ xs) u b c = absurd (omega arith)
is-from (suc n) a [] u b c = absurd (omega (arith, c (suc a) (omega arith) (omega arith)))
is-from (suc n) a (x ∷ xs) u b c = go (eqb x (suc a)) refl (is-from n (suc a) xs)
  where
    go : (t : Bool) → eqb x (suc a) ≡ t
        → (Up (suc a) xs → Below (suc a + n) xs → ((k : ℕ) → suc a < k → k ≤ suc a + n → times k xs ≡ 1) → xs ≡ from (suc a) n)
        → x ∷ xs ≡ suc a ∷ from (suc a) n
    go true e i =
        let q : x ≡ suc a = eqb-true _ _ e in
        let w : a + suc n ≡ suc a + n = omega arith in
        ap₂ ◌∷◌ q
        (i (rw q at u.1) (subst (λ (y : ℕ). Below y xs) w b.1) (λ k h g. rw (ne_eqb x k (omega arith)) at (c k (omega arith) (omega arith))))
    go false e i =
        let h : suc a < x = lt_of_le-ne u.0 (λ q. eqb-false _ _ e (sym q)) in
        absurd (omega (arith, times_none (suc a) (suc a) (x ∷ xs) (omega arith) (h, u.1), c (suc a) (omega arith) (omega arith)))

pub mine-order : (n : ℕ) (vs : List Visit) → Order n vs → (t : ℕ) → t < 32 → mine t vs ≡ from 0 n
mine-order n vs o t h =
    let z : 0 + n ≡ n = omega arith in
    is-from n 0 (mine t vs)
    (up_mine t 0 vs (all_map (λ u p q. p.1) vs o.only) o.rising)
    (rw z (below_mine t n vs o.only))
    (λ k a b. sym (times-mine (record { thread = t; step = k }) vs) ∙ o.once (record { thread = t; step = k }) (h, a, omega arith))
