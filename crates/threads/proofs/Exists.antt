-- There are orders: for every number of steps there is one, all threads at step 1, then all at step 2, and so on. With no steps there
-- are no visits.
use mathlib.Core.Path.{◌≡◌, refl, ap, ◌∙◌}
use mathlib.Core.Bool.{Bool, true, false, cond}
use mathlib.Core.List.{List, [], ◌∷◌}
use Prim.Native.Nat.{ℕ, zero, suc, ◌+◌, ◌≤◌, ◌<◌}
use native.Mathlib.Omega.{arith}
use native.Mathlib.Decide.{ℕ_discrete}
use borrow.Author.Tests.{eq-eqb, ne_eqb}
use lib.Dec.{eqb}
use Rattle.machine.specs.Meaning.{both}
use Rattle.threads.specs.Visit.{Visit, All, count, IsVisit, Rising, Order}
use Rattle.threads.proofs.Sorted.{all_map}

abbrev visit : ℕ → ℕ → Visit
visit t k = record { thread = t; step = k }

-- threads t - 1, .. 0 at step k, and then the rest
row : ℕ → ℕ → List Visit → List Visit
row zero k rest = rest
row (suc t) k rest = visit t k ∷ row t k rest

-- all threads at the steps a + 1, .. a + n
pub lockstep : ℕ → ℕ → List Visit
lockstep a zero = []
lockstep a (suc n) = row 32 (suc a) (lockstep (suc a) n)

-- ---- only visits, rising

all_row : (P : Visit → Type 0) (t k : ℕ) (rest : List Visit) → ((u : ℕ) → u < t → P (visit u k)) → All P rest → All P (row t k rest)
unfolding row
all_row P zero k rest h r = r
all_row P (suc t) k rest h r = (h t (omega arith), all_row P t k rest (λ u l. h u (omega arith)) r)

all_lockstep : (P : Visit → Type 0) (a n : ℕ) → ((t k : ℕ) → t < 32 → a < k → k ≤ a + n → P (visit t k)) → All P (lockstep a n)
unfolding lockstep
all_lockstep P a zero h = tt
all_lockstep P a (suc n) h =
    all_row P 32 (suc a) (lockstep (suc a) n) (λ t l. h t (suc a) l (omega arith) (omega arith))
    (all_lockstep P (suc a) n (λ t k l g e. h t k l (omega arith) (omega arith)))

rising_row : (t k : ℕ) (rest : List Visit) → All (λ u. k < u.step) rest → Rising rest → Rising (row t k rest)
unfolding row
rising_row zero k rest h r = r
rising_row (suc t) k rest h r = (
  all_row (λ u. u.thread ≡ t → k < u.step) t k rest (λ u l e. absurd (omega arith)) (all_map (λ u g e. g) rest h),
  rising_row t k rest h r,
)

rising_lockstep : (a n : ℕ) → Rising (lockstep a n)
unfolding lockstep
rising_lockstep a zero = tt
rising_lockstep a (suc n) =
    rising_row 32 (suc a) (lockstep (suc a) n)
    (all_lockstep (λ u. suc a < u.step) (suc a) n (λ t k l g e. g)) (rising_lockstep (suc a) n)

-- ---- every visit once

module _ (v : Visit) where
  other : (b : Bool) → both b false ≡ false
  other true = refl
  other false = refl

  count_later : (t k : ℕ) (rest : List Visit) → (k ≡ v.step → ⊥) → count v (row t k rest) ≡ count v rest
  unfolding row count
  count_later zero k rest n = refl
  count_later (suc t) k rest n = rw (ne_eqb k v.step n, other (eqb t v.thread)) (count_later t k rest n)

  count_above : (t k : ℕ) (rest : List Visit) → t ≤ v.thread → count v (row t k rest) ≡ count v rest
  unfolding row count
  count_above zero k rest h = refl
  count_above (suc t) k rest h = rw (ne_eqb t v.thread (omega arith)) (count_above t k rest (omega arith))

  count_row : (t : ℕ) (rest : List Visit) → v.thread < t → count v (row t v.step rest) ≡ suc (count v rest)
  unfolding row count
  count_row zero rest h = absurd (omega arith)
  count_row (suc t) rest h = go (ℕ_discrete t v.thread) (count_row t rest)
    where
      go : Dec (t ≡ v.thread) → (v.thread < t → count v (row t v.step rest) ≡ suc (count v rest))
          → cond (both (eqb t v.thread) (eqb v.step v.step))
          (suc (count v (row t v.step rest))) (count v (row t v.step rest)) ≡ suc (count v rest)
      go (yes e) ih =
          rw (eq-eqb t v.thread e, eq-eqb v.step v.step refl) (ap suc (count_above t v.step rest (omega arith)))
      go (no e) ih = rw (ne_eqb t v.thread e) (ih (omega arith))

  count_none : (a n : ℕ) → v.step ≤ a → count v (lockstep a n) ≡ 0
  unfolding lockstep count
  count_none a zero h = refl
  count_none a (suc n) h = count_later 32 (suc a) (lockstep (suc a) n) (omega arith) ∙ count_none (suc a) n (omega arith)

  count-once : (a n : ℕ) → v.thread < 32 → a < v.step → v.step ≤ a + n → count v (lockstep a n) ≡ 1
  unfolding lockstep count
  count-once a zero t h l = absurd (omega arith)
  count-once a (suc n) t h l = go (ℕ_discrete (suc a) v.step) (count-once (suc a) n t)
    where
      go : Dec (suc a ≡ v.step) → (suc a < v.step → v.step ≤ suc a + n → count v (lockstep (suc a) n) ≡ 1)
          → count v (row 32 (suc a) (lockstep (suc a) n)) ≡ 1
      go (yes e) ih = rw e (count_row 32 _ t ∙ ap suc (count_none v.step n (omega arith)))
      go (no e) ih = count_later 32 (suc a) (lockstep (suc a) n) e ∙ ih (omega arith) (omega arith)

pub order_exists : (n : ℕ) → Order n (lockstep 0 n)
order_exists n = record {
  only = all_lockstep (IsVisit n) 0 n (λ t k l g e. (l, g, omega arith));
  once = λ v h. count-once v 0 n h.0 h.1 (omega arith);
  rising = rising_lockstep 0 n;
}

pub no_visits : (order : List Visit) → Order 0 order → order ≡ []
no_visits [] o = refl
no_visits (v ∷ vs) o = absurd (omega (arith, o.only.0.1, o.only.0.2))
