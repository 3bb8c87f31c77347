-- What is made or done for each of the 32 threads, or lanes: a list of a value each, a change for each in turn, a mask of a bit each; and
-- whether something holds of any.
use Rattle.std.specs.Prelude.{ℕ, zero, suc, ◌+◌, ◌/◌, ◌%◌, ◌^◌, Bool, true, false, cond, List, [], ◌∷◌, ◌++◌, eqb}

-- f 0, f 1, .. f (n - 1)
unfoldable pub tab {ℓ} : {A : Type ℓ} → ℕ → (ℕ → A) → List A
tab zero f = []
tab (suc n) f = tab n f ++ (f n ∷ [])

-- the change f 0, then f 1, .. then f (n - 1)
unfoldable pub each {ℓ} : {S : Type ℓ} → ℕ → (ℕ → S → S) → S → S
each zero f s = s
each (suc n) f s = f n (each n f s)

-- bit t of a mask is thread t's
unfoldable pub active_in : ℕ → ℕ → Bool
active_in mask t = eqb (mask / 2 ^ t % 2) 1

-- the mask whose bits below n are those of f
unfoldable pub pack : ℕ → (ℕ → Bool) → ℕ
pack zero f = 0
pack (suc n) f = pack n f + cond (f n) (2 ^ n) 0

-- whether f holds of any number below n
unfoldable pub any_below : ℕ → (ℕ → Bool) → Bool
any_below zero f = false
any_below (suc n) f = cond (f n) true (any_below n f)
