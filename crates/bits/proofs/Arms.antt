-- The last arm of a match on a number: what is none of 0, 1, .., k - 1 is at least k. The facts come as the arms give them,
-- a pair nested to the left.
use mathlib.Core.Path.{◌≡◌}
use Prim.Native.Nat.{ℕ, zero, suc, ◌≤◌, zero-le, ◌<◌}
use native.Mathlib.Omega.{arith}

abbrev pub NoneBelow : ℕ → ℕ → Type 0
NoneBelow zero n = Unit {0}
NoneBelow (suc k) n = NoneBelow k n × (n ≡ k → ⊥)

past : (k n : ℕ) → k ≤ n → (n ≡ k → ⊥) → suc k ≤ n
past k n h p = omega arith

pub at_least : (k n : ℕ) → NoneBelow k n → k ≤ n
at_least zero n p = zero-le
at_least (suc k) n p = past k n (at_least k n p.0) p.1

pub last_arm : (k n : ℕ) → NoneBelow k n → n < suc k → n ≡ k
last_arm k n p h = let l = at_least k n p in omega arith
