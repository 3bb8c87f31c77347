-- One bit of a mask, above those that are there.
use mathlib.Core.Bool.{Bool, true, false, cond}
use Prim.Native.Nat.{ℕ, ◌+◌, ◌^◌, ◌<◌}
use native.Mathlib.Omega.{arith}
use lib.Pow.{pow-add}

pub bit_below : (mask t : ℕ) (on : Bool) → mask < 2 ^ t → mask + cond on (2 ^ t) 0 < 2 ^ (t + 1)
bit_below mask t true h = omega (arith, pow-add 2 t 1)
bit_below mask t false h = omega (arith, pow-add 2 t 1)
