-- Numbers with a sign: one that is handed on, and minus a small number, as the code computes it.
use mathlib.Core.Path.{◌≡◌, ap, ◌∙◌}
use Prim.Native.Nat.{ℕ, zero, suc, ◌^◌, ◌<◌}
use native.Mathlib.Omega.{arith}
use lib.IntN.{ℤ, pos, neg_ℤ, ◌-ℤ◌, +ℤ_idl}
use lib.Signed.{mag}
use mir.Syntax.{w32}
use mir.Val.{SFits, hbits, to_z, of_z}
use mir.Facts.{to_z_pos, to_z-of_z}

-- what a call returned, returned
pub handed_on : (z : ℤ) → mag z < 2 ^ hbits w32 → to_z w32 (of_z w32 z) ≡ z
handed_on z h = to_z-of_z {w = w32} (record { sfits = h })

small : (n : ℕ) → n < 256 → SFits w32 (neg_ℤ (pos n))
small zero h = record { sfits = omega arith }
small (suc n) h = record { sfits = omega arith }

module _ (n : ℕ) (h : n < 256) where
  minus : pos 0 -ℤ to_z w32 n ≡ neg_ℤ (pos n)
  minus = ap (λ (z : ℤ). pos 0 -ℤ z) (to_z_pos w32 {n = n} (omega arith)) ∙ +ℤ_idl (neg_ℤ (pos n))

  pub minus_fits : SFits w32 (pos 0 -ℤ to_z w32 n)
  minus_fits = rw minus (small n h)

  pub minus_is : to_z w32 (of_z w32 (pos 0 -ℤ to_z w32 n)) ≡ neg_ℤ (pos n)
  minus_is = to_z-of_z minus_fits ∙ minus
