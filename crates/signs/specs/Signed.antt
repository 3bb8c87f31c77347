-- A word of 64 bits, read as a signed number.
use Rattle.std.specs.Prelude.{ℕ, ◌-◌, ◌^◌, cond, ℤ, pos, negsuc, nat_lt}

-- the complement of x is what negsuc holds
unfoldable pub signed_of : ℕ → ℤ
signed_of x = cond (nat_lt x (2 ^ 63)) (pos x) (negsuc (2 ^ 64 - 1 - x))
