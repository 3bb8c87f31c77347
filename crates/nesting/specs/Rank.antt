-- Where a value stands among the words of 64 bits, so that their order without sign is the order of the values: one with a sign is
-- 2^63 further up.
use Rattle.std.specs.Prelude.{ℕ, ◌+◌, ◌%◌, ◌^◌, cond, ℤ}
use Rattle.machine.specs.Integer.{modulo, sign_extend}
use Rattle.machine.specs.Meaning.{is_set}

abbrev pub raised : ℤ → ℕ
raised z = (modulo z 64 + 2 ^ 63) % 2 ^ 64

unfoldable pub rank_of : ℕ → ℕ → ℕ → ℕ
rank_of signed size x = cond (is_set signed) (raised (sign_extend x size)) x
