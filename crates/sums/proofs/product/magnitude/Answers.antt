-- By the sign.
use Rattle.std.proofs.Common.{nat_abs, sym, ap, ◌∙◌, arith}
use Rattle.sums.proofs.Caps.{signed_low, signed_high}
use Rattle.sums.proofs.product.magnitude.Goals as goal

pub returns-then-x-lt9223372036854775808 : goal.returns-then-x-lt9223372036854775808
returns-then-x-lt9223372036854775808 c = sym (ap nat_abs (signed_low c.args.x (omega arith)))

pub returns-else-x-lt9223372036854775808 : goal.returns-else-x-lt9223372036854775808
returns-else-x-lt9223372036854775808 c = sym (ap nat_abs (signed_high c.args.x (omega arith)) ∙ omega arith)
