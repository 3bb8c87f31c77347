use Rattle.std.proofs.Common.{ℕ, ◌-◌, ◌^◌, ap, ◌∙◌}
use Rattle.signs.proofs.Shifts.{down_clear, down_set}
use Rattle.signs.proofs.shift_signed.Goals as goal

pub returns-then-x-lt9223372036854775808 : goal.returns-then-x-lt9223372036854775808
returns-then-x-lt9223372036854775808 c = c.shift.ensures ∙ down_clear c.args.x c.args.k c.if-x-lt9223372036854775808.true

pub returns-else-x-lt9223372036854775808 : goal.returns-else-x-lt9223372036854775808
returns-else-x-lt9223372036854775808 c =
    ap (λ (q : ℕ). 2 ^ 64 - 1 - q) c.shift-else-x-lt9223372036854775808.ensures
    ∙ down_set c.args.x c.args.k c.if-x-lt9223372036854775808.false
