-- By the sign and the distance from 0.
use Rattle.std.proofs.Common.{sym, ◌∙◌, arith}
use Rattle.sums.proofs.Caps.{limit_low, limit_high}
use Rattle.sums.proofs.limits.between.Goals as goal

pub returns-then-x-lt9223372036854775808 : goal.returns-then-x-lt9223372036854775808
returns-then-x-lt9223372036854775808 c =
    let a = c.args in
    let e = c.min.ensures in
    sym (limit_low a.below a.high a.x (omega arith) ∙ omega arith)

pub returns-then-x-below : goal.returns-then-x-below
returns-then-x-below c =
    let a = c.args in
    sym (limit_high a.below a.high a.x (omega arith) (omega arith) ∙ omega arith)

pub returns-else-x-below : goal.returns-else-x-below
returns-else-x-below c =
    let a = c.args in
    sym (limit_high a.below a.high a.x (omega arith) (omega arith) ∙ omega arith)
