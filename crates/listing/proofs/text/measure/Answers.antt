use mathlib.Core.Path.{ap}
use native.Mathlib.Omega.{arith}
use lib.ListN.{length}
use Rattle.lines.specs.Line.{end_line, refused_line}
use Rattle.listing.proofs.Left.{left_all, step, left_refused, left_end}
use Rattle.listing.proofs.text.measure.Goals as goal

pub loop-at-init : goal.loop-at-init
loop-at-init c =
    (omega arith, omega arith, omega arith, omega (arith, ap length (left_all c.args.code.now)))

pub line_length-n-requires : goal.line_length-n-requires
line_length-n-requires c =
    omega (arith, step _ _ _ _ _ c.loop-at-test.true c.decoded_at.ensures c.in-Ok.is)

pub overflow_add-n : goal.overflow_add-n
overflow_add-n c =
    omega (arith, step _ _ _ _ _ c.loop-at-test.true c.decoded_at.ensures c.in-Ok.is)

pub overflow_add-at : goal.overflow_add-at
overflow_add-at c =
    omega (arith, step _ _ _ _ _ c.loop-at-test.true c.decoded_at.ensures c.in-Ok.is)

pub loop-at-smaller : goal.loop-at-smaller
loop-at-smaller c =
    omega (arith, step _ _ _ _ _ c.loop-at-test.true c.decoded_at.ensures c.in-Ok.is)

pub loop-at-preserved : goal.loop-at-preserved
loop-at-preserved c =
    omega (arith, step _ _ _ _ _ c.loop-at-test.true c.decoded_at.ensures c.in-Ok.is)

pub returns-in-Err : goal.returns-in-Err
unfolding refused_line
returns-in-Err c =
    let e = left_refused c.args.code.now c.loop-at.at c.in-Err.field-0 c.decoded_at.result c.loop-at-test.true c.decoded_at.ensures c.in-Err.is in
    omega (arith, ap length e)

pub returns : goal.returns
unfolding end_line
returns c =
    omega (arith, ap length (left_end c.args.code.now c.loop-at.at c.loop-at-test.false c.loop-at.invariant.0))
