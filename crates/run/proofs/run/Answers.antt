use mathlib.Core.Path.{ap}
use mathlib.Core.Bool.{not}
use native.Mathlib.Omega.{arith}
use Rattle.run.proofs.Promise.{at_bad_size}
use Rattle.run.proofs.Turns.{sizes-arranged, at-start, at-end}
use Rattle.run.proofs.run.Goals as goal

pub returns-then-not-arranged : goal.returns-then-not-arranged
returns-then-not-arranged c =
    at_bad_size (omega arith) c.arranged.result c.arranged.ensures (ap not c.if-not-arranged.true)

pub returns-then-start-code : goal.returns-then-start-code
returns-then-start-code c =
    at-end (at-start (omega arith) (sizes-arranged _ c.arranged.result c.arranged.ensures (ap not c.if-not-arranged.false))) c.if-start-code.true

pub run_arranged-requires : goal.run_arranged-requires
run_arranged-requires c =
    sizes-arranged _ c.arranged.result c.arranged.ensures (ap not c.if-not-arranged.false)
