-- The whole text is seen before anything is written: a bad row, a kernel that is too long or has no room, or one that is taken.
use mathlib.Core.Path.{◌∙◌}
use native.Mathlib.Omega.{arith}
use Rattle.hexfile.specs.Read.{read_of}
use Rattle.hexfile.proofs.Answers.{too_long, no_room, is-kernel, taken_in}
use Rattle.hexfile.proofs.read.Goals as goal
use Rattle.hexfile.proofs.read.Goals.{then-n-gt-LIMIT-via-then-n-gt-LIMIT, then-n-gt-LIMIT-via-else-n-gt-LIMIT+then-out-n}

pub returns-then-n-gt-LIMIT : goal.returns-then-n-gt-LIMIT
returns-then-n-gt-LIMIT c =
    let code = read_of c.args.text.now in
    elim c.then-n-gt-LIMIT.branch [
      | then-n-gt-LIMIT-via-then-n-gt-LIMIT w ↦
          too_long c.args.out.now code c.check.result c.in_ok-n.n c.check.ensures c.in_ok-n.was w.if-n-gt-LIMIT.true
      | then-n-gt-LIMIT-via-else-n-gt-LIMIT+then-out-n w ↦
          no_room c.args.out.now code c.check.result c.in_ok-n.n c.check.ensures c.in_ok-n.was w.if-n-gt-LIMIT.false w.if-out-n.true
    ]

pub fill-requires : goal.fill-requires
fill-requires c =
    let r = is-kernel c.args.out.now (read_of c.args.text.now) c.check.result c.in_ok-n.n c.check.ensures c.in_ok-n.was in
    (r.0, omega (arith, r.1))

pub returns : goal.returns
returns c =
    let t =
    taken_in c.args.out.now (read_of c.args.text.now) c.check.result c.in_ok-n.n c.check.ensures c.in_ok-n.was
    c.if-n-gt-LIMIT.false c.if-out-n.false in
    (t.0, c.fill.ensures ∙ t.1)
