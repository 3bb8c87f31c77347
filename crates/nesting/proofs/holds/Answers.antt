use Rattle.std.proofs.Common.{◌/◌, ◌%◌, Bool, cond, not, ap, ◌∙◌}
use Rattle.machine.specs.Meaning.{is_set, holds}
use Rattle.nesting.proofs.Order.{same-comparison}
use Rattle.nesting.proofs.holds.Goals as goal

pub returns : goal.returns
unfolding holds
returns c =
    let s = c in
    let o = s.args.o in
    let x = c.rank-x in
    let y = c.rank-y in
    let r = c.compared in
    let e =
    same-comparison (o.cc % 4) (o.cc / 4) o.asize o.bsize s.args.a s.args.b x.result y.result r.result
    s.requires.0 s.requires.1 s.requires.2 s.requires.3 x.ensures y.ensures r.ensures in
    c.turned.ensures ∙ ap (λ (t : Bool). cond (is_set o.ccn) (not t) t) e
