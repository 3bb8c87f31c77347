-- Each branch is one of the definition's.
use mathlib.Core.Path.{◌≡◌}
use mathlib.Core.Bool.{false, ◌&&◌}
use lib.Dec.{eqb}
use borrow.Author.Tests.{eq-eqb, ne_eqb}
use Rattle.hexrow.proofs.says.says.Goals as goal
use Rattle.hexrow.proofs.says.says.Goals.{else-kind-eq0-via-then-kind-eq0+else-address-next, else-kind-eq0-via-else-kind-eq0}
use Rattle.hexrow.proofs.says.says.Goals.{else-kind-eq1-via-then-kind-eq1+then-address-eq0+else-count-eq0, else-kind-eq1-via-then-kind-eq1+else-address-eq0, else-kind-eq1-via-else-kind-eq1}

pub returns-then-address-next : goal.returns-then-address-next
returns-then-address-next c = rw (c.if-kind-eq0.true, eq-eqb c.args.address c.args.next c.if-address-next.true)

pub returns-then-count-eq0 : goal.returns-then-count-eq0
returns-then-count-eq0 c = rw (c.if-kind-eq1.true, c.if-address-eq0.true, c.if-count-eq0.true)

pub returns-else-kind-eq1 : goal.returns-else-kind-eq1
returns-else-kind-eq1 c =
    let a = c.args in
    let no_data : (eqb a.kind 0 && eqb a.address a.next) ≡ false =
    elim c.else-kind-eq0.branch [
      | else-kind-eq0-via-then-kind-eq0+else-address-next w ↦ rw (w.if-kind-eq0.true, ne_eqb a.address a.next w.if-address-next.false)
      | else-kind-eq0-via-else-kind-eq0 w ↦ rw (ne_eqb a.kind 0 w.if-kind-eq0.false)
    ] in
    let no_end : (eqb a.kind 1 && (eqb a.address 0 && eqb a.count 0)) ≡ false =
    elim c.else-kind-eq1.branch [
      | else-kind-eq1-via-then-kind-eq1+then-address-eq0+else-count-eq0 w ↦
          rw (w.if-kind-eq1.true, w.if-address-eq0.true, ne_eqb a.count 0 w.if-count-eq0.false)
      | else-kind-eq1-via-then-kind-eq1+else-address-eq0 w ↦ rw (w.if-kind-eq1.true, ne_eqb a.address 0 w.if-address-eq0.false)
      | else-kind-eq1-via-else-kind-eq1 w ↦ rw (ne_eqb a.kind 1 w.if-kind-eq1.false)
    ] in
    rw (no_data, no_end)
