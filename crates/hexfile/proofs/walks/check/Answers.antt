use mathlib.Core.Path.{sym, ap, ◌∙◌}
use Rattle.std.specs.Prelude.{Ok}
use Prim.Native.Nat.{◌+◌, ◌*◌, ◌≤◌}
use native.Mathlib.Omega.{arith}
use lib.ListN.{length}
use Rattle.hexfile.specs.Rows.{seen_by}
use Rattle.hexfile.proofs.Steps.{known_first, known_more, room_for, end-within, whole, not-whole, bad-at, ran_out}
use Rattle.hexfile.proofs.walks.check.Goals as goal

pub loop-at-init : goal.loop-at-init
loop-at-init c = (omega arith, omega arith, omega arith, known_first c.args.text.now)

pub loop-at-preserved : goal.loop-at-preserved
loop-at-preserved c =
    let room : (2 * c.in-Ok-Data.count + 12 ≤ c.in-Ok-Data.size) × (c.loop-at.at + c.in-Ok-Data.size ≤ length c.args.text.now) = room_for c.args.text.now c.loop-at.at c.loop-at.row c.loop-at.n
    c.loop-at-test.true c.loop-at.invariant.3 c.in-Ok-Data.count c.in-Ok-Data.size (sym c.row_at.ensures ∙ c.in-Ok-Data.is ∙ ap Ok c.in-Ok-Data.field-0-is) in
    let m = room in (
      omega arith,
      omega arith,
      omega arith,
      known_more c.args.text.now c.loop-at.at c.loop-at.row c.loop-at.n
          c.loop-at-test.true c.loop-at.invariant.3 c.in-Ok-Data.count c.in-Ok-Data.size (sym c.row_at.ensures ∙ c.in-Ok-Data.is ∙ ap Ok c.in-Ok-Data.field-0-is),
    )

pub returns-then-at-size : goal.returns-then-at-size
returns-then-at-size c =
    let e =
    whole c.args.text.now c.loop-at.at c.loop-at.row c.loop-at.n
    c.loop-at-test.true c.loop-at.invariant.3 c.in-Ok-End.size (sym c.row_at.ensures ∙ c.in-Ok-End.is ∙ ap Ok c.in-Ok-End.field-0-is) c.if-at-size.true in
    ap Ok (sym c.loop-at.invariant.3.size) ∙ sym (ap seen_by e)

pub returns-in-Ok-End : goal.returns-in-Ok-End
returns-in-Ok-End c =
    sym (ap seen_by
    (not-whole c.args.text.now c.loop-at.at c.loop-at.row c.loop-at.n
    c.loop-at-test.true c.loop-at.invariant.3 c.in-Ok-End.size (sym c.row_at.ensures ∙ c.in-Ok-End.is ∙ ap Ok c.in-Ok-End.field-0-is) c.if-at-size.false))

pub returns-in-Err : goal.returns-in-Err
returns-in-Err c =
    sym (ap seen_by
    (bad-at c.args.text.now c.loop-at.at c.loop-at.row c.loop-at.n
    c.loop-at-test.true c.loop-at.invariant.3 c.in-Err.f (sym c.row_at.ensures ∙ c.in-Err.is)))

pub returns : goal.returns
returns c =
    sym (ap seen_by (ran_out c.args.text.now c.loop-at.at c.loop-at.row c.loop-at.invariant.3.code c.loop-at-test.false c.loop-at.invariant.3.reached))

pub overflow_add-n : goal.overflow_add-n
overflow_add-n c =
    let room : (2 * c.in-Ok-Data.count + 12 ≤ c.in-Ok-Data.size) × (c.loop-at.at + c.in-Ok-Data.size ≤ length c.args.text.now) = room_for c.args.text.now c.loop-at.at c.loop-at.row c.loop-at.n
    c.loop-at-test.true c.loop-at.invariant.3 c.in-Ok-Data.count c.in-Ok-Data.size (sym c.row_at.ensures ∙ c.in-Ok-Data.is ∙ ap Ok c.in-Ok-Data.field-0-is) in
    omega (arith, room)

pub overflow_add-at : goal.overflow_add-at
overflow_add-at c =
    let room : (2 * c.in-Ok-Data.count + 12 ≤ c.in-Ok-Data.size) × (c.loop-at.at + c.in-Ok-Data.size ≤ length c.args.text.now) = room_for c.args.text.now c.loop-at.at c.loop-at.row c.loop-at.n
    c.loop-at-test.true c.loop-at.invariant.3 c.in-Ok-Data.count c.in-Ok-Data.size (sym c.row_at.ensures ∙ c.in-Ok-Data.is ∙ ap Ok c.in-Ok-Data.field-0-is) in
    omega (arith, room)

pub loop-at-smaller : goal.loop-at-smaller
loop-at-smaller c =
    let room : (2 * c.in-Ok-Data.count + 12 ≤ c.in-Ok-Data.size) × (c.loop-at.at + c.in-Ok-Data.size ≤ length c.args.text.now) = room_for c.args.text.now c.loop-at.at c.loop-at.row c.loop-at.n
    c.loop-at-test.true c.loop-at.invariant.3 c.in-Ok-Data.count c.in-Ok-Data.size (sym c.row_at.ensures ∙ c.in-Ok-Data.is ∙ ap Ok c.in-Ok-Data.field-0-is) in
    omega (arith, room)

pub overflow_add-at-in-Ok-End : goal.overflow_add-at-in-Ok-End
overflow_add-at-in-Ok-End c =
    omega (
      arith,
      end-within c.args.text.now c.loop-at.at c.loop-at.row c.loop-at.n c.loop-at-test.true c.loop-at.invariant.3 c.in-Ok-End.size
          (sym c.row_at.ensures ∙ c.in-Ok-End.is ∙ ap Ok c.in-Ok-End.field-0-is),
    )
