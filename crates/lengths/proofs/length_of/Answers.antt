-- Each answer is that of the row's case, by the tests that led there.
use native.Mathlib.Omega.{arith}
use borrow.Author.Tests.{eq-eqb, ne_eqb}
use Rattle.lengths.proofs.Length.{more_than_one, by_row_lem, length_past}
use Rattle.lengths.proofs.length_of.Goals as goal

pub returns-then-place-ge22 : goal.returns-then-place-ge22
returns-then-place-ge22 c = (length_past c.args.p (omega arith), omega arith)

pub overflow_sub-result : goal.overflow_sub-result
overflow_sub-result c =
    let r = c in
    let b = more_than_one r.args.p _ _ r.place_of-place.ensures (omega arith) r.bytes_at-n.ensures in
    omega arith

pub returns-then-bit_l_at-eq0 : goal.returns-then-bit_l_at-eq0
returns-then-bit_l_at-eq0 c =
    let r = c in
    rw (eq-eqb _ _ c.if-bit_l_at-eq0.true) at
    (by_row_lem r.args.p _ _ r.place_of-place.ensures (omega arith) r.bytes_at-n.ensures _ c.bit_l_at.ensures)

pub returns-then-p-eq0 : goal.returns-then-p-eq0
returns-then-p-eq0 c =
    let r = c in
    rw (ne_eqb _ _ c.if-bit_l_at-eq0.false, eq-eqb _ _ c.if-p-eq0.true) at
    (by_row_lem r.args.p _ _ r.place_of-place.ensures (omega arith) r.bytes_at-n.ensures _ c.bit_l_at.ensures)

pub returns-else-p-eq0 : goal.returns-else-p-eq0
returns-else-p-eq0 c =
    let r = c in
    rw (ne_eqb _ _ c.if-bit_l_at-eq0.false, ne_eqb _ _ c.if-p-eq0.false) at
    (by_row_lem r.args.p _ _ r.place_of-place.ensures (omega arith) r.bytes_at-n.ensures _ c.bit_l_at.ensures)
