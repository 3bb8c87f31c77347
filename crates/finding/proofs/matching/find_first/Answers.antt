use Rattle.std.proofs.Common.{◌%◌, sym, ap, ℕ, ◌∙◌, arith}
use Rattle.std.specs.declared.ops.Range.{Range}
use Rattle.finding.proofs.Candidates.{none_lent, first_below, end_below, bytes-within}
use Rattle.finding.proofs.Loop.{at_first, found_here, waits, passes, at_end}
use Rattle.finding.proofs.matching.find_first.Goals as goal

pub returns-then-n-eq0 : goal.returns-then-n-eq0
returns-then-n-eq0 c = (sym (none_lent c.args.w c.args.n c.if-n-eq0.true c.requires.1), tt)

pub loop-i-init : goal.loop-i-init
loop-i-init c =
    let e = c.into_iter-i-iterator.ensures.into_iter_gives ∙ c.rows_with-i-items.ensures in
    let start = ap (λ (x : Range ℕ). x.start) e in
    let end = ap (λ (x : Range ℕ). x.end) e in (
      omega (arith, start, first_below (c.args.w % 128)),
      omega (arith, end, end_below (c.args.w % 128)),
      end,
      at_first c.args.w c.args.n _ (omega arith) c.requires.0 start,
    )

pub length_by-bytes-requires : goal.length_by-bytes-requires
length_by-bytes-requires c =
    let s = c.in-Some.ensures.steps in
    rw c.row_at-r.ensures (bytes-within c.in-Some.i (omega arith)).0

pub returns-then-bytes-n : goal.returns-then-bytes-n
returns-then-bytes-n c =
    let s = c.in-Some.ensures.steps in
    found_here _ _ _ _ _ _ _ _ _ s.1.1 s.1.2 (omega arith) c.loop-i.invariant.3 c.row_at-r.ensures c.ones_of-k.ensures c.agree.ensures
    _ c.length_by-bytes.ensures c.if-agree.true c.if-bytes-n.true

pub loop-i-preserved-then-agree : goal.loop-i-preserved-then-agree
loop-i-preserved-then-agree c =
    let s = c.in-Some.ensures.steps in (
      omega arith,
      omega arith,
      s.0 ∙ c.loop-i.invariant.2,
      waits _ _ _ _ _ _ _ _ _ s.1.1 s.1.2 (omega arith) c.loop-i.invariant.3 c.row_at-r.ensures c.ones_of-k.ensures c.agree.ensures
          _ c.length_by-bytes.ensures c.if-agree.true c.if-bytes-n.false,
    )

pub loop-i-preserved : goal.loop-i-preserved
loop-i-preserved c =
    let s = c.in-Some.ensures.steps in (
      omega arith,
      omega arith,
      s.0 ∙ c.loop-i.invariant.2,
      passes _ _ _ _ _ _ _ _ _ s.1.1 s.1.2 (omega arith) c.loop-i.invariant.3 c.row_at-r.ensures c.ones_of-k.ensures c.agree.ensures
          c.if-agree.false,
    )

pub returns : goal.returns
returns c =
    let s = c.in-None.ensures.steps in (
      at_end c.args.w c.args.n _ _ (omega arith) c.requires.0 (omega arith) c.loop-i.invariant.0 c.loop-i.invariant.3,
      tt,
    )
