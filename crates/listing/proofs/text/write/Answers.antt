use mathlib.Core.Path.{◌≡◌, refl, sym, ap, ◌∙◌}
use mathlib.Core.List.{List}
use Prim.Native.Nat.{ℕ, ◌+◌, ◌-◌}
use native.Mathlib.Omega.{arith}
use lib.ListN.{length, take, drop}
use Rattle.isa.specs.Parts.{place_of}
use Rattle.lines.specs.Line.{line_of, end_line, refused_line}
use lib.Seq.{sets}
use Rattle.bits.proofs.Pieces.{after}
use Rattle.lines.proofs.Lengths.{length_line}
use Rattle.listing.proofs.Left.{left, left_all, Step, step, left_refused, left_end}
use Rattle.listing.proofs.text.write.Goals as goal

pub loop-at-init : goal.loop-at-init
loop-at-init c =
    let e = left_all c.args.code.now in
    (omega arith, omega arith, refl, omega (arith, ap length e), ap (λ (s : List ℕ). sets c.args.text.now 0 s) e)

pub overflow_add-end : goal.overflow_add-end
overflow_add-end c =
    omega (arith, step _ _ _ _ _ c.loop-at-test.true c.decoded_at.ensures c.in-Ok.is)

pub slice_bounds-put_line-end : goal.slice_bounds-put_line-end
slice_bounds-put_line-end c =
    omega (arith, step _ _ _ _ _ c.loop-at-test.true c.decoded_at.ensures c.in-Ok.is)

pub put_line-requires : goal.put_line-requires
put_line-requires c =
    let t : Step c.args.code.now c.loop-at.at c.in-Ok.i c.in-Ok.k = step _ _ _ _ _ c.loop-at-test.true c.decoded_at.ensures c.in-Ok.is in
    (omega arith, omega arith)

pub line_length-n-requires : goal.line_length-n-requires
line_length-n-requires c =
    omega (arith, step _ _ _ _ _ c.loop-at-test.true c.decoded_at.ensures c.in-Ok.is)

pub overflow_add-n : goal.overflow_add-n
overflow_add-n c =
    omega (arith, step _ _ _ _ _ c.loop-at-test.true c.decoded_at.ensures c.in-Ok.is)

pub loop-at-smaller : goal.loop-at-smaller
loop-at-smaller c =
    omega (arith, step _ _ _ _ _ c.loop-at-test.true c.decoded_at.ensures c.in-Ok.is)

pub loop-at-preserved : goal.loop-at-preserved
loop-at-preserved c =
    let t : Step c.args.code.now c.loop-at.at c.in-Ok.i c.in-Ok.k = step _ _ _ _ _ c.loop-at-test.true c.decoded_at.ensures c.in-Ok.is in
    let bytes = take (c.loop-at.at + c.in-Ok.k - c.loop-at.at) (drop c.loop-at.at c.args.code.now) in
    let e = length_line c.loop-at.at bytes (place_of c.in-Ok.i) in (
      omega arith,
      omega arith,
      omega arith,
      omega arith,
      after (line_of c.loop-at.at bytes c.in-Ok.i) (left c.args.code.now (c.loop-at.at + c.in-Ok.k)) (left c.args.code.now c.loop-at.at) c.loop-at.text c.put_line.new.text c.loop-at.n
          (c.loop-at.n + c.line_length-n.result) c.put_line.ensures (omega arith) t.text
          ∙ c.loop-at.invariant.4,
    )

pub put_refused-requires : goal.put_refused-requires
unfolding refused_line
put_refused-requires c =
    let stop : left c.args.code.now c.loop-at.at
    ≡ refused_line c.loop-at.at c.in-Err.r = left_refused c.args.code.now c.loop-at.at c.in-Err.r c.decoded_at.result
    c.loop-at-test.true c.decoded_at.ensures c.in-Err.is in
    let e = ap length stop in
    (omega arith, omega arith)

pub returns-in-Err : goal.returns-in-Err
returns-in-Err c =
    let stop : left c.args.code.now c.loop-at.at
    ≡ refused_line c.loop-at.at c.in-Err.r = left_refused c.args.code.now c.loop-at.at c.in-Err.r c.decoded_at.result
    c.loop-at-test.true c.decoded_at.ensures c.in-Err.is in
    c.put_refused.ensures
    ∙ ap (λ (s : List ℕ). sets c.loop-at.text c.loop-at.n s) (sym stop)
    ∙ c.loop-at.invariant.4

pub put_end-requires : goal.put_end-requires
unfolding end_line
put_end-requires c =
    let finish : left c.args.code.now c.loop-at.at ≡ end_line c.loop-at.at = left_end c.args.code.now c.loop-at.at c.loop-at-test.false c.loop-at.invariant.0 in
    let e = ap length finish in
    (omega arith, omega arith)

pub returns : goal.returns
returns c =
    let finish : left c.args.code.now c.loop-at.at ≡ end_line c.loop-at.at = left_end c.args.code.now c.loop-at.at c.loop-at-test.false c.loop-at.invariant.0 in
    c.put_end.ensures
    ∙ ap (λ (s : List ℕ). sets c.loop-at.text c.loop-at.n s) (sym finish)
    ∙ c.loop-at.invariant.4
