use mathlib.Core.Path.{refl, sym, ◌∙◌}
use native.Mathlib.Omega.{arith}
use lib.ListN.{length}
use Rattle.recode.proofs.Steps.{turn, not_both, copied, finished}
use Rattle.recode.proofs.recode.Goals as goal

pub returns-in_err-encode_again : goal.returns-in_err-encode_again
returns-in_err-encode_again c =
    let t =
    turn c.args.code.now c.args.out.now c.loop-i.out c.loop-i.at c.loop-i.invariant.0 c.loop-i.invariant.1 (omega arith)
    (λ k. (c.type_inv.code k).fits) c.in-Ok.i c.in-Ok.n (sym c.decode.ensures ∙ c.in-Ok.is) in
    absurd (not_both c.encode_again.result c.in-Ok.n c.in_err-encode_again.field-0.0 (c.encode_again.ensures.0 ∙ t.taken) c.in_err-encode_again.was)

pub overflow_add-at : goal.overflow_add-at
overflow_add-at c =
    let t =
    turn c.args.code.now c.args.out.now c.loop-i.out c.loop-i.at c.loop-i.invariant.0 c.loop-i.invariant.1 (omega arith)
    (λ k. (c.type_inv.code k).fits) c.in-Ok.i c.in-Ok.n (sym c.decode.ensures ∙ c.in-Ok.is) in
    omega (arith, t.within)

pub loop-i-smaller : goal.loop-i-smaller
loop-i-smaller c =
    let t =
    turn c.args.code.now c.args.out.now c.loop-i.out c.loop-i.at c.loop-i.invariant.0 c.loop-i.invariant.1 (omega arith)
    (λ k. (c.type_inv.code k).fits) c.in-Ok.i c.in-Ok.n (sym c.decode.ensures ∙ c.in-Ok.is) in
    omega (arith, t.within)

pub loop-i-preserved : goal.loop-i-preserved
loop-i-preserved c =
    let t =
    turn c.args.code.now c.args.out.now c.loop-i.out c.loop-i.at c.loop-i.invariant.0 c.loop-i.invariant.1 (omega arith)
    (λ k. (c.type_inv.code k).fits) c.in-Ok.i c.in-Ok.n (sym c.decode.ensures ∙ c.in-Ok.is) in
    (t.encoded _ c.encode_again.ensures.1, omega (arith, t.within), omega arith)

pub returns : goal.returns
returns c =
    finished c.args.code.now c.args.out.now c.put.new.out (length c.args.code.now) (λ k. (c.type_inv.code k).fits)
    (copied c.args.code.now c.args.out.now c.loop-i.out c.loop-i.at c.loop-i.invariant.0 c.loop-i.invariant.1 (omega arith) _ c.put.ensures)
    refl (omega arith)
