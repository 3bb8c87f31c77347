use mathlib.Core.Path.{refl, sym, ◌∙◌}
use native.Mathlib.Omega.{arith}
use Rattle.std.proofs.lemmas.Result.{err_from_is_err_and}
use Rattle.finding.proofs.Found.{word-lent}
use Rattle.action.proofs.Narrow.{narrow_at}
use Rattle.decode.proofs.Decoding.{decoded, decoded-at}
use Rattle.plan.proofs.Planning.{says_of_same, was_read, says_task, says_refusal}
use Rattle.plan.proofs.first_task.Goals as goal

pub find_first-requires : goal.find_first-requires
find_first-requires c = (
  omega (arith, c.held.ensures),
  word-lent c.args.code.now (λ j. (c.type_inv.code j).fits) _ _ c.word-w.ensures c.held.ensures,
)

pub action_of-requires : goal.action_of-requires
action_of-requires c =
    narrow_at _ _ c.in_ok-place.ensures.1.0 c.in_ok-i.i (sym c.read.ensures ∙ was_read c.read.result c.in_ok-i.i c.in_ok-i.ensures.value)

pub returns-in_err-place : goal.returns-in_err-place
returns-in_err-place c =
    let p = err_from_is_err_and c.from_residual.result c.from_residual.ensures.1 in
    rw (p.1, p.2)
    (says_of_same _ (decoded c.args.code.now (λ j. (c.type_inv.code j).fits) _ _ c.word-w.ensures c.held.ensures _ c.in_err-place.ensures.0) refl)

pub returns-in_err-i : goal.returns-in_err-i
returns-in_err-i c =
    let p = err_from_is_err_and c.from_residual-in_err-i.result c.from_residual-in_err-i.ensures.1 in
    rw (p.1, p.2)
    (says_of_same _
    (decoded-at c.args.code.now (λ j. (c.type_inv.code j).fits) _ _ c.word-w.ensures c.held.ensures _ _ _ _ c.in_ok-place.ensures.0
    c.in_ok-place.ensures.1.1 c.ones_of.ensures c.read.ensures)
    (says_refusal c.read.result c.in_ok-place.bytes _ c.in_err-i.ensures.value))

pub returns : goal.returns
returns c =
    says_of_same _
    (decoded-at c.args.code.now (λ j. (c.type_inv.code j).fits) _ _ c.word-w.ensures c.held.ensures _ _ _ _ c.in_ok-place.ensures.0
    c.in_ok-place.ensures.1.1 c.ones_of.ensures c.read.ensures)
    (says_task c.read.result c.in_ok-place.bytes c.in_ok-i.i _ c.in_ok-i.ensures.value (rw c.task_of.ensures (record { acts = c.action_of.ensures; is = refl })))
