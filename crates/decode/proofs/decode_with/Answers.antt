use Rattle.std.proofs.Common.{arith}
use Rattle.std.proofs.lemmas.Result.{err_from_is_err_and}
use Rattle.finding.proofs.Found.{word-lent}
use Rattle.decode.proofs.Decoding.{has_meaning, no_meaning, refused-with, read-with}
use Rattle.decode.proofs.decode_with.Goals as goal

pub find_first-requires : goal.find_first-requires
find_first-requires g c = (
  omega (arith, c.held.ensures),
  word-lent c.args.code.now (λ j. (c.type_inv.code j).fits) _ _ c.word-w.ensures c.held.ensures,
)

pub returns-in_err-place : goal.returns-in_err-place
returns-in_err-place g c =
    let p = err_from_is_err_and c.from_residual.result c.from_residual.ensures.1 in
    refused-with c.args.code.now (λ j. (c.type_inv.code j).fits) _ _ c.word-w.ensures c.held.ensures (goal.F-post g c.args.read) _ _ c.in_err-place.ensures.0
    (rw (p.1, p.2))

pub returns-in_err-x : goal.returns-in_err-x
returns-in_err-x g c =
    let p = err_from_is_err_and c.from_residual-in_err-x.result c.from_residual-in_err-x.ensures.1 in
    read-with c.args.code.now (λ j. (c.type_inv.code j).fits) _ _ c.word-w.ensures c.held.ensures (goal.F-post g c.args.read) _ _ _ _ c.read.result
    c.in_ok-place.ensures.0 c.in_ok-place.ensures.1.1 c.ones_of.ensures c.read.ensures
    (rw (p.1, p.2) (no_meaning c.read.result c.in_ok-place.n _ c.in_err-x.ensures.value))

pub returns : goal.returns
returns g c =
    read-with c.args.code.now (λ j. (c.type_inv.code j).fits) _ _ c.word-w.ensures c.held.ensures (goal.F-post g c.args.read) _ _ _ _ c.read.result
    c.in_ok-place.ensures.0 c.in_ok-place.ensures.1.1 c.ones_of.ensures c.read.ensures
    (has_meaning c.read.result c.in_ok-place.n c.in_ok-x.x c.in_ok-x.ensures.value)
