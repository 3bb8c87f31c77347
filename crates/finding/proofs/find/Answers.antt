use Rattle.finding.proofs.Found.{word-lent, found}
use native.Mathlib.Omega.{arith}
use Rattle.finding.proofs.find.Goals as goal

pub find_first-requires : goal.find_first-requires
find_first-requires c = (
  omega (arith, c.held.ensures),
  word-lent c.args.code.now (λ k. (c.type_inv.code k).fits) _ _ c.word.ensures c.held.ensures,
)

pub returns : goal.returns
returns c =
    found c.args.code.now (λ k. (c.type_inv.code k).fits) _ _ _ c.word.ensures c.held.ensures
    c.find_first.ensures.0
