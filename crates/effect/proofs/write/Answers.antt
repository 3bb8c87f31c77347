use native.Mathlib.Omega.{arith}
use Rattle.effect.specs.Tables.{tables_of}
use Rattle.effect.proofs.Values.{within_all, stored, rows_left_lem}
use Rattle.effect.proofs.write.Goals as goal

pub results-requires : goal.results-requires
results-requires c =
    (omega arith, c.requires.0.sized, within_all _ c.args.action.now.a c.args.action.now.b c.args.action.now.c _ c.requires.0 c.gather.ensures.1)

pub returns : goal.returns
returns c =
    let x = c.args.action.now in
    let tables = tables_of c.args.tables in
    let rows = c.args.rows.now in (
      stored x.operation tables c.args.registers.now x.a x.b x.c c.requires.0 rows.sources _ _ c.gather.ensures.0 c.results.ensures x.d c.args.mask _ c.store.ensures,
      rows_left_lem x.operation tables c.args.registers.now x.a x.b x.c c.requires.0 rows.sources _ _ c.gather.ensures.0 c.results.ensures rows.values,
    )
