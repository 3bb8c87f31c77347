use native.Mathlib.Omega.{arith}
use Rattle.effect.specs.Tables.{tables_of}
use Rattle.machine.specs.Step.{own_r0l}
use Rattle.effect.proofs.Values.{within_all, masked, rows_left_lem}
use Rattle.effect.proofs.mask.Goals as goal

pub results-requires : goal.results-requires
results-requires c =
    let x = c.args.action.now in
    (omega arith, c.requires.0.sized, within_all _ x.a x.b own_r0l _ c.requires.0 c.gather.ensures.1)

pub returns : goal.returns
returns c =
    let x = c.args.action.now in
    let tables = tables_of c.args.tables in
    let rows = c.args.rows.now in (
      masked x.operation tables c.args.registers.now x.a x.b own_r0l c.requires.0 rows.sources _ _ c.gather.ensures.0 c.results.ensures _ _ c.store.ensures c.zeros.ensures,
      rows_left_lem x.operation tables c.args.registers.now x.a x.b own_r0l c.requires.0 rows.sources _ _ c.gather.ensures.0 c.results.ensures rows.values,
    )
