use mathlib.Core.Path.{ap}
use native.Mathlib.Omega.{arith}
use lib.ListN.{length}
use Rattle.runbytes.specs.RunBytes.{lent_of}
use Rattle.runbytes.proofs.Runs.{runs}
use Rattle.runbytes.proofs.run_in.Goals as goal

pub store-requires : goal.store-requires
store-requires c =
    omega (arith, c.run-a.auto.registers, c.load.auto.words, c.requires.registers_fit)

pub put-requires : goal.put-requires
put-requires c =
    omega (arith, ap length c.bytes-bytes.ensures, c.requires.answer_fits)

pub returns : goal.returns
returns c =
    runs (lent_of c.args.code.now c.args.registers.now c.args.marks.now c.args.uniforms.now c.args.specials.now c.args.start c.args.mask c.args.budget c.args.records.now c.args.answer.now)
    c.requires _ _ _ c.load.ensures c.load-2.ensures c.load-3.ensures _ _ _ _ c.run-a.ensures (omega arith) _ _ _ c.store.ensures
    c.bytes-bytes.ensures c.put.ensures
