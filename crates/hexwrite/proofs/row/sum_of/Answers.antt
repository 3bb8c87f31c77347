use mathlib.Core.Path.{ap}
use native.Mathlib.Omega.{arith}
use lib.ListN.{drop_of_length-le}
use Rattle.std.proofs.lemmas.List.{drop_more}
use Rattle.hexpairs.specs.Pairs.{total}
use Rattle.hexwrite.proofs.row.sum_of.Goals as goal

pub loop-byte-preserved : goal.loop-byte-preserved
loop-byte-preserved c =
    let t = ap total (drop_more c.args.bytes.now c.loop-byte.byte-index 0 (omega arith)) in
    omega arith

pub returns : goal.returns
returns c =
    let t = ap total (drop_of_length-le c.args.bytes.now {i = c.loop-byte.byte-index} (omega arith)) in
    omega arith
