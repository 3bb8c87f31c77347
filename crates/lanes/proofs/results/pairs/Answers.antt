-- The rows in turn, and the law of pairs.
use Prim.Native.Nat.{◌+◌}
use mathlib.Core.Path.{ap, ◌∙◌}
use Rattle.machine.specs.Lanes.{each}
use Rattle.lanes.specs.Results.{word_lane}
use Rattle.lanes.proofs.Stores.{put-pairs}
use Rattle.lanes.proofs.results.pairs.Goals as goal

pub returns : goal.returns
returns c =
    c.put-2.ensures
    ∙ ap (each 32 (word_lane c.column-2.result c.args.mask (c.from-first.result + 1))) c.put.ensures
    ∙ (λ i.
    each 32 (word_lane (c.column-2.ensures i) c.args.mask (c.from-first.ensures i + 1))
    (each 32 (word_lane (c.column.ensures i) c.args.mask (c.from-first.ensures i)) c.args.registers.now))
    ∙ put-pairs c.args.values.now c.args.mask c.args.r c.args.registers.now
