-- The row, and the law of words.
use mathlib.Core.Path.{◌∙◌}
use Rattle.machine.specs.Lanes.{each}
use Rattle.lanes.specs.Results.{word_lane}
use Rattle.lanes.proofs.Stores.{put-words}
use Rattle.lanes.proofs.results.words.Goals as goal

pub returns : goal.returns
returns c =
    c.put.ensures
    ∙ (λ i. each 32 (word_lane (c.column.ensures i) c.args.mask (c.from.ensures i)) c.args.registers.now)
    ∙ put-words c.args.values.now c.args.mask c.args.r c.args.registers.now
