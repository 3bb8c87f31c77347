-- The rows in turn, and the law of halves.
use mathlib.Core.Path.{ap, ◌∙◌}
use mathlib.Core.List.{List}
use Prim.Native.Nat.{ℕ}
use Rattle.machine.specs.Lanes.{tab, each}
use Rattle.lanes.specs.Results.{merged_at, word_lane}
use Rattle.lanes.proofs.Stores.{put_halves}
use Rattle.lanes.proofs.results.halves.Goals as goal

pub returns : goal.returns
returns c =
    let row = c.merged-row.ensures ∙ ap (λ (l : List ℕ). tab 32 (merged_at c.args.registers.now c.args.h l)) c.column.ensures in
    c.put.ensures
    ∙ (λ i. each 32 (word_lane (row i) c.args.mask (c.from.ensures i)) c.args.registers.now)
    ∙ put_halves c.args.values.now c.args.mask c.args.h c.args.registers.now
