use Rattle.std.proofs.Common.{rules}
use Rattle.machine.proofs.Made.{made_row}
use Rattle.lanes.specs.Sources.{pair_at}
use Rattle.lanes.proofs.sources.pairs.Goals as goal

pub returns : goal.returns
returns c = made_row _ (pair_at c.args.file.now c.args.r) _ (λ t v f' k. search rules) c.from_fn.result 32 c.from_fn.ensures.items
