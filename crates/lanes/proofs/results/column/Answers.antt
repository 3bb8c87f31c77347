use Rattle.std.proofs.Common.{rules}
use Rattle.machine.proofs.Made.{made_row}
use Rattle.lanes.specs.Results.{column_of}
use Rattle.lanes.proofs.results.column.Goals as goal

pub returns : goal.returns
returns c = made_row _ (column_of c.args.values.now c.args.k) _ (λ t v f' k. search rules) c.from_fn.result 32 c.from_fn.ensures.items
