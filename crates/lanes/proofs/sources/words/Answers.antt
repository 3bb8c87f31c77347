use Rattle.std.proofs.Common.{rules}
use Rattle.machine.specs.Words.{word_at}
use Rattle.machine.proofs.Made.{made_row}
use Rattle.lanes.proofs.sources.words.Goals as goal

pub returns : goal.returns
returns c = made_row _ (word_at c.args.file.now c.args.r) _ (λ t v f' k. search rules) c.from_fn.result 32 c.from_fn.ensures.items
