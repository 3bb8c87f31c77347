-- By the hint of the source.
use Rattle.std.proofs.Common.{rules}
use Rattle.marksets.proofs.Laws.{set-none}
use Rattle.marksets.proofs.discard.Goals as goal

pub returns-in_default : goal.returns-in_default
returns-in_default c = search (rules, set-none)
