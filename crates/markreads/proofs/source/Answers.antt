-- Uniforms and immediates are no halves.
use Rattle.std.proofs.Common.{rules}
use Rattle.markreads.proofs.Laws.{of_none}
use Rattle.markreads.proofs.source.Goals as goal

pub returns-in-UniformHalf : goal.returns-in-UniformHalf
returns-in-UniformHalf c = search (rules, of_none)
