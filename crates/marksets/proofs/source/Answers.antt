-- Uniforms and immediates are no halves.
use Rattle.std.proofs.Common.{rules}
use Rattle.marksets.proofs.Laws.{set-none}
use Rattle.marksets.proofs.source.Goals as goal

pub returns-in-UniformHalf : goal.returns-in-UniformHalf
returns-in-UniformHalf c = search (rules, set-none)
