-- The byte form spells the instruction, so the answer and the buffer are those of encoding the instruction.
use Rattle.std.proofs.Common.{Option}
use mathlib.Core.Path.{ap, ◌∙◌}
use Rattle.encode.specs.Encode.{encoded_spelled, left_spelled}
use Rattle.recode.proofs.encode_again.Goals as goal
use Rattle.isa.specs.declared.instruction.Instruction.{Instruction}

pub returns : goal.returns
returns c = (
  c.encode_form.ensures.0 ∙ ap (λ (x : Option Instruction). encoded_spelled x c.args.out.now) c.to_bytes.ensures.1,
  c.encode_form.ensures.1 ∙ ap (λ (x : Option Instruction). left_spelled x c.args.out.now) c.to_bytes.ensures.1,
)
