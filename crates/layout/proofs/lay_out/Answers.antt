use mathlib.Core.Path.{refl, ◌∙◌}
use Rattle.bits.proofs.Laws.{bytes_of_4, bytes_of_8}
use Rattle.layout.proofs.lay_out.Goals as goal

pub returns : goal.returns
returns c =
    rw (
      c.to_le_bytes-d.ensures,
      c.to_le_bytes-a.ensures,
      c.to_le_bytes-b.ensures,
      c.to_le_bytes-c.ensures,
      c.to_le_bytes-immediate.ensures ∙ bytes_of_4 c.args.p.immediate,
      c.to_le_bytes-kept.ensures ∙ bytes_of_8 c.args.p.kept,
    ) refl
