use Rattle.std.proofs.Common.{◌∙◌}
use Rattle.answers.proofs.Numbers.{handed_on}
use Rattle.decodeat.proofs.Decoding.{small, as_number}
use Rattle.decodeat.proofs.decode_at.Goals as goal

pub encoded-requires : goal.encoded-requires
encoded-requires c = small _ _ _ _ _ c.decode_into.ensures

pub returns : goal.returns
returns c =
    as_number c.args.code.now (λ j. (c.type_inv.code j).fits) _ _ _ _ _ c.decode_into.ensures
    (handed_on c.encoded.result c.encoded.type_inv ∙ c.encoded.ensures)
