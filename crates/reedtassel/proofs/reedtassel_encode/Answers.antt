use Rattle.reedtassel.proofs.Encoding.{count_small}
use Rattle.reedtassel.proofs.reedtassel_encode.Goals as goal

pub encoded-requires : goal.encoded-requires
encoded-requires c = count_small _ _ _ c.encode_form.ensures.0
