use Rattle.decodeparts.proofs.Decoding.{by_parts}
use Rattle.decodeparts.proofs.decode_parts.Goals as goal

pub returns : goal.returns
returns c = by_parts c.args.code.now _ c.decode_with.ensures
