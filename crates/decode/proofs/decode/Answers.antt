use Rattle.decode.proofs.Decoding.{by_diagrams}
use Rattle.decode.proofs.decode.Goals as goal

pub returns : goal.returns
returns c = by_diagrams c.args.code.now _ c.decode_with.ensures
