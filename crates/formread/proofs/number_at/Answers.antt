use native.Mathlib.Omega.{arith}
use Rattle.formread.proofs.Reading.{word_number}
use Rattle.formread.proofs.number_at.Goals as goal

pub returns : goal.returns
returns c = word_number c.args.b.now c.args.k c.args.n c.word.result c.fits-b (omega arith) c.word.ensures
