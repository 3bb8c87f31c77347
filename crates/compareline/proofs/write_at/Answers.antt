-- The address and the words, put one after the other, are the line.
use Prim.Native.Nat.{◌+◌}
use native.Mathlib.Omega.{arith}
use lib.ListN.{length}
use Rattle.comparison.specs.AnswerLine.{at_address}
use Rattle.compareline.proofs.Left.{room, put_both}
use Rattle.compareline.proofs.write_at.Goals as goal

pub returns : goal.returns
returns c =
    let words = c.args.words.now in
    room (at_address c.args.at words) c.args.text.now _ (5 + length words) (omega arith) c.if-text-n.false
    (put_both c.args.at words c.args.text.now c.put_address.new.text _ c.put_address.ensures c.put.ensures)
