use mathlib.Core.Path.{sym}
use native.Mathlib.Omega.{arith}
use Rattle.encode.proofs.Steps.{length_eight, unaccepted, short, written}
use Rattle.encode.proofs.encode.Goals as goal

pub slice_bounds-decode-end : goal.slice_bounds-decode-end
slice_bounds-decode-end c = sym (length_eight _ _ _ c.bytes_of-b.ensures c.length_of-n.ensures.1)

pub put-requires : goal.put-requires
put-requires c = rw (length_eight _ _ _ c.bytes_of-b.ensures c.length_of-n.ensures.1) (omega arith)

pub returns-then-not-accepted : goal.returns-then-not-accepted
returns-then-not-accepted c =
    unaccepted c.args.i _ _ _ _ _ _ c.parts_of.ensures c.length_of-n.ensures c.word_for.ensures c.bytes_of-b.ensures c.decode.ensures c.is_found-accepted.ensures
    c.if-not-accepted.true c.args.out.now

pub returns-then-out-n : goal.returns-then-out-n
returns-then-out-n c =
    short c.args.i _ _ _ _ _ _ c.parts_of.ensures c.length_of-n.ensures c.word_for.ensures c.bytes_of-b.ensures c.decode.ensures c.is_found-accepted.ensures
    c.if-not-accepted.false c.args.out.now c.if-out-n.true

pub returns : goal.returns
returns c =
    written c.args.i _ _ _ _ _ _ c.parts_of.ensures c.length_of-n.ensures c.word_for.ensures c.bytes_of-b.ensures c.decode.ensures c.is_found-accepted.ensures
    c.if-not-accepted.false c.args.out.now c.put.new.out c.if-out-n.false c.put.ensures
