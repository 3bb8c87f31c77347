-- Code that is too long is refused; else what stands at the address is what the rest of the code decodes to.
use mathlib.Core.Path.{ap, ◌∙◌}
use Prim.Native.Nat.{◌-◌, ◌≤◌}
use native.Mathlib.Omega.{arith}
use lib.ListN.{length, drop, length-drop}
use lib.Seq.{take_all}
use borrow.Author.Tests.{le-leb, lt-leb}
use Rattle.isa.specs.Decode.{decode_of}
use Rattle.walk.specs.Walk.{limit}
use Rattle.walk.proofs.decoded_at.Goals as goal

pub returns-then-code-gt-LIMIT : goal.returns-then-code-gt-LIMIT
returns-then-code-gt-LIMIT c = rw (lt-leb (length c.args.code.now) limit (omega arith))

pub returns : goal.returns
returns c =
    let a = c.args in
    let code = a.code.now in
    let t = le-leb (length code) limit (omega arith) in
    let e : length (drop a.at code) ≤ length code - a.at = rw length-drop (omega arith) in
    rw t (c.decode.ensures ∙ ap decode_of (take_all (length code - a.at) (drop a.at code) e))
