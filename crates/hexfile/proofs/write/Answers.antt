-- The text is measured first: where it fits it is written at the start, else what stood there is kept.
use Rattle.std.specs.Prelude.{Some}
use mathlib.Core.Path.{refl, sym, ap, ◌∙◌}
use Prim.Native.Nat.{◌≤◌}
use native.Mathlib.Omega.{arith}
use lib.ListN.{length}
use borrow.Author.Tests.{le-leb, lt-leb}
use Rattle.bits.proofs.Pieces.{put_first}
use Rattle.hexfile.specs.Read.{limit}
use Rattle.hexwrite.specs.Write.{hex_of}
use Rattle.hexwrite.proofs.Written.{length_hex}
use Rattle.hexfile.proofs.write.Goals as goal

pub returns-then-code-gt-LIMIT : goal.returns-then-code-gt-LIMIT
returns-then-code-gt-LIMIT c =
    let t = lt-leb (length c.args.code.now) limit c.if-code-gt-LIMIT.true in
    (rw t, rw t)

pub returns-then-text-n : goal.returns-then-text-n
returns-then-text-n c =
    let all = hex_of c.args.code.now in
    let t = le-leb (length c.args.code.now) limit c.if-code-gt-LIMIT.false in
    let u = lt-leb (length all) (length c.args.text.now) (omega (arith, length_hex c.args.code.now, c.size-n.ensures)) in
    (rw (t, u), rw (t, u))

pub put_rows-requires : goal.put_rows-requires
put_rows-requires c =
    (omega arith, omega (arith, length_hex c.args.code.now, c.size-n.ensures))

pub returns : goal.returns
returns c =
    let all = hex_of c.args.code.now in
    let t = le-leb (length c.args.code.now) limit c.if-code-gt-LIMIT.false in
    let h : length all ≤ length c.args.text.now = omega (arith, length_hex c.args.code.now) in
    let u = le-leb (length all) (length c.args.text.now) h in (
      rw (t, u) (ap Some (c.size-n.ensures ∙ sym (length_hex c.args.code.now))),
      rw (t, u) (c.put_rows.ensures ∙ put_first c.args.text.now all (length all) refl h),
    )
