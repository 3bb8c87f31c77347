-- Address, bytes and the end of the line, put one after the other, are the line.
use mathlib.Core.Path.{refl, ◌∙◌}
use mathlib.Core.List.{◌++◌}
use Prim.Native.Nat.{◌+◌, ◌*◌}
use native.Mathlib.Omega.{arith}
use lib.ListN.{length}
use Rattle.isa.specs.Text.{ascii}
use Rattle.lines.specs.Line.{tail_at, line_at}
use Rattle.digits.specs.Digits.{hex_address, hex_bytes}
use Rattle.bits.proofs.Pieces.{after}
use Rattle.digits.proofs.Digits.{length-hex_bytes}
use Rattle.lines.proofs.put_line.Goals as goal

pub returns : goal.returns
unfolding line_at
returns c =
    let address = hex_address c.args.at ++ ascii " " in
    let m = c.args.n + 5 + 2 * length c.args.bytes.now in
    let l = length-hex_bytes c.args.bytes.now in
    let e = after address (hex_bytes c.args.bytes.now) (address ++ hex_bytes c.args.bytes.now) c.args.text.now c.put_address.new.text c.args.n (c.args.n + 5) c.put_address.ensures refl refl in
    c.put_tail.ensures
    ∙ after (address ++ hex_bytes c.args.bytes.now) (tail_at c.args.place) (line_at c.args.at c.args.bytes.now c.args.place) c.args.text.now c.put_bytes.new.text c.args.n m
    (c.put_bytes.ensures ∙ e) (omega arith) refl
