-- Address and `end`, put one after the other, are the last line.
use mathlib.Core.Path.{refl, ◌∙◌}
use mathlib.Core.List.{◌++◌}
use Prim.Native.Nat.{◌+◌}
use Rattle.isa.specs.Text.{ascii}
use Rattle.lines.specs.Line.{end_line}
use Rattle.digits.specs.Digits.{hex_address}
use Rattle.bits.proofs.Pieces.{after}
use Rattle.lines.proofs.put_end.Goals as goal

pub returns : goal.returns
unfolding end_line
returns c =
    c.put.ensures
    ∙ after (hex_address c.args.at ++ ascii " ") (ascii "end\n") (end_line c.args.at) c.args.text.now c.put_address.new.text c.args.n (c.args.n + 5)
    c.put_address.ensures refl refl
