-- Address and `refused` with the digit of the number, put one after the other, are the last line.
use mathlib.Core.Path.{◌≡◌, refl, ap, ◌∙◌}
use mathlib.Core.List.{◌∷◌, ◌++◌}
use Prim.Native.Nat.{ℕ, ◌+◌}
use native.Mathlib.Omega.{arith}
use lib.Seq.{sets}
use Rattle.isa.specs.Text.{ascii}
use Rattle.isa.specs.Refusal.{number_of}
use Rattle.lines.specs.Line.{refused_line}
use Rattle.digits.specs.Digits.{digit, hex_address}
use Rattle.bits.proofs.Pieces.{after}
use Rattle.isa.proofs.Numbers.{number_below}
use Rattle.lines.proofs.put_refused.Goals as goal

pub hex_digit-requires : goal.hex_digit-requires
hex_digit-requires c = omega (arith, number_below c.args.r)

pub returns : goal.returns
unfolding refused_line
returns c =
    let d = digit (number_of c.args.r) in
    let e : c.hex_digit.result ≡ d = c.hex_digit.ensures ∙ ap digit c.number.ensures in
    c.put.ensures
    ∙ ap (λ (y : ℕ). sets c.put_address.new.text (c.args.n + 5) (ascii "refused " ++ y ∷ ascii "\n")) e
    ∙ after (hex_address c.args.at ++ ascii " ") (ascii "refused " ++ d ∷ ascii "\n") (refused_line c.args.at c.args.r) c.args.text.now
    c.put_address.new.text c.args.n (c.args.n + 5) c.put_address.ensures refl refl
