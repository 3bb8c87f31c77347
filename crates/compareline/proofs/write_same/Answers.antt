use mathlib.Core.Path.{refl}
use Rattle.isa.specs.Text.{ascii}
use Rattle.compareline.proofs.Left.{no_room, room}
use Rattle.compareline.proofs.write_same.Goals as goal

pub returns-then-text-lt4 : goal.returns-then-text-lt4
returns-then-text-lt4 c = no_room (ascii "same") c.args.text.now c.if-text-lt4.true

pub returns : goal.returns
returns c =
    room (ascii "same") c.args.text.now _ 4 refl c.if-text-lt4.false c.put.ensures
