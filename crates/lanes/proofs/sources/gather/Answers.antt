-- The three rows that were lent become those of the three sources, one after the other.
use Rattle.lanes.specs.Sources.{lent}
use Rattle.lanes.proofs.Bounds.{gathered}
use Rattle.lanes.proofs.sources.gather.Goals as goal

pub returns : goal.returns
returns c =
    gathered (lent c.args.uniforms.now c.args.specials.now) c.args.registers.now c.args.sources.now
    c.input.new.row c.input-2.new.row c.input-3.new.row c.args.a c.args.b c.args.c
    c.requires.0 c.input.ensures c.input-2.ensures c.input-3.ensures
