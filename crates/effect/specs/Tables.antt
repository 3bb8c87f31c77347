-- The tables that are lent to a step.
use Rattle.machine.specs.Words as words
use Rattle.lanes.specs.Sources.{lent}
use Rattle.effect.specs.declared.Tables.{Tables}

abbrev pub tables_of : Tables → words.Tables
tables_of t = lent t.uniforms.now t.specials.now
