-- The parts of what the word of a diagram says: of the instruction that is read, if it has a meaning.
use Rattle.std.specs.Prelude.{Option, Some, None}
use Rattle.isa.specs.Parts.{parts_of}
use Rattle.isa.specs.Answer.{Reading}
use Rattle.isa.specs.declared.parts.Parts.{Parts}

abbrev pub parts_read : Reading → Option Parts
parts_read (Some i) = Some (parts_of i)
parts_read None = None
