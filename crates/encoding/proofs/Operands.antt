-- The fields of an operand from its numbers. Before the fields of an instruction they stand for its own, since the first field of
-- a name is the one that is found.
use mathlib.Core.List.{List, ◌∷◌}
use Rattle.encoding.specs.Write.{Named, ◌is◌, joined}
use Rattle.encoding.specs.declared.Numbers.{Numbers}

abbrev pub as_d : Numbers → List Named → List Named
as_d n fs = joined "Dx" "D" n.v ("Dt" is n.t ∷ fs)

abbrev pub as_a : Numbers → List Named → List Named
as_a n fs = joined "Ax" "A" n.v ("At" is n.t ∷ fs)

abbrev pub as_b : Numbers → List Named → List Named
as_b n fs = joined "Bx" "B" n.v ("Bt" is n.t ∷ fs)

abbrev pub as_c : Numbers → List Named → List Named
as_c n fs = joined "Cx" "C" n.v ("Ct" is n.t ∷ fs)
