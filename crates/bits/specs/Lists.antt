-- Whether two lists of numbers are equal: what `==` answers.
use Rattle.std.specs.Prelude.{ℕ, Bool, List, eqb}
use Rattle.std.specs.Cmp.Lexicographic.{pointwise}

abbrev pub eq_list : List ℕ → List ℕ → Bool
eq_list a b = pointwise eqb a b
