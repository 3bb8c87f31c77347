-- The truth tables of a bit operation that document 002 leaves undefined: those of b and of its complement.
use Rattle.std.specs.Prelude.{ℕ, Bool, not, eqb}
use Rattle.machine.specs.Meaning.{both}

-- tt0 == tt1 and tt2 == tt3 and tt0 != tt2
abbrev pub is_undefined : ℕ → ℕ → ℕ → ℕ → Bool
is_undefined tt0 tt1 tt2 tt3 = both (eqb tt0 tt1) (both (eqb tt2 tt3) (not (eqb tt0 tt2)))
