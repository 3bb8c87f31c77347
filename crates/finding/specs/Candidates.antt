-- The rows of a table that a word can match by its lowest seven bits: from the first whose fixed bits among them agree to the last.
use Rattle.std.specs.Prelude.{ℕ, suc, Bool, cond, List, [], ◌∷◌, eqb}
use Rattle.rows.specs.declared.Row.{Row}
use Rattle.finding.specs.First.{agrees_with}
use Rattle.std.specs.declared.ops.Range.{Range}

abbrev pub low_agrees : ℕ → Row → Bool
low_agrees low r = agrees_with 127 r low

-- the place of the first that agrees; past the end where none does
abbrev pub first_in : ℕ → List Row → ℕ
first_in low [] = 0
first_in low (r ∷ rs) = cond (low_agrees low r) 0 (suc (first_in low rs))

-- the place after the last that agrees; 0 where none does
abbrev pub end_in : ℕ → List Row → ℕ
end_in low [] = 0
end_in low (r ∷ rs) = cond (eqb (end_in low rs) 0) (cond (low_agrees low r) 1 0) (suc (end_in low rs))

abbrev pub candidates_of : ℕ → List Row → Range ℕ
candidates_of low rs = record { start = first_in low rs; end = end_in low rs }
