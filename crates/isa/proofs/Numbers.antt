-- Each refusal number has a refusal, and that refusal has this number.
use mathlib.Core.Path.{◌≡◌, refl}
use mathlib.Core.List.{List, [], ◌∷◌, map}
use Prim.Native.Nat.{ℕ, ◌<◌}
use lib.Dec.{lit<}
use Rattle.isa.specs.Refusal.{number_of, refusal}
use Rattle.isa.specs.declared.answer.Refusal.{Refusal}

abbrev one_to_ten : List ℕ
one_to_ten = 1 ∷ 2 ∷ 3 ∷ 4 ∷ 5 ∷ 6 ∷ 7 ∷ 8 ∷ 9 ∷ 10 ∷ []

pub refusal-numbers : map (λ (n : ℕ). number_of (refusal n)) one_to_ten ≡ one_to_ten
refusal-numbers = refl

-- no refusal is without one
pub of_number : (r : Refusal) → refusal (number_of r) ≡ r
of_number Refusal.BadSize = refl
of_number Refusal.CutShort = refl
of_number Refusal.NoDiagram = refl
of_number Refusal.NoMeaning = refl
of_number Refusal.NoRegister = refl
of_number Refusal.NoSpecial = refl
of_number Refusal.BadTarget = refl
of_number Refusal.NoEncoding = refl
of_number Refusal.ShortBuffer = refl
of_number Refusal.Discarded = refl

-- and each is one hexadecimal digit
pub number_below : (r : Refusal) → number_of r < 16
number_below Refusal.BadSize = lit< tt
number_below Refusal.CutShort = lit< tt
number_below Refusal.NoDiagram = lit< tt
number_below Refusal.NoMeaning = lit< tt
number_below Refusal.NoRegister = lit< tt
number_below Refusal.NoSpecial = lit< tt
number_below Refusal.BadTarget = lit< tt
number_below Refusal.NoEncoding = lit< tt
number_below Refusal.ShortBuffer = lit< tt
number_below Refusal.Discarded = lit< tt
