-- The refusal numbers: 1 to 9 from the table "Refusal numbers" of the statement of what to build, 10 from the change request on discard.
-- The definitions refuse by number.
use Rattle.std.specs.Prelude.{ℕ, cond, List, [], ◌∷◌, eqb}
use Rattle.isa.specs.declared.answer.Refusal.{Refusal}

abbrev pub number_of : Refusal → ℕ
number_of Refusal.BadSize = 1
number_of Refusal.CutShort = 2
number_of Refusal.NoDiagram = 3
number_of Refusal.NoMeaning = 4
number_of Refusal.NoRegister = 5
number_of Refusal.NoSpecial = 6
number_of Refusal.BadTarget = 7
number_of Refusal.NoEncoding = 8
number_of Refusal.ShortBuffer = 9
number_of Refusal.Discarded = 10

-- the first of some refusals that has the number n; the last, where none has
abbrev first_with : ℕ → Refusal → List Refusal → Refusal
first_with n r [] = r
first_with n r (q ∷ qs) = cond (eqb (number_of r) n) r (first_with n q qs)

-- the refusal that has the number n, 1 to 10
abbrev pub refusal : ℕ → Refusal
refusal n =
    first_with n Refusal.BadSize
    (Refusal.CutShort ∷ Refusal.NoDiagram ∷ Refusal.NoMeaning ∷ Refusal.NoRegister ∷ Refusal.NoSpecial ∷ Refusal.BadTarget
    ∷ Refusal.NoEncoding ∷ Refusal.ShortBuffer ∷ Refusal.Discarded ∷ [])
