-- Each number of the change request has a refusal of a row, and that refusal has this number.
use mathlib.Core.Path.{◌≡◌, refl}
use mathlib.Core.List.{[], ◌∷◌, map}
use Prim.Native.Nat.{ℕ}
use Rattle.hexrow.specs.Row.{fault_number, fault}
use Rattle.hexrow.specs.declared.Fault.{Fault}

pub fault-numbers : map (λ (n : ℕ). fault_number (fault n)) (12 ∷ 13 ∷ 14 ∷ []) ≡ 12 ∷ 13 ∷ 14 ∷ []
fault-numbers = refl

-- no refusal is without one
pub of_number : (f : Fault) → fault (fault_number f) ≡ f
of_number Fault.Form = refl
of_number Fault.Sum = refl
of_number Fault.Order = refl
