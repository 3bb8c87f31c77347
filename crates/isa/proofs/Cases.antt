-- The cases of decoding: an instruction that was read by the diagram that was found, or one of the refusals 2, 3 and 4.
use Rattle.std.proofs.Common.{Some, None, Ok, Err}
use mathlib.Core.Path.{◌≡◌, refl, subst}
use mathlib.Core.Bool.{Bool, true, false}
use mathlib.Core.List.{List}
use mathlib.Core.Option.{Option, none, some}
use Prim.Native.Nat.{ℕ, ◌≤◌}
use native.Mathlib.Omega.{arith}
use lib.Dec.{lit≤}
use lib.ListN.{take}
use Rattle.bits.specs.Word.{le}
use Rattle.isa.specs.Refusal.{number_of, refusal}
use Rattle.isa.specs.Find.{Form, forms, best_of, any_goes_on, found, find_of}
use Rattle.isa.specs.Decode.{read_at, decoded_of, read_found, decode_of}
use Rattle.isa.specs.declared.answer.Refusal.{Refusal}
use Rattle.isa.specs.Answer.{Find}
use Rattle.isa.specs.Answer.{Reading}
use Rattle.isa.specs.Answer.{Decoded}
use Rattle.isa.specs.declared.instruction.Instruction.{Instruction}

-- finding refuses with 2 or 3
abbrev FindNumbered : Find → Type 0
FindNumbered (Ok (p, n)) = Unit {0}
FindNumbered (Err r) = (2 ≤ number_of r) × (number_of r ≤ 3)

find_numbered : (b : Option Form) (more : Bool) → FindNumbered (found b more)
find_numbered (some f) more = tt
find_numbered none true = (lit≤ tt, lit≤ tt)
find_numbered none false = (lit≤ tt, lit≤ tt)

pub find_refused_with : (s : List ℕ) (r : Refusal) → find_of s ≡ Err r → (2 ≤ number_of r) × (number_of r ≤ 3)
find_refused_with s r e = subst FindNumbered e (find_numbered (best_of forms s none) (any_goes_on forms s))

module _ (P : Decoded → Type 0) (s : List ℕ)
    (decoded : (p n : ℕ) (i : Instruction) → find_of s ≡ Ok (p, n) → read_at p (le (take n s)) ≡ Some i → P (Ok (i, n)))
    (refused : (r : Refusal) → 2 ≤ number_of r → number_of r ≤ 4 → P (Err r)) where
  of_reading : (p n : ℕ) → find_of s ≡ Ok (p, n) → (r : Reading) → read_at p (le (take n s)) ≡ r → P (decoded_of r n)
  of_reading p n f (Some i) e = decoded p n i f e
  of_reading p n f None e = refused (refusal 4) (lit≤ tt) (lit≤ tt)

  of_find : (f : Find) → find_of s ≡ f → P (read_found f s)
  of_find (Ok (p, n)) e = of_reading p n e (read_at p (le (take n s))) refl
  of_find (Err r) e =
      let h = find_refused_with s r e in
      refused r h.0 (omega (arith, h.1))

  pub cases : P (decode_of s)
  unfolding decode_of
  cases = of_find (find_of s) refl

abbrev Numbered : Decoded → Type 0
Numbered (Ok (i, n)) = Unit {0}
Numbered (Err r) = (2 ≤ number_of r) × (number_of r ≤ 4)

-- decoding refuses with 2, 3 or 4, and with nothing else
pub refused-with : (s : List ℕ) (r : Refusal) → decode_of s ≡ Err r → (2 ≤ number_of r) × (number_of r ≤ 4)
refused-with s r e = subst Numbered e (cases Numbered s (λ p n i f g. tt) (λ x a b. (a, b)))
