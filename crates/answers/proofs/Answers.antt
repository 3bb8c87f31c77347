-- The bytes of an answer.
use mathlib.Core.Path.{◌≡◌, sym, ap, ap₂, ◌∙◌}
use mathlib.Core.List.{List, [], ◌∷◌, ◌++◌}
use Prim.Native.Nat.{ℕ, ◌/◌, ◌%◌, ◌<◌}
use native.Mathlib.Omega.{arith}
use lib.ListN.{get_or}
use Rattle.bits.specs.Word.{bytes_of}
use Rattle.machine.specs.declared.answer.Answer.{Answer}
use Rattle.answers.specs.Run.{ending_number, refusal_number, answer_bytes}

abbrev at : List ℕ → ℕ → ℕ
at s k = get_or s k 0

-- a number of one byte, as four
one_byte : (n : ℕ) → n < 256 → bytes_of 4 n ≡ n ∷ 0 ∷ 0 ∷ 0 ∷ []
one_byte n h =
    let a : n % 256 ≡ n = omega arith in
    let b : n / 256 ≡ 0 = omega arith in
    rw (a, b)

-- the numbers of the ending and the refusal, and the bytes of the others, are the bytes of the answer
pub answer-is : (a : Answer) (e r : ℕ) (n m p : List ℕ) → e < 256 → r < 256 → e ≡ ending_number a.ending → r ≡ refusal_number a.ending
    → n ≡ bytes_of 8 a.steps → m ≡ bytes_of 8 a.mask → p ≡ bytes_of 8 a.address
    → e ∷ 0 ∷ 0 ∷ 0 ∷ r ∷ 0 ∷ 0 ∷ 0 ∷ at n 0 ∷ at n 1 ∷ at n 2 ∷ at n 3 ∷ at m 0 ∷ at m 1 ∷ at m 2 ∷ at m 3
    ∷ at p 0 ∷ at p 1 ∷ at p 2 ∷ at p 3 ∷ at p 4 ∷ at p 5 ∷ at p 6 ∷ at p 7 ∷ []
    ≡ answer_bytes a
answer-is a e r n m p he hr ee er en em ep =
    rw (en, em, ep)
    (ap₂ (λ (x y : List ℕ). x ++ y ++ bytes_of 4 a.steps ++ bytes_of 4 a.mask ++ bytes_of 8 a.address)
    (sym (one_byte e he) ∙ ap (bytes_of 4) ee)
    (sym (one_byte r hr) ∙ ap (bytes_of 4) er))
