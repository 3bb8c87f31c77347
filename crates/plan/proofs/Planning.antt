-- From what finding and reading answer to the plan of what the bytes decode to.
use mathlib.Core.Path.{◌≡◌, refl, sym, subst, ap, ◌∙◌}
use mathlib.Core.List.{List, []}
use Prim.Native.Nat.{ℕ, ◌-◌}
use native.Mathlib.Nat.{le_of_eq, le_refl}
use lib.Dec.{lit<}
use lib.ListN.{length, take, drop, length-drop, drop_of_length-le}
use lib.Seq.{take_all}
use Rattle.std.specs.Prelude.{Result, Ok, Err, Some, None}
use Rattle.std.specs.Option.{ok_or}
use Rattle.isa.specs.Decode.{decoded_of, decode_of}
use Rattle.isa.specs.Refusal.{refusal}
use Rattle.isa.specs.Answer.{Reading, Decoded}
use Rattle.isa.specs.declared.instruction.Instruction.{Instruction}
use Rattle.isa.specs.declared.answer.Refusal.{Refusal}
use Rattle.finding.proofs.Candidates.{none_lent}
use Rattle.decode.proofs.Decoding as decoding
use Rattle.plan.specs.Plan.{Does, Says, Planned, refused_with}
use Rattle.plan.specs.declared.Task.{Task}

-- what is said of one answer is said of an equal one
pub says_of_same : {d e : Decoded} (t : Result Task Refusal) → d ≡ e → Says d t → Says e t
says_of_same {d} {e} t q = subst (λ (x : Decoded). Says x t) q

-- ---- what was read, with the length that was found

pub was_read : (o : Reading) (i : Instruction) → ◌≡◌ {A = Result Instruction Refusal} (Ok i) (ok_or o Refusal.NoMeaning) → o ≡ Some i
was_read (Some j) i e = let z : j ≡ i = cc in ap (λ (x : Instruction). Some x) z
was_read None i e = cc

pub says_task : (o : Reading) (n : ℕ) (i : Instruction) (t : Task) → ◌≡◌ {A = Result Instruction Refusal} (Ok i) (ok_or o Refusal.NoMeaning)
    → Does t i n → Says (decoded_of o n) (Ok t)
says_task (Some j) n i t e w = let z : i ≡ j = cc in subst (λ (x : Instruction). Does t x n) z w
says_task None n i t e w = let z : ⊥ = cc in absurd z

pub says_refusal : (o : Reading) (n : ℕ) (r : Refusal) → ◌≡◌ {A = Result Instruction Refusal} (Err r) (ok_or o Refusal.NoMeaning)
    → Says (decoded_of o n) (Err r)
says_refusal (Some i) n r e = cc
says_refusal None n r e = cc

-- ---- the code that is lent

-- the code from an address on, as it is lent
pub rest : (code : List ℕ) (address : ℕ) → take (length code - address) (drop address code) ≡ drop address code
rest code address = take_all (length code - address) (drop address code) (le_of_eq (length-drop address code))

-- nothing is lent at the end of the code
pub plan_of_end : (code : List ℕ) → Planned (decode_of (drop (length code) code)) (length code) (refused_with (refusal 2) (length code))
plan_of_end code =
    record {
      here = refl;
      says =
          says_of_same (Err (refusal 2))
          (decoding.decoded [] (λ j. lit< tt) 0 0 refl refl (Err (refusal 2)) (sym (none_lent 0 0 refl (lit< tt)))
          ∙ ap decode_of (sym (drop_of_length-le code {i = length code} (le_refl (length code)))))
          refl;
    }
