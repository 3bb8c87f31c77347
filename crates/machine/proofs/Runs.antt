-- Laws of a run: what holds of every run, and what follows of its steps, the state it leaves and how it ends.
use mathlib.Core.Path.{◌≡◌, refl, ap}
use mathlib.Core.Bool.{Bool, true, false, cond}
use mathlib.Core.List.{List, [], ◌∷◌}
use Prim.Native.Nat.{ℕ, zero, suc, ◌^◌, ◌≤◌, ◌<◌}
use native.Mathlib.Omega.{arith}
use borrow.Author.Tests.{eqb-true, eqb-false, ne_eqb}
use lib.Dec.{eqb}
use lib.ListN.{length}
use Rattle.isa.specs.Refusal.{refusal}
use Rattle.isa.specs.declared.answer.Refusal.{Refusal}
use Rattle.machine.specs.Words.{Tables}
use Rattle.machine.specs.Meaning.{meaning_of}
use Rattle.machine.specs.State.{State}
use Rattle.machine.specs.Step.{Step, Stepped, accepted, refused, step_of}
use Rattle.machine.specs.Run.{Call, arranged, Run, ends, after, on_stepped, run_from, tables_of, start_of, run_of}
use Rattle.machine.specs.declared.answer.Ending.{Ending}
use Rattle.machine.proofs.Steps.{Numbered, step_made, step-numbered, mask-after}

-- ---- every run

-- what holds where a run ends, and of an accepted step with a run after it, holds of every run
module _ (code : List ℕ) (tables : Tables) (P : ℕ → State → Run → Type 0)
    (finishes : (n : ℕ) (s : State) → s.address ≡ length code → P n s (ends Ending.Finished s))
    (spends : (s : State) → (s.address ≡ length code → ⊥) → P 0 s (ends Ending.Spent s))
    (refuses : (n : ℕ) (s : State) (r : Refusal) → (s.address ≡ length code → ⊥) → step_of code tables s ≡ refused r
    → P (suc n) s (ends (Ending.Refused r) s))
    (steps : (n : ℕ) (s : State) (step : Step) (rest : Run) → step_of code tables s ≡ accepted step
    → P n step.after rest → P (suc n) s (after step rest)) where
  goes : (n : ℕ) (s : State) (x : Stepped) → step_of code tables s ≡ x → (s.address ≡ length code → ⊥)
      → ((z : State) → P n z (run_from code tables n z)) → P (suc n) s (on_stepped x s (run_from code tables n))
  goes n s (accepted step) e ne ih = steps n s step (run_from code tables n step.after) e (ih step.after)
  goes n s (refused r) e ne ih = refuses n s r ne e

  pub every_run : (n : ℕ) (s : State) → P n s (run_from code tables n s)
  unfolding run_from
  every_run zero s = go (eqb s.address (length code)) refl
    where
      go : (b : Bool) → eqb s.address (length code) ≡ b → P 0 s (cond b (ends Ending.Finished s) (ends Ending.Spent s))
      go true e = finishes 0 s (eqb-true _ _ e)
      go false e = spends s (eqb-false _ _ e)
  every_run (suc n) s = go (eqb s.address (length code)) refl (λ ne. goes n s (step_of code tables s) refl ne (every_run n))
    where
      go : (b : Bool) → eqb s.address (length code) ≡ b
          → ((s.address ≡ length code → ⊥) → P (suc n) s (on_stepped (step_of code tables s) s (run_from code tables n)))
          → P (suc n) s (cond b (ends Ending.Finished s) (on_stepped (step_of code tables s) s (run_from code tables n)))
      go true e h = finishes (suc n) s (eqb-true _ _ e)
      go false e h = h (eqb-false _ _ e)

-- and of the run of every call, if it also holds where no run is made
module _ (c : Call) (P : ℕ → State → Run → Type 0)
    (finishes : (n : ℕ) (s : State) → s.address ≡ length c.code → P n s (ends Ending.Finished s))
    (spends : (s : State) → (s.address ≡ length c.code → ⊥) → P 0 s (ends Ending.Spent s))
    (refuses : (n : ℕ) (s : State) (r : Refusal) → (s.address ≡ length c.code → ⊥) → step_of c.code (tables_of c) s ≡ refused r
    → P (suc n) s (ends (Ending.Refused r) s))
    (steps : (n : ℕ) (s : State) (step : Step) (rest : Run) → step_of c.code (tables_of c) s ≡ accepted step
    → P n step.after rest → P (suc n) s (after step rest))
    (bad_size : arranged c ≡ false → P c.budget (start_of c) (ends (Ending.Refused (refusal 1)) (start_of c))) where
  pub every_call : P c.budget (start_of c) (run_of c)
  unfolding run_of
  every_call = go (arranged c) refl
    where
      go : (b : Bool) → arranged c ≡ b
          → P c.budget (start_of c)
          (cond b (run_from c.code (tables_of c) c.budget (start_of c)) (ends (Ending.Refused (refusal 1)) (start_of c)))
      go true e = every_run c.code (tables_of c) P finishes spends refuses steps c.budget (start_of c)
      go false e = bad_size e

-- ---- a refused instruction changes nothing

-- it ends the run in the state that it met
pub refused_changes_nothing : (code : List ℕ) (tables : Tables) (n : ℕ) (s : State) (r : Refusal) → (s.address ≡ length code → ⊥)
    → step_of code tables s ≡ refused r → run_from code tables (suc n) s ≡ ends (Ending.Refused r) s
unfolding run_from
refused_changes_nothing code tables n s r ne e = rw (ne_eqb s.address (length code) ne, e)

-- the state after the last step, or the given one where there is none
abbrev pub last_after : List Step → State → State
last_after [] s = s
last_after (step ∷ steps) s = last_after steps step.after

-- the state that a run leaves is the one after its last accepted step, or its start
pub last_state : (c : Call) → (run_of c).last ≡ last_after (run_of c).steps (start_of c)
last_state c =
    every_call c (λ n s r. r.last ≡ last_after r.steps s)
    (λ n s e. refl) (λ s ne. refl) (λ n s r ne e. refl) (λ n s step rest e ih. ih) (λ a. refl)

-- ---- the steps

-- the first step begins at the state, every other where the one before ended, and each is what the code makes of its beginning
abbrev pub Chained : List ℕ → Tables → State → List Step → Type 0
Chained code tables s [] = Unit {0}
Chained code tables s (step ∷ steps) =
    (step.before ≡ s) × (step_of code tables s ≡ accepted step) × Chained code tables step.after steps

pub chained : (c : Call) → Chained c.code (tables_of c) (start_of c) (run_of c).steps
chained c =
    every_call c (λ n s r. Chained c.code (tables_of c) s r.steps)
    (λ n s e. tt) (λ s ne. tt) (λ n s r ne e. tt)
    (λ n s step rest e ih. ((step_made (tables_of c) s c.code step e).before, e, ih)) (λ a. tt)

-- there are no more than the budget
pub steps-budget : (c : Call) → length (run_of c).steps ≤ c.budget
steps-budget c =
    every_call c (λ n s r. length r.steps ≤ n)
    (λ n s e. omega arith) (λ s ne. omega arith) (λ n s r ne e. omega arith) (λ n s step rest e ih. omega arith) (λ a. omega arith)

-- ---- how a run ends

-- finished at the end of the code; spent before it, with all of the budget; refused before it, with budget left, as the instruction
-- there is refused, with one of the numbers 2 to 7, or 10
abbrev pub Ended : List ℕ → Tables → ℕ → Ending → ℕ → State → Type 0
Ended code tables budget Ending.Finished steps last = last.address ≡ length code
Ended code tables budget Ending.Spent steps last = (last.address ≡ length code → ⊥) × (steps ≡ budget)
Ended code tables budget (Ending.Refused r) steps last =
    (last.address ≡ length code → ⊥) × (steps < budget) × (step_of code tables last ≡ refused r) × Numbered r

one_more : (code : List ℕ) (tables : Tables) (n k : ℕ) (e : Ending) (last : State) → Ended code tables n e k last
    → Ended code tables (suc n) e (suc k) last
one_more code tables n k Ending.Finished last h = h
one_more code tables n k Ending.Spent last h = (h.0, ap suc h.1)
one_more code tables n k (Ending.Refused r) last h = (h.0, omega arith, h.2, h.3)

pub ended : (c : Call) → arranged c ≡ true
    → Ended c.code (tables_of c) c.budget (run_of c).ending (length (run_of c).steps) (run_of c).last
ended c h =
    every_call c (λ n s r. Ended c.code (tables_of c) n r.ending (length r.steps) r.last)
    (λ n s e. e) (λ s ne. (ne, refl))
    (λ n s r ne e. (ne, omega arith, e, step-numbered (tables_of c) s c.code r e))
    (λ n s step rest e ih. one_more c.code (tables_of c) n (length rest.steps) rest.ending rest.last ih)
    (λ a. let z : ◌≡◌ {A = ℕ} 0 1 = cc in absurd (omega arith))

-- sizes that are not as they have to be are refused with 1, and no step is made
pub badly_arranged : (c : Call) → arranged c ≡ false → run_of c ≡ ends (Ending.Refused (refusal 1)) (start_of c)
unfolding run_of
badly_arranged c e = rw e

-- otherwise a run is refused with one of the numbers 2 to 7, or 10
pub refused-with : (c : Call) (r : Refusal) → arranged c ≡ true → (run_of c).ending ≡ Ending.Refused r → Numbered r
refused-with c r a e = (rw e at (ended c a)).3

-- ---- the mask

-- the mask that a run leaves has 32 bits
pub mask_left : (c : Call) → c.mask < 2 ^ 32 → (run_of c).last.threads.mask < 2 ^ 32
mask_left c =
    every_call c (λ n s r. s.threads.mask < 2 ^ 32 → r.last.threads.mask < 2 ^ 32)
    (λ n s e g. g) (λ s ne g. g) (λ n s r ne e g. g)
    (λ n s step rest e ih g.
    ih (rw (step_made (tables_of c) s c.code step e).after
    (mask-after (meaning_of step.instruction) (tables_of c) s.threads g)))
    (λ a g. g)
