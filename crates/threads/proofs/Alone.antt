-- Visits, seen from one thread: they are its own visits alone, and these go through the steps.
use mathlib.Core.Path.{◌≡◌, refl, sym, ap, ap₂, ◌∙◌}
use mathlib.Core.Bool.{Bool, true, false, cond}
use mathlib.Core.List.{List, [], ◌∷◌, ◌++◌, map, append_assoc}
use Prim.Native.Nat.{ℕ, suc, ◌-◌, ◌<◌}
use native.Mathlib.Omega.{arith}
use borrow.Author.Tests.{eqb-true, eqb-false}
use lib.Dec.{eqb}
use lib.ListN.{length, get_or, length-append}
use lib.Seq.{get_or_at}
use Rattle.isa.specs.declared.instruction.Instruction.{Instruction}
use Rattle.machine.specs.Words.{Tables}
use Rattle.machine.specs.Meaning.{meaning_of}
use Rattle.machine.specs.State.{Threads}
use Rattle.machine.specs.Run.{Call, run_of, tables_of}
use Rattle.threads.specs.Visit.{Visit, visit_thread, instructions_of, numbered, perform, All}
use Rattle.threads.proofs.Sorted.{mine, from}
use Rattle.threads.proofs.Project.{Agree, agree_trans, visit_agree, visit-other}

-- thread t alone, through a list of instructions
unfoldable pub alone : Tables → ℕ → List Instruction → Threads → Threads
alone tables t [] s = s
alone tables t (i ∷ is) s = alone tables t is (visit_thread (meaning_of i) tables t s)

-- the instructions of some step numbers
abbrev pub numbers : List Instruction → List ℕ → List Instruction
numbers is = map (numbered is)

module _ (c : Call) (t : ℕ) (h : t < 32) where
  abbrev own : List Visit → Threads → Threads
  own vs = alone (tables_of c) t (numbers (instructions_of (run_of c).steps) (mine t vs))

  pub perform-alone : (vs : List Visit) → All (λ v. v.thread < 32) vs → (s z : Threads) → Agree t s z
      → Agree t (perform c vs s) (own vs z)
  unfolding perform alone mine
  perform-alone [] a s z g = g
  perform-alone (v ∷ vs) a s z g = go (eqb v.thread t) refl (perform-alone vs a.1)
    where
      i : Instruction
      i = numbered (instructions_of (run_of c).steps) v.step

      go : (b : Bool) → eqb v.thread t ≡ b → ((x y : Threads) → Agree t x y → Agree t (perform c vs x) (own vs y))
          → Agree t (perform c vs (visit_thread (meaning_of i) (tables_of c) v.thread s))
          (alone (tables_of c) t (numbers (instructions_of (run_of c).steps) (cond b (v.step ∷ mine t vs) (mine t vs))) z)
      go true e ih =
          let q : v.thread ≡ t = eqb-true _ _ e in
          rw q (ih _ _ (visit_agree (meaning_of i) (tables_of c) t h s z g))
      go false e ih = ih _ z (agree_trans (visit-other (meaning_of i) (tables_of c) v.thread t a.0 h (eqb-false _ _ e) s) g)

-- the numbers 1, 2, .. n are those of the whole list; here of what stands after some others
after-numbers : (p is : List Instruction) → numbers (p ++ is) (from (length p) (length is)) ≡ is
unfolding from
after-numbers p [] = refl
after-numbers p (i ∷ is) =
    let k : suc (length p) - 1 ≡ length p = omega arith in
    let q : p ++ (i ∷ is) ≡ (p ++ (i ∷ [])) ++ is = sym (append_assoc p (i ∷ []) is) in
    let n : suc (length p) ≡ length (p ++ (i ∷ [])) = omega (arith, length-append p (i ∷ [])) in
    ap₂ ◌∷◌
    (ap (λ (j : ℕ). get_or (p ++ (i ∷ is)) j (Instruction.JmpExecAny 0)) k ∙ get_or_at p i is (Instruction.JmpExecAny 0) (length p) refl)
    (ap₂ (λ (l : List Instruction) (y : ℕ). numbers l (from y (length is))) q n ∙ after-numbers (p ++ (i ∷ [])) is)

pub all-numbers : (is : List Instruction) → numbers is (from 0 (length is)) ≡ is
all-numbers is = after-numbers [] is
