-- Laws of one step: an accepted step begins at the state and does to its threads what its instruction means; a refused one has one of
-- the numbers 2 to 7, or 10.
use mathlib.Core.Path.{◌≡◌, refl, sym, subst}
use mathlib.Core.Bool.{Bool, true, false, cond}
use mathlib.Core.List.{List}
use mathlib.Core.Logic.{◌⊎◌, inl, inr}
use Prim.Native.Nat.{ℕ, ◌+◌, ◌*◌, ◌%◌, ◌^◌, ◌≤◌, ◌<◌}
use native.Mathlib.Omega.{arith}
use lib.Dec.{eqb, leb, lit≤}
use lib.ListN.{length, drop}
use lib.IntN.{ℤ, pos, negsuc, ◌+ℤ◌}
use Rattle.isa.specs.Refusal.{number_of, refusal}
use Rattle.isa.specs.declared.answer.Refusal.{Refusal}
use Rattle.isa.specs.declared.instruction.Instruction.{Instruction}
use Rattle.isa.proofs.Cases.{cases}
use Rattle.machine.specs.Words.{Tables}
use Rattle.machine.specs.Meaning.{Meaning, writes, masks, jumps, meaning_of, both}
use Rattle.machine.specs.State.{Threads, State}
use Rattle.machine.specs.Marks.{reads_marked, discards_of, clears_of, mark_after, marks_after}
use Rattle.machine.specs.Step.{Going, to, nowhere, taken, landing, going_of, go_to, Step, Stepped, accepted, refused}
use Rattle.machine.specs.Step.{mask_all, threads_after, registers_reach, specials_reach, step_by, step_of}
use Rattle.machine.proofs.Masks.{pack_lt}
use Rattle.machine.proofs.Marks.{each-kept}

pub record Made (tables : Tables) (s : State) (step : Step) : Type 0 where
  pub before : step.before ≡ s
  pub after : step.after.threads ≡ threads_after (meaning_of step.instruction) tables s.threads

abbrev pub Numbered : Refusal → Type 0
Numbered r = ((2 ≤ number_of r) × (number_of r ≤ 7)) ⊎ (number_of r ≡ 10)

abbrev AsStepped : Tables → State → Stepped → Type 0
AsStepped tables s (accepted step) = Made tables s step
AsStepped tables s (refused r) = Numbered r

numbered : (r : Refusal) → 2 ≤ number_of r → number_of r ≤ 7 → Numbered r
numbered r a b = inl (a, b)

abbrev Somewhere : Going → Type 0
Somewhere (to address class) = Unit {0}
Somewhere (nowhere r) = Numbered r

landed : (code_length : ℕ) (z : ℤ) → Somewhere (landing code_length z)
landed code_length (pos target) = go (both (eqb (target % 2) 0) (leb target code_length))
  where
    go : (b : Bool) → Somewhere (cond b (to target 4) (nowhere (refusal 7)))
    go true = tt
    go false = numbered (refusal 7) (lit≤ tt) (lit≤ tt)
landed code_length (negsuc below) = numbered (refusal 7) (lit≤ tt) (lit≤ tt)

goes_somewhere : (m : Meaning) (code_length bytes address mask : ℕ) → Somewhere (going_of m code_length bytes address mask)
unfolding going_of
goes_somewhere (writes d a b c result) code_length bytes address mask = tt
goes_somewhere (masks compares a b result) code_length bytes address mask = tt
goes_somewhere (jumps any offset) code_length bytes address mask = go (taken any mask)
  where
    go : (b : Bool) → Somewhere (cond b (landing code_length (pos address +ℤ offset)) (to (address + bytes) 3))
    go true = landed code_length (pos address +ℤ offset)
    go false = tt

module _ (tables : Tables) (s : State) where
  gone : (g : Going) (i : Instruction) (bytes : ℕ) → Somewhere g → AsStepped tables s (go_to g i bytes tables s)
  gone (to address class) i bytes h = record { before = refl; after = refl }
  gone (nowhere r) i bytes h = h

  held : (a b c : Bool) (x : Stepped) → AsStepped tables s x
      → AsStepped tables s (cond a (cond b (cond c (refused (refusal 10)) x) (refused (refusal 6))) (refused (refusal 5)))
  held true true true x h = inr refl
  held true true false x h = h
  held true false c x h = numbered (refusal 6) (lit≤ tt) (lit≤ tt)
  held false b c x h = numbered (refusal 5) (lit≤ tt) (lit≤ tt)

  as_stepped : (code : List ℕ) → AsStepped tables s (step_of code tables s)
  unfolding step_of step_by
  as_stepped code =
      cases (λ d. AsStepped tables s (step_by d (length code) tables s)) (drop s.address code)
      (λ p n i f e.
      held (leb (32 * registers_reach (meaning_of i)) (length s.threads.registers))
      (leb (32 * specials_reach (meaning_of i)) (length tables.specials))
      (reads_marked (meaning_of i) s.threads)
      (go_to (going_of (meaning_of i) (length code) n s.address s.threads.mask) i n tables s)
      (gone (going_of (meaning_of i) (length code) n s.address s.threads.mask) i n
      (goes_somewhere (meaning_of i) (length code) n s.address s.threads.mask)))
      (λ r a b. numbered r a (omega arith))

  pub step_made : (code : List ℕ) (step : Step) → step_of code tables s ≡ accepted step → Made tables s step
  step_made code step e = subst (AsStepped tables s) e (as_stepped code)

  pub step-numbered : (code : List ℕ) (r : Refusal) → step_of code tables s ≡ refused r → Numbered r
  step-numbered code r e = subst (AsStepped tables s) e (as_stepped code)

-- ---- the marks

-- a jump marks nothing and clears nothing
pub jump-marks : (any : Bool) (offset : ℤ) (mask : ℕ) (l : List ℕ) → marks_after (jumps any offset) mask l ≡ l
unfolding marks_after mark_after discards_of clears_of
jump-marks any offset mask l = each-kept (mark_after (jumps any offset) mask) l (λ h t x. refl)

pub marks-after : (m : Meaning) (tables : Tables) (s : Threads) → (threads_after m tables s).marks ≡ marks_after m s.mask s.marks
unfolding threads_after mask_all
marks-after (writes d a b c result) tables s = refl
marks-after (masks compares a b result) tables s = refl
marks-after (jumps any offset) tables s = sym (jump-marks any offset s.mask s.marks)

-- a target outside of the code is a jump's, so no mark is changed
pub nowhere-marks : (m : Meaning) (code_length bytes address mask : ℕ) (r : Refusal) (l : List ℕ)
    → going_of m code_length bytes address mask ≡ nowhere r → marks_after m mask l ≡ l
unfolding going_of
nowhere-marks (writes d a b c result) code_length bytes address mask r l e = let z : ◌≡◌ {A = ℕ} 0 1 = cc in absurd (omega arith)
nowhere-marks (masks compares a b result) code_length bytes address mask r l e = let z : ◌≡◌ {A = ℕ} 0 1 = cc in absurd (omega arith)
nowhere-marks (jumps any offset) code_length bytes address mask r l e = jump-marks any offset mask l

-- ---- the mask keeps to its 32 bits

pub mask-after : (m : Meaning) (tables : Tables) (s : Threads) → s.mask < 2 ^ 32 → (threads_after m tables s).mask < 2 ^ 32
unfolding threads_after mask_all
mask-after (writes d a b c result) tables s h = h
mask-after (masks compares a b result) tables s h = pack_lt 32 _
mask-after (jumps any offset) tables s h = h
