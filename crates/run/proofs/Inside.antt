-- An accepted step goes on within the code: the instruction is lent whole, and a jump lands no further than the end.
use Rattle.std.proofs.Common.{Ok, Err}
use mathlib.Core.Path.{◌≡◌, refl, subst}
use mathlib.Core.Bool.{Bool, true, false, cond}
use mathlib.Core.List.{List}
use Prim.Native.Nat.{ℕ, ◌+◌, ◌*◌, ◌%◌, ◌≤◌}
use native.Mathlib.Omega.{arith}
use borrow.Author.Tests.{leb-true}
use lib.Dec.{eqb, leb}
use lib.ListN.{length, drop, length-drop}
use lib.IntN.{ℤ, pos, negsuc, ◌+ℤ◌}
use Rattle.isa.specs.Decode.{decode_of}
use Rattle.isa.specs.Refusal.{refusal}
use Rattle.isa.specs.Answer.{Decoded}
use Rattle.isa.proofs.Found.{found-length}
use Rattle.machine.specs.Words.{Tables}
use Rattle.machine.specs.Meaning.{Meaning, writes, masks, jumps, meaning_of, both}
use Rattle.machine.specs.State.{State}
use Rattle.machine.specs.Marks.{reads_marked}
use Rattle.machine.specs.Step.{Going, to, nowhere, taken, landing, going_of, go_to, Step, Stepped, accepted, refused}
use Rattle.machine.specs.Step.{registers_reach, specials_reach, step_by, step_of}

abbrev AddressWithin : ℕ → Going → Type 0
AddressWithin size (to address class) = address ≤ size
AddressWithin size (nowhere r) = Unit {0}

landed : (size : ℕ) (z : ℤ) → AddressWithin size (landing size z)
landed size (pos target) = go (eqb (target % 2) 0) (leb target size) refl
  where
    go : (even inside : Bool) → leb target size ≡ inside
        → AddressWithin size (cond (both even inside) (to target 4) (nowhere (refusal 7)))
    go true true e = leb-true target size e
    go true false e = tt
    go false inside e = tt
landed size (negsuc below) = tt

gone : (m : Meaning) (size bytes address mask : ℕ) → address + bytes ≤ size → AddressWithin size (going_of m size bytes address mask)
unfolding going_of
gone (writes d a b c result) size bytes address mask h = h
gone (masks compares a b result) size bytes address mask h = h
gone (jumps any offset) size bytes address mask h = go (taken any mask)
  where
    go : (b : Bool) → AddressWithin size (cond b (landing size (pos address +ℤ offset)) (to (address + bytes) 3))
    go true = landed size (pos address +ℤ offset)
    go false = h

abbrev Stays : ℕ → Stepped → Type 0
Stays size (accepted step) = step.after.address ≤ size
Stays size (refused r) = Unit {0}

module _ (code : List ℕ) (tables : Tables) (s : State) (h : s.address ≤ length code) where
  by-decoded : (d : Decoded) → decode_of (drop s.address code) ≡ d → Stays (length code) (step_by d (length code) tables s)
  unfolding step_by
  by-decoded (Err r) e = tt
  by-decoded (Ok (i, n)) e =
      held (leb (32 * registers_reach (meaning_of i)) (length s.threads.registers))
      (leb (32 * specials_reach (meaning_of i)) (length tables.specials)) (reads_marked (meaning_of i) s.threads)
      (going_of (meaning_of i) (length code) n s.address s.threads.mask)
      (gone (meaning_of i) (length code) n s.address s.threads.mask
      (omega (arith, found-length (drop s.address code) i n e, length-drop s.address code)))
    where
      held : (a b c : Bool) (g : Going) → AddressWithin (length code) g
          → Stays (length code) (cond a (cond b (cond c (refused (refusal 10)) (go_to g i n tables s)) (refused (refusal 6))) (refused (refusal 5)))
      held true true true g w = tt
      held true true false (to address class) w = w
      held true true false (nowhere r) w = tt
      held true false c g w = tt
      held false b c g w = tt

  pub step_inside : (step : Step) → step_of code tables s ≡ accepted step → step.after.address ≤ length code
  unfolding step_of
  step_inside step e = subst (Stays (length code)) e (by-decoded (decode_of (drop s.address code)) refl)
