-- The marks of a step, by the kind of its instruction.
use mathlib.Core.Path.{◌≡◌, refl, sym, ap, ap₂, ◌∙◌}
use mathlib.Core.Bool.{Bool, true, false, cond, not}
use mathlib.Core.List.{List, [], ◌∷◌}
use Prim.Native.Nat.{ℕ, ◌+◌, ◌*◌, ◌/◌, ◌%◌, ◌<◌}
use native.Mathlib.Omega.{arith}
use native.Mathlib.Decide.{dec_lt}
use borrow.Author.Tests.{eqb-true, not-false, not-true}
use lib.Dec.{eqb}
use lib.IntN.{ℤ}
use lib.ListN.{length, get_or, get_or-eq_default}
use lib.Seq.{ext_get_or}
use Rattle.isa.specs.declared.operand.Destination.{Destination}
use Rattle.machine.specs.Lanes.{any_below}
use Rattle.machine.specs.Meaning.{Meaning, writes, masks, jumps}
use Rattle.machine.specs.State.{Threads, threads_at}
use Rattle.machine.specs.Step.{Result}
use Rattle.machine.specs.Marks.{any_of, marked_in, reads_of, reads_marked, clears_of, mark_after, marks_after}
use Rattle.machine.specs.declared.input.Input.{Input}
use Rattle.machine.proofs.Marks.{length-marks, get_or-each, any_below-none, any_below_false}
use Rattle.markrows.specs.Rows.{all_clear}
use Rattle.machine.proofs.Steps.{jump-marks}
use Rattle.markreads.specs.Marked.{data_reads, mask_reads}
use Rattle.markreads.proofs.Laws.{reads_data, reads_masks}
use Rattle.marksets.specs.Sets.{data_sets, mask_sets}
use Rattle.marksets.proofs.Laws.{sets_data, sets_masks}
use Rattle.marks.specs.Settled.{Settled, Looked, AllClear, Quiet, KeptIf}

-- it is not refused, and the marks are settled; or it is, and they stay
pub goes_on_lem : (r reads : Bool) (left before after : List ℕ) → r ≡ reads → not r ≡ true → left ≡ after → Looked r reads left before after
goes_on_lem r reads left before after e f g = (e, g ∙ sym (ap (λ (p : Bool). cond p before after) (sym e ∙ not-true r f)))

pub stops : (r reads : Bool) (before after : List ℕ) → r ≡ reads → not r ≡ false → Looked r reads before before after
stops r reads before after e f = (e, sym (ap (λ (p : Bool). cond p before after) (sym e ∙ not-false r f)))

looked : (r x y : Bool) (left before after after' : List ℕ) → y ≡ x → after ≡ after' → Looked r x left before after → Looked r y left before after'
looked r x y left before after after' e f l = (l.0 ∙ sym e, l.1 ∙ ap₂ (λ (p : Bool) (q : List ℕ). cond p before q) (sym e) f)

module _ (registers : List ℕ) (mask : ℕ) (r : Bool) (before left : List ℕ) where
  pub of_data : (d : Destination) (a b c : Input) (result : Result)
      → Looked r (data_reads before a b c mask) left before (data_sets d a b c mask before)
      → Settled (writes d a b c result) registers mask r before left
  of_data d a b c result =
      looked r (data_reads before a b c mask) (reads_marked (writes d a b c result) (threads_at registers before mask)) left before
      (data_sets d a b c mask before) (marks_after (writes d a b c result) mask before) (reads_data d a b c result (threads_at registers before mask)) (sets_data d a b c result mask before)

  pub of-masks : (compares : ℕ → Bool) (a b : Input) (result : Result)
      → Looked r (mask_reads before compares a b registers) left before (mask_sets a b before)
      → Settled (masks compares a b result) registers mask r before left
  of-masks compares a b result =
      looked r (mask_reads before compares a b registers) (reads_marked (masks compares a b result) (threads_at registers before mask)) left before
      (mask_sets a b before) (marks_after (masks compares a b result) mask before) (reads_masks compares a b result (threads_at registers before mask)) (sets_masks compares a b result mask before)

-- a jump reads nothing
pub jump_reads : (any : Bool) (offset : ℤ) (s : Threads) → reads_marked (jumps any offset) s ≡ false
unfolding reads_marked reads_of
jump_reads any offset s = any_below-none 32 (λ t. false) (λ t k. refl)

pub of-jump : (any : Bool) (offset : ℤ) (registers : List ℕ) (mask : ℕ) (l : List ℕ) → Settled (jumps any offset) registers mask false l l
of-jump any offset registers mask l =
    let e = jump_reads any offset (threads_at registers l mask) in
    (sym e, sym (ap₂ (λ (p : Bool) (q : List ℕ). cond p l q) e (jump-marks any offset mask l)))

-- ---- quiet steps

none_marked : (marks : List ℕ) (t : ℕ) → AllClear marks → (l : List ℕ) → any_of (marked_in marks t) l ≡ false
none_marked marks t z [] = refl
none_marked marks t z (h ∷ l) = rw (z (32 * h + t)) (none_marked marks t z l)

quiet_reads : (m : Meaning) (registers marks : List ℕ) (mask : ℕ) → AllClear marks → reads_marked m (threads_at registers marks mask) ≡ false
unfolding reads_marked
quiet_reads m registers marks mask z =
    any_below-none 32 (λ t. any_of (marked_in marks t) (reads_of m registers mask t)) (λ t k. none_marked marks t z (reads_of m registers mask t))

quiet_marks : (m : Meaning) (mask : ℕ) (marks : List ℕ) → Quiet m marks → marks_after m mask marks ≡ marks
unfolding marks_after mark_after
quiet_marks m mask marks q =
    ext_get_or 0 (marks_after m mask marks) marks (length-marks m mask marks) (λ i k.
    let n = length-marks m mask marks in
    get_or-each (mark_after m mask) marks i 0 (omega arith) ∙ rw (q.0 i, q.1) (zero (any_of (eqb (i / 32)) (clears_of m mask (i % 32)))))
  where
    zero : (b : Bool) → ◌≡◌ {A = ℕ} (cond b 0 0) 0
    zero true = refl
    zero false = refl

pub of_quiet : (m : Meaning) (registers marks : List ℕ) (mask : ℕ) → Quiet m marks → Settled m registers mask false marks marks
of_quiet m registers marks mask q =
    let e = quiet_reads m registers marks mask q.0 in
    (sym e, sym (ap₂ (λ (p : Bool) (l : List ℕ). cond p marks l) e (quiet_marks m mask marks q)))

-- a step that is not quiet
pub loud : (quiet : Bool) {before left : List ℕ} → quiet ≡ false → KeptIf quiet before left
loud quiet e t = let z : ◌≡◌ {A = ℕ} 0 1 = cc in absurd (omega arith)

-- marks that a look finds clear
pub found-clear : (marks : List ℕ) (r : Bool) → r ≡ all_clear marks → r ≡ true → AllClear marks
found-clear marks r e t i = go (dec_lt i (length marks))
  where
    none : any_below (length marks) (λ j. not (eqb (get_or marks j 0) 0)) ≡ false
    none = not-true _ (sym e ∙ t)

    go : Dec (i < length marks) → get_or marks i 0 ≡ 0
    go (yes k) = eqb-true (get_or marks i 0) 0 (not-false _ (any_below_false (length marks) (λ j. not (eqb (get_or marks j 0) 0)) none i k))
    go (no k) = get_or-eq_default marks 0 {n = i} (omega arith)
