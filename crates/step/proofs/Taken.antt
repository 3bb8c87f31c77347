-- The cases of a step.
use mathlib.Core.Path.{◌≡◌, refl, sym, subst, ap, ap₂, ◌∙◌}
use mathlib.Core.Bool.{Bool, true, false, cond, not}
use mathlib.Core.List.{List, []}
use Prim.Native.Nat.{ℕ, ◌*◌, ◌/◌, ◌^◌, ◌≤◌, ◌<◌}
use native.Mathlib.Omega.{arith}
use lib.Dec.{leb}
use lib.ListN.{length, drop}
use borrow.Author.Tests.{le-leb, lt-leb, not-true}
use Rattle.isa.specs.Decode.{decode_of}
use Rattle.isa.specs.Refusal.{refusal}
use Rattle.isa.proofs.Found.{found-length}
use Rattle.isa.specs.declared.answer.Refusal.{Refusal}
use Rattle.isa.specs.Answer.{Decoded}
use Rattle.isa.specs.declared.instruction.Instruction.{Instruction}
use Rattle.machine.specs.Words.{Tables}
use Rattle.isa.specs.declared.operand.Hint.{Hint}
use Rattle.machine.specs.Meaning.{Meaning, meaning_of, both, either}
use Rattle.machine.specs.declared.input.Input.{Input}
use Rattle.machine.specs.State.{Threads, State, threads_at, state_at}
use Rattle.machine.specs.Marks.{source_halves, input_discards, discards_of, reads_marked, marks_after}
use Rattle.machine.specs.Marks as marking
use Rattle.machine.proofs.Sizes.{parts}
use Rattle.machine.proofs.Steps.{marks-after}
use Rattle.marks.specs.Settled.{Settled, AllClear, Quiet}
use Rattle.going.specs.Discards.{is_discard, hinted, discarding}
use Rattle.machine.specs.Step.{Going, to, nowhere, refused, registers_reach, specials_reach, going_of, go_to, threads_after, step_by, step_of}
use Rattle.operations.specs.Action.{meaning_for, meaning_by}
use Rattle.operations.specs.declared.action.Kind.{Kind}
use Rattle.operations.specs.declared.action.Action.{Action}
use Rattle.plan.specs.Plan.{discards_by, Says, PlanOf}
use Rattle.plan.specs.declared.Plan.{Plan}
use Rattle.plan.specs.declared.Task.{Task}
use Rattle.std.specs.Prelude.{Ok, Err}
use Rattle.step.specs.Told.{Told, stops, told_by, gone_to, taken_by, Ready, QuietPlan}

module _ (m : Meaning) (bytes size : ℕ) (tables : Tables) (s : State) where
  abbrev stopped : ℕ → Told
  stopped n = stops (refusal n) s.threads.registers s.threads.marks

  pub no_register : length s.threads.registers / 32 < registers_reach m → stopped 5 ≡ taken_by m bytes size tables s
  unfolding taken_by
  no_register h = rw (lt-leb (32 * registers_reach m) (length s.threads.registers) (omega arith))

  pub no_special : registers_reach m ≤ length s.threads.registers / 32 → length tables.specials / 32 < specials_reach m
      → stopped 6 ≡ taken_by m bytes size tables s
  unfolding taken_by
  no_special h k =
      rw (
        le-leb (32 * registers_reach m) (length s.threads.registers) (omega arith),
        lt-leb (32 * specials_reach m) (length tables.specials) (omega arith),
      )

  module _ (h : registers_reach m ≤ length s.threads.registers / 32) (k : specials_reach m ≤ length tables.specials / 32) where
    pub discarded : reads_marked m s.threads ≡ true → stopped 10 ≡ taken_by m bytes size tables s
    unfolding taken_by
    discarded r =
        rw (
          le-leb (32 * registers_reach m) (length s.threads.registers) (omega arith),
          le-leb (32 * specials_reach m) (length tables.specials) (omega arith),
          r,
        )

    pub gone : reads_marked m s.threads ≡ false → (g : Going) → g ≡ going_of m size bytes s.address s.threads.mask
        → gone_to g bytes (threads_after m tables s.threads) s.threads ≡ taken_by m bytes size tables s
    unfolding taken_by
    gone r g e =
        rw (
          le-leb (32 * registers_reach m) (length s.threads.registers) (omega arith),
          le-leb (32 * specials_reach m) (length tables.specials) (omega arith),
          r,
          e,
        )

-- ---- the marks of a step

module _ (m : Meaning) (registers : List ℕ) (mask : ℕ) (r : Bool) (before left : List ℕ) (w : Settled m registers mask r before left) where
  pub reads_as : {b : Bool} → r ≡ b → reads_marked m (threads_at registers before mask) ≡ b
  reads_as e = sym w.0 ∙ e

  -- refused with 10, they stay
  pub marks_stay : r ≡ true → left ≡ before
  marks_stay e = w.1 ∙ ap (λ (p : Bool). cond p before (marks_after m mask before)) (reads_as e)

  pub marks_change : r ≡ false → left ≡ marks_after m mask before
  marks_change e = w.1 ∙ ap (λ (p : Bool). cond p before (marks_after m mask before)) (reads_as e)

-- registers, marks and mask together are what the threads have after the step
pub together : (m : Meaning) (tables : Tables) (s : Threads) (registers marks : List ℕ) (mask : ℕ)
    → (registers ≡ (threads_after m tables s).registers) × (mask ≡ (threads_after m tables s).mask) → marks ≡ marks_after m s.mask s.marks
    → threads_at registers marks mask ≡ threads_after m tables s
together m tables s registers marks mask e f =
    let g = f ∙ sym (marks-after m tables s) in
    λ i. threads_at (e.0 i) (g i) (e.1 i)

-- ---- the step of a decoded instruction

module _ (size : ℕ) (tables : Tables) (s : State) where
  of_going : (g : Going) (i : Instruction) (bytes : ℕ)
      → gone_to g bytes (threads_after (meaning_of i) tables s.threads) s.threads ≡ told_by (go_to g i bytes tables s) s.threads
  of_going (to address class) i bytes = refl
  of_going (nowhere r) i bytes = refl

  pub found : (i : Instruction) (bytes : ℕ)
      → taken_by (meaning_of i) bytes size tables s ≡ told_by (step_by (Ok (i, bytes)) size tables s) s.threads
  unfolding taken_by step_by
  found i bytes =
      split (leb (32 * registers_reach (meaning_of i)) (length s.threads.registers))
      (leb (32 * specials_reach (meaning_of i)) (length tables.specials)) (reads_marked (meaning_of i) s.threads)
    where
      g : Going
      g = going_of (meaning_of i) size bytes s.address s.threads.mask

      stop : ℕ → Told
      stop n = stops (refusal n) s.threads.registers s.threads.marks

      split : (a b c : Bool)
          → cond a (cond b (cond c (stop 10) (gone_to g bytes (threads_after (meaning_of i) tables s.threads) s.threads)) (stop 6)) (stop 5)
          ≡ told_by (cond a (cond b (cond c (refused (refusal 10)) (go_to g i bytes tables s)) (refused (refusal 6))) (refused (refusal 5))) s.threads
      split true true true = refl
      split true true false = of_going g i bytes
      split true false c = refl
      split false b c = refl

  pub refused-by : (r : Refusal)
      → stops r s.threads.registers s.threads.marks ≡ told_by (step_by (Err r) size tables s) s.threads
  unfolding step_by
  refused-by r = refl

-- ---- the step of a plan

module _ (code : List ℕ) (tables : Tables) (threads : Threads) (p : Plan) (q : PlanOf code p) where
  abbrev here : State
  here = state_at threads p.address

  abbrev decoded_here : Decoded
  decoded_here = decode_of (drop p.address code)

  pub plan_refused : (r : Refusal) → p.task ≡ Err r → stops r threads.registers threads.marks ≡ told_by (step_of code tables here) threads
  unfolding step_of
  plan_refused r e = go decoded_here (subst (Says decoded_here) e q)
    where
      go : (d : Decoded) → Says d (Err r) → stops r threads.registers threads.marks ≡ told_by (step_by d (length code) tables here) threads
      go (Err r') w = ap (λ (x : Refusal). stops x threads.registers threads.marks) w ∙ refused-by (length code) tables here r'
      go (Ok (i, n)) w = absurd w

  module _ (t : Task) (e : p.task ≡ Ok t) where
    said : Says decoded_here (Ok t)
    said = subst (Says decoded_here) e q

    pub plan_taken : taken_by (meaning_by t.action) t.bytes (length code) tables here ≡ told_by (step_of code tables here) threads
    unfolding step_of
    plan_taken = go decoded_here said
      where
        go : (d : Decoded) → Says d (Ok t)
            → taken_by (meaning_by t.action) t.bytes (length code) tables here ≡ told_by (step_by d (length code) tables here) threads
        go (Err r) w = absurd w
        go (Ok (i, n)) w =
            ap₂ (λ (m : Meaning) (bytes : ℕ). taken_by m bytes (length code) tables here) w.acts.meaning (ap (λ (x : Task). x.bytes) w.is)
            ∙ found (length code) tables here i n

    pub plan_ready : Ready t
    plan_ready = go decoded_here refl said
      where
        go : (d : Decoded) → decoded_here ≡ d → Says d (Ok t) → Ready t
        go (Err r) x w = absurd w
        go (Ok (i, n)) x w =
            let b : t.bytes ≡ n = ap (λ (x : Task). x.bytes) w.is in
            let l = found-length (drop p.address code) i n x in
            record {
              fitting = w.acts.fitting;
              registers = ap (λ (x : Task). x.registers) w.is;
              specials = ap (λ (x : Task). x.specials) w.is;
              bytes = omega (arith, l.1);
            }

-- ---- quiet plans

-- a source without the hint discards nothing
no_hint : (x : Input) → hinted x ≡ false → input_discards x ≡ []
no_hint Input.Nothing e = refl
no_hint (Input.Operand a) e = go a.hint e
  where
    go : (h : Hint) → is_discard h ≡ false → marking.discarded h (source_halves a.source) ≡ []
    go Hint.None e = refl
    go Hint.Cache e = refl
    go Hint.Discard e = let z : ◌≡◌ {A = ℕ} 0 1 = cc in absurd (omega arith)
no_hint (Input.Special k) e = refl

neither : (p q : Bool) → either p q ≡ false → (p ≡ false) × (q ≡ false)
neither true q e = let z : ◌≡◌ {A = ℕ} 0 1 = cc in absurd (omega arith)
neither false q e = (refl, e)

no_discards : (x : Action) → discarding x ≡ false → discards_of (meaning_by x) ≡ []
unfolding discards_of
no_discards x e = go x.kind
  where
    p : (hinted x.a ≡ false) × (either (hinted x.b) (hinted x.c) ≡ false)
    p = neither (hinted x.a) _ e

    q : (hinted x.b ≡ false) × (hinted x.c ≡ false)
    q = neither (hinted x.b) (hinted x.c) p.1

    go : (k : Kind) → discards_of (meaning_for k x.d x.a x.b x.c x.operation x.off) ≡ []
    go Kind.Writes = rw (no_hint x.a p.0, no_hint x.b q.0, no_hint x.c q.1)
    go Kind.Masks = rw (no_hint x.a p.0, no_hint x.b q.0)
    go Kind.JumpsIfAny = refl
    go Kind.JumpsIfNone = refl

-- where no mark was set and the plan discards nothing, it is quiet
pub quiet_plan : (code : List ℕ) (p : Plan) → PlanOf code p → (quiet still : Bool) (marks : List ℕ) → still ≡ both quiet (not (discards_by p.task))
    → (quiet ≡ true → AllClear marks) → QuietPlan still p marks
quiet_plan code p w quiet still marks e z t k s = go (decode_of (drop p.address code)) (subst (Says (decode_of (drop p.address code))) k w)
  where
    h : (quiet ≡ true) × (not (discards_by p.task) ≡ true)
    h = parts quiet (not (discards_by p.task)) (sym e ∙ s)

    go : (d : Decoded) → Says d (Ok t) → Quiet (meaning_by t.action) marks
    go (Err r) x = absurd x
    go (Ok (i, n)) x =
        let same : t.discards ≡ discarding t.action = ap (λ (y : Task). y.discards) x.is in
        let none : t.discards ≡ false = ap discards_by (sym k) ∙ not-true (discards_by p.task) h.1 in
        (z h.0, no_discards t.action (sym same ∙ none))

pub still_clear : (quiet still discards : Bool) (marks : List ℕ) → still ≡ both quiet (not discards) → (quiet ≡ true → AllClear marks)
    → still ≡ true → AllClear marks
still_clear quiet still discards marks e z t = z (parts quiet (not discards) (sym e ∙ t)).0
