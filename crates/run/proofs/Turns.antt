-- The turns of the loop. What is still to run, after the steps made, leaves what the whole run leaves.
use mathlib.Core.Path.{◌≡◌, refl, sym, ap, ap₂, ◌∙◌}
use mathlib.Core.Bool.{Bool, true, false, not}
use mathlib.Core.List.{List}
use Prim.Native.Nat.{ℕ, zero, suc, ◌+◌, ◌*◌, ◌-◌, ◌^◌, ◌≤◌, ◌<◌}
use native.Mathlib.Nat.{sub-zero}
use native.Mathlib.Omega.{arith}
use borrow.Author.Tests.{eq-eqb, ne_eqb, not-false}
use lib.ListN.{length}
use lib.Seq.{sets, length-sets}
use Rattle.isa.specs.declared.answer.Refusal.{Refusal}
use Rattle.machine.specs.Words.{Tables}
use Rattle.machine.specs.State.{State, threads_at, state_at}
use Rattle.machine.specs.Step.{Step, Stepped, accepted, refused, step_of}
use Rattle.machine.specs.Record.{record_bytes, record_of}
use Rattle.machine.specs.Run.{Call, code_limit, budget_limit, arranged, Run, ends, after, run_from, tables_of, run_of}
use Rattle.machine.specs.declared.answer.Ending.{Ending}
use Rattle.machine.proofs.Steps.{step_made}
use Rattle.machine.proofs.Sizes.{sizes}
use Rattle.machine.proofs.Runs.{refused_changes_nothing}
use Rattle.std.specs.Prelude.{Result, Ok, Err}
use Rattle.jumps.specs.AsGoing.{class_number}
use Rattle.step.specs.declared.Outcome.{Outcome}
use Rattle.step.specs.Told.{goes, stops, told, told_by}
use Rattle.run.specs.Ran.{Ran}
use Rattle.run.proofs.Inside.{step_inside}
use Rattle.run.proofs.Left.{leaves_by, left_end, left_after}
use Rattle.sizes.proofs.Lengths.{arranged_in, arranged_in_lem}
use Rattle.run.proofs.Promise.{answer, promised}

-- ---- what a run is at its end and before a step

module _ (code : List ℕ) (tables : Tables) (s : State) where
  finishes : (n : ℕ) → s.address ≡ length code → run_from code tables n s ≡ ends Ending.Finished s
  unfolding run_from
  finishes zero e = rw (eq-eqb s.address (length code) e)
  finishes (suc n) e = rw (eq-eqb s.address (length code) e)

  spends : (s.address ≡ length code → ⊥) → run_from code tables 0 s ≡ ends Ending.Spent s
  unfolding run_from
  spends ne = rw (ne_eqb s.address (length code) ne)

  steps_on : (n : ℕ) (step : Step) → (s.address ≡ length code → ⊥) → step_of code tables s ≡ accepted step
      → run_from code tables (suc n) s ≡ after step (run_from code tables n step.after)
  unfolding run_from
  steps_on n step ne e = rw (ne_eqb s.address (length code) ne, e)

-- ---- on the way

-- after some steps: the sizes, and that what is still to run leaves what the whole run leaves
pub record OnWay (c : Call) (registers marks room : List ℕ) (address mask steps : ℕ) : Type 0 where
  pub fits : c.mask < 2 ^ 32
  pub code : length c.code ≤ code_limit
  pub budget : c.budget ≤ budget_limit
  pub space : 16 * c.budget ≤ length c.records
  pub inside : address ≤ length c.code
  pub within : steps ≤ c.budget
  pub registers_kept : length registers ≡ length c.registers
  pub marks_kept : length marks ≡ length c.marks
  pub twice : length c.marks ≡ 2 * length c.registers
  pub room_kept : length room ≡ length c.records
  pub to_run : leaves_by steps room (run_from c.code (tables_of c) (c.budget - steps) (state_at (threads_at registers marks mask) address))
      ≡ leaves_by 0 c.records (run_of c)

pub sizes-arranged : (c : Call) (t : Bool) → t ≡ arranged_in c → not t ≡ false → arranged c ≡ true
sizes-arranged c t e f = sym (e ∙ arranged_in_lem c) ∙ not-false t f

pub at-start : {c : Call} → c.mask < 2 ^ 32 → arranged c ≡ true → OnWay c c.registers c.marks c.records c.start c.mask 0
unfolding run_of
at-start {c} h a =
    let s = sizes c a in
    record {
      fits = h;
      code = s.code;
      budget = s.budget;
      space = s.room;
      inside = s.inside;
      within = omega arith;
      registers_kept = refl;
      marks_kept = refl;
      twice = s.marks;
      room_kept = refl;
      to_run = rw (a, sub-zero);
    }

module _ {c : Call} {registers marks room : List ℕ} {address mask steps : ℕ} (w : OnWay c registers marks room address mask steps) where
  abbrev here : State
  here = state_at (threads_at registers marks mask) address

  abbrev runs : ℕ → Run
  runs n = run_from c.code (tables_of c) n here

  ends-here : (ending : Ending) → runs (c.budget - steps) ≡ ends ending here → Ran c (answer ending steps address mask) registers marks room
  ends-here ending e =
      promised c w.fits ending steps address mask registers marks room
      (sym (left_end steps room ending here) ∙ ap (leaves_by steps room) (sym e) ∙ w.to_run)

  pub at-end : address ≡ length c.code → Ran c (answer Ending.Finished steps address mask) registers marks room
  at-end e = ends-here Ending.Finished (finishes c.code (tables_of c) here (c.budget - steps) e)

  pub at_spent : (address ≡ length c.code → ⊥) → steps ≡ c.budget → Ran c (answer Ending.Spent steps address mask) registers marks room
  at_spent ne e =
      let z : c.budget - steps ≡ 0 = omega arith in
      ends-here Ending.Spent (ap runs z ∙ spends c.code (tables_of c) here ne)

  -- one more step, of which the code has told
  module _ (ne : address ≡ length c.code → ⊥) (left : steps ≡ c.budget → ⊥) (turn : Result Outcome Refusal) (registers' marks' : List ℕ)
      (t : told turn registers' marks' ≡ told_by (step_of c.code (tables_of c) here) (threads_at registers marks mask)) where
    abbrev ahead : ℕ
    ahead = c.budget - (steps + 1)

    budget_left : c.budget - steps ≡ suc ahead
    budget_left = let h = w.within in omega arith

    pub at-refusal : (r : Refusal) → turn ≡ Err r → Ran c (answer (Ending.Refused r) steps address mask) registers' marks' room
    at-refusal r e = go (step_of c.code (tables_of c) here) refl (rw e at t)
      where
        go : (x : Stepped) → step_of c.code (tables_of c) here ≡ x → stops r registers' marks' ≡ told_by x (threads_at registers marks mask)
            → Ran c (answer (Ending.Refused r) steps address mask) registers' marks' room
        go (accepted step) x q = let z : ◌≡◌ {A = ℕ} 0 1 = cc in absurd (omega arith)
        go (refused r') x q =
            let same : r' ≡ r = cc in
            let kept : registers' ≡ registers = cc in
            let stay : marks' ≡ marks = cc in
            rw (kept, stay)
            (ends-here (Ending.Refused r)
            (ap runs budget_left ∙ refused_changes_nothing c.code (tables_of c) ahead here r ne (x ∙ ap refused same)))

    -- the step's record is put behind those of the steps before
    pub at-step : (o : Outcome) (made room' : List ℕ) → turn ≡ Ok o
        → length registers' ≡ length registers → length marks' ≡ length marks → made ≡ record_bytes address o.bytes (class_number o.class) mask o.mask
        → room' ≡ sets room (16 * steps) made → OnWay c registers' marks' room' o.address o.mask (steps + 1)
    unfolding record_of
    at-step o made room' e l l' m p = go (step_of c.code (tables_of c) here) refl (rw e at t)
      where
        next : State
        next = state_at (threads_at registers' marks' o.mask) o.address

        go : (x : Stepped) → step_of c.code (tables_of c) here ≡ x → goes o.bytes (class_number o.class) next ≡ told_by x (threads_at registers marks mask)
            → OnWay c registers' marks' room' o.address o.mask (steps + 1)
        go (refused r) x q = let z : ◌≡◌ {A = ℕ} 0 1 = cc in absurd (omega arith)
        go (accepted step) x q =
            let b : here ≡ step.before = sym (step_made (tables_of c) here c.code step x).before in
            let n : o.bytes ≡ step.bytes = cc in
            let k : class_number o.class ≡ step.class = cc in
            let a : next ≡ step.after = cc in
            let j : made ≡ record_of step = m ∙ λ i. record_bytes (b i).address (n i) (k i) (b i).threads.mask (a i).threads.mask in
            let f : room' ≡ sets room (16 * steps) (record_of step) = p ∙ ap (sets room (16 * steps)) j in
            let y = step_inside c.code (tables_of c) here w.inside step x in
            let g : 16 * steps + 16 ≤ length room = omega arith in
            let rest = run_from c.code (tables_of c) ahead in
            record {
              fits = w.fits;
              code = w.code;
              budget = w.budget;
              space = w.space;
              inside = rw (ap (λ (s : State). s.address) a) y;
              within = omega arith;
              registers_kept = l ∙ w.registers_kept;
              marks_kept = l' ∙ w.marks_kept;
              twice = w.twice;
              room_kept = ap length p ∙ length-sets room (16 * steps) made ∙ w.room_kept;
              to_run =
                  ap₂ (λ (o : List ℕ) (s : State). leaves_by (steps + 1) o (rest s)) f a
                  ∙ left_after steps room step g (rest step.after)
                  ∙ ap (leaves_by steps room) (sym (ap runs budget_left ∙ steps_on c.code (tables_of c) here ahead step ne x))
                  ∙ w.to_run;
            }
