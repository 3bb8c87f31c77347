-- The threads by themselves: every order of the visits leaves what the run leaves.
use mathlib.Core.Path.{◌≡◌, sym, ap, ◌∙◌}
use mathlib.Core.List.{List, [], ◌∷◌}
use Prim.Native.Nat.{ℕ, ◌+◌, ◌*◌, ◌/◌, ◌%◌, ◌^◌, ◌<◌}
use native.Mathlib.Omega.{arith}
use lib.ListN.{length, get_or, length-map}
use lib.Seq.{ext_get_or}
use Rattle.isa.specs.declared.instruction.Instruction.{Instruction}
use Rattle.machine.specs.Words.{Tables}
use Rattle.machine.specs.Meaning.{Meaning, writes, masks, jumps, meaning_of}
use Rattle.machine.specs.State.{Threads, State, threads_at}
use Rattle.machine.specs.Step.{threads_after}
use Rattle.machine.specs.Run.{Call, Run, run_of, tables_of, start_of}
use Rattle.machine.proofs.Masks.{pack_lt, bits_ext}
use Rattle.machine.proofs.Steps.{step_made}
use Rattle.machine.proofs.Runs.{every_call, mask_left}
use Rattle.threads.specs.Visit.{Visit, set_bit, visit_thread, instructions_of, numbered, perform, ByThemselves}
use Rattle.threads.proofs.Sorted.{mine, from, all_map, mine-order}
use Rattle.threads.proofs.Own.{Same}
use Rattle.threads.proofs.Project.{Agree, agree_refl, agree_sym, agree_trans, visit_agree, step-visit}
use Rattle.threads.proofs.Alone.{alone, numbers, perform-alone, all-numbers}

-- ---- the run, seen from thread t, is the thread alone

abbrev AsAlone : Tables → ℕ → State → Run → Type 0
AsAlone tables t s r =
    (z : Threads) → Agree t s.threads z → Agree t r.last.threads (alone tables t (instructions_of r.steps) z)

run_alone : (c : Call) (t : ℕ) → t < 32 → AsAlone (tables_of c) t (start_of c) (run_of c)
unfolding alone
run_alone c t h =
    every_call c (λ n. AsAlone tables t) (λ n s e z g. g) (λ s ne z g. g) (λ n s r ne e z g. g)
    (λ n s step rest e ih z g.
    let m = meaning_of step.instruction in
    let f : Agree t (threads_after m tables s.threads) (visit_thread m tables t z) =
    agree_trans (step-visit m tables t h s.threads) (visit_agree m tables t h s.threads z g) in
    ih (visit_thread m tables t z) (rw (step_made tables s c.code step e).after f))
    (λ a z g. g)
  where
    tables : Tables
    tables = tables_of c

-- ---- two states that agree at every thread are one

mask-visit : (m : Meaning) (tables : Tables) (t : ℕ) (s : Threads) → s.mask < 2 ^ 32 → (visit_thread m tables t s).mask < 2 ^ 32
unfolding visit_thread set_bit
mask-visit (writes d a b c result) tables t s h = h
mask-visit (masks compares a b result) tables t s h = pack_lt 32 _
mask-visit (jumps any offset) tables t s h = h

mask-perform : (c : Call) (vs : List Visit) (s : Threads) → s.mask < 2 ^ 32 → (perform c vs s).mask < 2 ^ 32
unfolding perform
mask-perform c [] s h = h
mask-perform c (v ∷ vs) s h =
    let i = numbered (instructions_of (run_of c).steps) v.step in
    mask-perform c vs (visit_thread (meaning_of i) (tables_of c) v.thread s) (mask-visit (meaning_of i) (tables_of c) v.thread s h)

same-threads : (s z : Threads) → s.mask < 2 ^ 32 → z.mask < 2 ^ 32 → ((t : ℕ) → t < 32 → Agree t s z) → s ≡ z
same-threads s z h k g =
    let e : s.registers ≡ z.registers =
    ext_get_or 0 s.registers z.registers (g 0 (omega arith)).len (λ i l. at s.registers z.registers i (g (i % 32) (omega arith)).words) in
    let f : s.marks ≡ z.marks =
    ext_get_or 0 s.marks z.marks (g 0 (omega arith)).marks_len (λ i l. at s.marks z.marks i (g (i % 32) (omega arith)).marks) in
    let m : s.mask ≡ z.mask = bits_ext 32 s.mask z.mask h k (λ t l. (g t l).bit) in
    λ j. threads_at (e j) (f j) (m j)
  where
    at : (a b : List ℕ) (i : ℕ) → Same (i % 32) a b → get_or a i 0 ≡ get_or b i 0
    at a b i w =
        let q : 32 * (i / 32) + i % 32 ≡ i = omega arith in
        rw q at (w (i / 32))

-- ---- the theorem

pub by_themselves : (c : Call) → c.mask < 2 ^ 32
    → ByThemselves c (run_of c).last.threads.registers (run_of c).last.threads.marks (run_of c).last.threads.mask
by_themselves c h order o =
    same-threads (perform c order start) (run_of c).last.threads (mask-perform c order start h) (mask_left c h) (λ t l.
    let p = perform-alone c t l order (all_map (λ v q. q.0) order o.only) start start (agree_refl t start) in
    let n : length (run_of c).steps ≡ length is = sym (length-map (run_of c).steps _) in
    let e : numbers is (mine t order) ≡ is =
    ap (numbers is) (mine-order (length (run_of c).steps) order o t l ∙ ap (from 0) n) ∙ all-numbers is in
    agree_trans (rw e at p) (agree_sym (run_alone c t l start (agree_refl t start))))
  where
    start : Threads
    start = (start_of c).threads

    is : List Instruction
    is = instructions_of (run_of c).steps
