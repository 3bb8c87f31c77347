-- What a run leaves gives its whole promise.
use mathlib.Core.Path.{◌≡◌, sym, ap, ◌∙◌}
use mathlib.Core.Bool.{Bool, true, false, not}
use mathlib.Core.List.{List}
use Prim.Native.Nat.{ℕ, ◌^◌, ◌<◌}
use borrow.Author.Tests.{not-true}
use Rattle.isa.specs.Refusal.{refusal}
use Rattle.machine.specs.State.{threads_at, state_at}
use Rattle.machine.specs.Run.{Call, arranged, start_of, run_of, answer_of}
use Rattle.machine.specs.declared.answer.Ending.{Ending}
use Rattle.machine.specs.declared.answer.Answer.{Answer}
use Rattle.machine.proofs.Runs.{badly_arranged}
use Rattle.threads.proofs.Theorem.{by_themselves}
use Rattle.run.specs.Ran.{Ran}
use Rattle.run.proofs.Left.{Left, leaves, leaves_by, left_end, left_whole}
use Rattle.sizes.proofs.Lengths.{arranged_in, arranged_in_lem}

abbrev pub answer : Ending → ℕ → ℕ → ℕ → Answer
answer ending steps address mask = record { ending = ending; steps = steps; address = address; mask = mask }

-- an answer, registers, marks and a record room that are what the run leaves
pub promised : (c : Call) → c.mask < 2 ^ 32 → (ending : Ending) (steps address mask : ℕ) (registers marks room : List ℕ)
    → leaves ending steps (state_at (threads_at registers marks mask) address) room ≡ leaves_by 0 c.records (run_of c)
    → Ran c (answer ending steps address mask) registers marks room
unfolding answer_of
promised c h ending steps address mask registers marks room e =
    let q = e ∙ left_whole c.records (run_of c) in
    let m : mask ≡ (run_of c).last.threads.mask = ap (λ (l : Left). l.last.threads.mask) q in
    let r : registers ≡ (run_of c).last.threads.registers = ap (λ (l : Left). l.last.threads.registers) q in
    let k : marks ≡ (run_of c).last.threads.marks = ap (λ (l : Left). l.last.threads.marks) q in
    record {
      answers = λ i. answer (q i).ending (q i).steps (q i).last.address (q i).last.threads.mask;
      leaves = r;
      marks_are_left = k;
      writes = ap (λ (l : Left). l.room) q;
      threads = rw (m, r, k) (by_themselves c h);
    }

-- sizes that are not as they have to be
pub at_bad_size : {c : Call} → c.mask < 2 ^ 32 → (t : Bool) → t ≡ arranged_in c → not t ≡ true
    → Ran c (answer (Ending.Refused (refusal 1)) 0 c.start c.mask) c.registers c.marks c.records
at_bad_size {c} h t e f =
    let a : arranged c ≡ false = sym (e ∙ arranged_in_lem c) ∙ not-true t f in
    promised c h (Ending.Refused (refusal 1)) 0 c.start c.mask c.registers c.marks c.records
    (sym (left_end 0 c.records (Ending.Refused (refusal 1)) (start_of c))
    ∙ ap (leaves_by 0 c.records) (sym (badly_arranged c a)))
