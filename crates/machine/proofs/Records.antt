-- Laws of the records of a run: sixteen bytes for each step, one after the other, and the rest of the room untouched.
use mathlib.Core.Path.{◌≡◌, refl, sym, ap, ◌∙◌}
use mathlib.Core.Bool.{true, false}
use mathlib.Core.List.{List, [], ◌∷◌, ◌++◌, append_assoc}
use Prim.Native.Nat.{ℕ, zero, suc, ◌+◌, ◌*◌, ◌<◌}
use native.Mathlib.Omega.{arith}
use lib.ListN.{length, get_or, take, drop, length-append, length-drop}
use lib.Seq.{take_at, drop_at, drop-drop}
use Rattle.machine.specs.Step.{Step}
use Rattle.machine.specs.Record.{record_of, records_of, room_after}
use Rattle.machine.specs.Run.{Call, Run, arranged, run_of, registers_left, marks_left, records_left}
use Rattle.machine.proofs.Sizes.{sizes}
use Rattle.machine.proofs.Runs.{steps-budget, badly_arranged}

pub record_length : (s : Step) → length (record_of s) ≡ 16
unfolding record_of
record_length s = refl

-- sixteen bytes for each step
pub records-count : (steps : List Step) → length (records_of steps) ≡ 16 * length steps
unfolding records_of
records-count [] = refl
records-count (s ∷ ss) = omega (arith, length-append (record_of s) (records_of ss), record_length s, records-count ss)

-- the record of step k, from 0, stands at byte 16 x k
record_among : (steps : List Step) (rest : List ℕ) (k : ℕ) (d : Step) → k < length steps
    → take 16 (drop (16 * k) (records_of steps ++ rest)) ≡ record_of (get_or steps k d)
unfolding records_of
record_among [] rest k d h = absurd (omega arith)
record_among (s ∷ ss) rest zero d h =
    ap (take 16) (append_assoc (record_of s) (records_of ss) rest) ∙ take_at (record_of s) (records_of ss ++ rest) 16 (record_length s)
record_among (s ∷ ss) rest (suc k) d h =
    let e : 16 * suc k ≡ 16 + 16 * k = omega arith in
    ap (λ (x : ℕ). take 16 (drop x ((record_of s ++ records_of ss) ++ rest))) e
    ∙ ap (take 16) (sym (drop-drop (16 * k) 16 ((record_of s ++ records_of ss) ++ rest)))
    ∙ ap (λ (x : List ℕ). take 16 (drop (16 * k) (drop 16 x))) (append_assoc (record_of s) (records_of ss) rest)
    ∙ ap (λ (x : List ℕ). take 16 (drop (16 * k) x)) (drop_at (record_of s) (records_of ss ++ rest) 16 (record_length s))
    ∙ record_among ss rest k d (omega arith)

pub record_at : (c : Call) (k : ℕ) (d : Step) → k < length (run_of c).steps
    → take 16 (drop (16 * k) (records_left c)) ≡ record_of (get_or (run_of c).steps k d)
unfolding room_after
record_at c k d h = record_among (run_of c).steps (drop (16 * length (run_of c).steps) c.records) k d h

-- what stands after the records is as it was
pub rest-kept : (c : Call) → drop (16 * length (run_of c).steps) (records_left c) ≡ drop (16 * length (run_of c).steps) c.records
unfolding room_after
rest-kept c =
    let n = 16 * length (run_of c).steps in
    drop_at (records_of (run_of c).steps) (drop n c.records) n (records-count (run_of c).steps)

pub room-kept : (c : Call) → arranged c ≡ true → length (records_left c) ≡ length c.records
unfolding room_after
room-kept c a =
    let n = length (run_of c).steps in
    omega (
      arith,
      length-append (records_of (run_of c).steps) (drop (16 * n) c.records),
      records-count (run_of c).steps,
      length-drop (16 * n) c.records,
      (sizes c a).room,
      steps-budget c,
    )

-- a call that is refused with 1 is left as it was given
pub nothing_written : (c : Call) → arranged c ≡ false
    → (registers_left c ≡ c.registers) × (marks_left c ≡ c.marks) × (records_left c ≡ c.records)
unfolding room_after records_of
nothing_written c e =
    let b = badly_arranged c e in (
      ap (λ (r : Run). r.last.threads.registers) b,
      ap (λ (r : Run). r.last.threads.marks) b,
      ap (λ (r : Run). room_after r.steps c.records) b,
    )
