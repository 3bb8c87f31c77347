-- What a run leaves, with steps already made before it: how it ended, how many steps there are then, the state and the record room.
use mathlib.Core.Path.{◌≡◌, sym, ap, ap₂, ◌∙◌}
use mathlib.Core.List.{List, [], ◌∷◌, ◌++◌, append_assoc}
use Prim.Native.Nat.{ℕ, suc, ◌+◌, ◌*◌, ◌≤◌}
use native.Mathlib.Omega.{arith}
use lib.ListN.{length, take, drop, length-append, take-append-drop}
use lib.Seq.{sets, sets-eq, length-take-le, take_at, drop_at, drop-drop}
use Rattle.machine.specs.State.{State}
use Rattle.machine.specs.Step.{Step}
use Rattle.machine.specs.Record.{record_of, records_of, room_after}
use Rattle.machine.specs.Run.{Run, ends, after}
use Rattle.machine.specs.declared.answer.Ending.{Ending}
use Rattle.machine.proofs.Records.{record_length}

pub record Left : Type 0 where
  pub ending : Ending
  pub steps : ℕ
  pub last : State
  pub room : List ℕ

abbrev pub leaves : Ending → ℕ → State → List ℕ → Left
leaves ending steps last room = record { ending = ending; steps = steps; last = last; room = room }

-- the room after n records and those of some steps
abbrev pub room_by : ℕ → List ℕ → List Step → List ℕ
room_by n room steps = take (16 * n) room ++ (records_of steps ++ drop (16 * (n + length steps)) room)

-- a run after n steps, whose records stand in the room
abbrev pub leaves_by : ℕ → List ℕ → Run → Left
leaves_by n room r = leaves r.ending (n + length r.steps) r.last (room_by n room r.steps)

-- a run that ends leaves the room as it is
pub left_end : (n : ℕ) (room : List ℕ) (e : Ending) (s : State) → leaves_by n room (ends e s) ≡ leaves e n s room
unfolding records_of
left_end n room e s =
    let z : n + 0 ≡ n = omega arith in
    let q : room_by n room [] ≡ room = ap (λ (k : ℕ). take (16 * n) room ++ drop (16 * k) room) z ∙ take-append-drop (16 * n) room in
    λ i. leaves e (z i) s (q i)

-- an accepted step, with its record put after the n that stand there, is one of the steps before
module _ (n : ℕ) (room : List ℕ) (step : Step) (h : 16 * n + 16 ≤ length room) where
  put : List ℕ
  put = sets room (16 * n) (record_of step)

  -- the records up to and with the step's
  records : List ℕ
  records = take (16 * n) room ++ record_of step

  put_eq : put ≡ records ++ drop (16 * n + 16) room
  unfolding put records
  put_eq =
      let l = record_length step in
      sets-eq (record_of step) room (16 * n) (omega arith)
      ∙ ap (λ (k : ℕ). take (16 * n) room ++ record_of step ++ drop (16 * n + k) room) l

  records-length : length records ≡ 16 * (n + 1)
  unfolding records
  records-length =
      omega (arith, length-append (take (16 * n) room) (record_of step), record_length step, length-take-le (16 * n) room (omega arith))

  room_on : (steps : List Step) → room_by (n + 1) put steps ≡ room_by n room (step ∷ steps)
  unfolding records_of records
  room_on steps =
      let rest = drop (16 * n + 16) room in
      let k = length steps in
      let t : take (16 * (n + 1)) put ≡ records = ap (take (16 * (n + 1))) put_eq ∙ take_at records rest (16 * (n + 1)) records-length in
      let a : 16 * (n + 1 + k) ≡ 16 * (n + 1) + 16 * k = omega arith in
      let b : 16 * n + 16 + 16 * k ≡ 16 * (n + suc k) = omega arith in
      let d : drop (16 * (n + 1 + k)) put ≡ drop (16 * (n + suc k)) room =
      ap (λ (j : ℕ). drop j put) a
      ∙ sym (drop-drop (16 * k) (16 * (n + 1)) put)
      ∙ ap (λ (x : List ℕ). drop (16 * k) (drop (16 * (n + 1)) x)) put_eq
      ∙ ap (drop (16 * k)) (drop_at records rest (16 * (n + 1)) records-length)
      ∙ drop-drop (16 * k) (16 * n + 16) room
      ∙ ap (λ (j : ℕ). drop j room) b in
      ap₂ (λ (x y : List ℕ). x ++ (records_of steps ++ y)) t d
      ∙ append_assoc (take (16 * n) room) (record_of step) (records_of steps ++ drop (16 * (n + suc k)) room)
      ∙ ap (λ (x : List ℕ). take (16 * n) room ++ x)
      (sym (append_assoc (record_of step) (records_of steps) (drop (16 * (n + suc k)) room)))

  pub left_after : (rest : Run) → leaves_by (n + 1) (sets room (16 * n) (record_of step)) rest ≡ leaves_by n room (after step rest)
  unfolding put
  left_after rest =
      let z : n + 1 + length rest.steps ≡ n + suc (length rest.steps) = omega arith in
      let q = room_on rest.steps in
      λ i. leaves rest.ending (z i) rest.last (q i)

-- a run after no step leaves its steps' records and the rest of the room
pub left_whole : (room : List ℕ) (r : Run) → leaves_by 0 room r ≡ leaves r.ending (length r.steps) r.last (room_after r.steps room)
unfolding room_after
left_whole room r =
    let z : 0 + length r.steps ≡ length r.steps = omega arith in
    λ i. leaves r.ending (z i) r.last (records_of r.steps ++ drop (16 * z i) room)
