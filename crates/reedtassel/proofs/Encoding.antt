-- An encoding has at most eight bytes.
use Rattle.std.proofs.Common.{Option, Some, None}
use mathlib.Core.Path.{◌≡◌, refl}
use mathlib.Core.Bool.{Bool, true, false}
use mathlib.Core.List.{List}
use Prim.Native.Nat.{ℕ, ◌≤◌, zero-le}
use lib.Dec.{leb}
use lib.ListN.{length}
use Rattle.isa.specs.Answer.{Encoded}
use Rattle.lengths.proofs.Length.{length_for_lem}
use Rattle.form.specs.Form.{spelled_of}
use Rattle.encode.specs.Encode.{length_of, accepts, encoded_of, encoded_spelled, encoded_from}
use Rattle.answers.specs.Encoded.{answer_by, count_of}
use Rattle.isa.specs.declared.instruction.Instruction.{Instruction}

pub count_small : (form out : List ℕ) (e : Encoded) → e ≡ encoded_from form out → count_of e ≤ 8
unfolding encoded_of
count_small form out e q = rw q (by-spelled (spelled_of form))
  where
    by_answer : (accepted fits : Bool) (n room : ℕ) → n ≤ 8 → leb n room ≡ fits → count_of (answer_by accepted n room) ≤ 8
    by_answer true true n room h f = rw f h
    by_answer true false n room h f = rw f zero-le
    by_answer false fits n room h f = zero-le

    by-spelled : (s : Option Instruction) → count_of (encoded_spelled s out) ≤ 8
    by-spelled (Some i) = by_answer (accepts i) (leb (length_of i) (length out)) (length_of i) (length out) (length_for_lem i).1 refl
    by-spelled None = zero-le
