-- Where the bytes spell words and the answer has room, the run on bytes is the run on the words in every case, also where that refuses
-- the call with 1: how it ended, the registers, the marks, the records.
use mathlib.Core.Path.{◌≡◌, refl, sym, ap, ◌∙◌}
use mathlib.Core.Bool.{Bool, true, false}
use mathlib.Core.List.{List}
use Prim.Native.Nat.{ℕ, ◌/◌, ◌%◌}
use native.Mathlib.Omega.{arith}
use borrow.Author.Tests.{eqb-true}
use lib.ListN.{length}
use Rattle.bits.proofs.Laws.{Bytes}
use Rattle.machine.specs.Run.{arranged, run_of, answer_of, registers_left, marks_left, records_left}
use Rattle.machine.proofs.Runs.{badly_arranged}
use Rattle.machine.proofs.Records.{nothing_written}
use Rattle.machine.proofs.Sizes.{parts}
use Rattle.words.specs.Spelling.{bytes_for}
use Rattle.words.proofs.Laws.{bytes-words}
use Rattle.runbytes.specs.RunBytes.{Lent, spelled_call, spelled, ending_of, Leaves}
use Rattle.sizes.specs.Lent.{whole_words}

module _ (l : Lent) (s : spelled l ≡ true) where
  pub ends_alike : ending_of l ≡ (answer_of (run_of (spelled_call l))).ending
  unfolding ending_of answer_of
  ends_alike = go (arranged (spelled_call l)) refl
    where
      go : (b : Bool) → arranged (spelled_call l) ≡ b → ending_of l ≡ (run_of (spelled_call l)).ending
      go true e = rw (s, e)
      go false e = rw (s, e, badly_arranged (spelled_call l) e)

  module _ (bytes : Bytes l.registers) {registers marks records answer : List ℕ} (left : Leaves l registers marks records answer) where
    pub registers_alike : registers ≡ bytes_for (registers_left (spelled_call l))
    unfolding spelled
    registers_alike = go (arranged (spelled_call l)) refl
      where
        go : (b : Bool) → arranged (spelled_call l) ≡ b → registers ≡ bytes_for (registers_left (spelled_call l))
        go true e = rw (s, e) at left.registers_are_left
        go false e =
            let whole = eqb-true (length l.registers % 4) 0 (parts (whole_words (length l.registers)) _ s).0 in
            let k : registers ≡ l.registers = rw (s, e) at left.registers_are_left in
            k ∙ sym (bytes-words l.registers (length l.registers / 4) bytes (omega arith)) ∙ ap bytes_for (sym (nothing_written (spelled_call l) e).0)

    pub marks_alike : marks ≡ marks_left (spelled_call l)
    marks_alike = go (arranged (spelled_call l)) refl
      where
        go : (b : Bool) → arranged (spelled_call l) ≡ b → marks ≡ marks_left (spelled_call l)
        go true e = rw (s, e) at left.marks_are_left
        go false e =
            let k : marks ≡ l.marks = rw (s, e) at left.marks_are_left in
            k ∙ sym (nothing_written (spelled_call l) e).1

    pub records_alike : records ≡ records_left (spelled_call l)
    records_alike = go (arranged (spelled_call l)) refl
      where
        go : (b : Bool) → arranged (spelled_call l) ≡ b → records ≡ records_left (spelled_call l)
        go true e = rw (s, e) at left.records_are_left
        go false e =
            let k : records ≡ l.records = rw (s, e) at left.records_are_left in
            k ∙ sym (nothing_written (spelled_call l) e).2
