-- The number of bytes written, or -1 where there are none.
use Rattle.std.proofs.Common.{◌≡◌, ℕ, ◌≤◌, Some, None, length, arith, ap, sym, ◌∙◌, pos, w32}
use Rattle.std.specs.Prelude.{neg_ℤ}
use mir.Facts.{to_z_pos}
use borrow.Author.Tests.{le-leb, lt-leb}
use Rattle.comparison.specs.Compare.{compare_of}
use Rattle.comparison.specs.AnswerLine.{line_of, written_of}
use Rattle.comparison.specs.declared.Comparison.{Comparison}
use Rattle.compared.proofs.Lines.{written}
use Rattle.reedtassel_compare.specs.Compare.{returned_for}
use Rattle.reedtassel_compare.proofs.reedtassel_compare.Goals as goal

refused : (c : Comparison) (room : ℕ) → None ≡ written_of (line_of c) room → neg_ℤ (pos 1) ≡ returned_for (line_of c) room
refused c room e = rw (lt-leb (length (line_of c)) room (written c room None e))

counted : (c : Comparison) (room n : ℕ) → Some n ≡ written_of (line_of c) room → (n ≤ 16) × (pos n ≡ returned_for (line_of c) room)
counted c room n e =
    let w = written c room (Some n) e in
    (w.0, rw (le-leb (length (line_of c)) room w.2) (ap pos w.1))

pub returns-in-None : goal.returns-in-None
returns-in-None c =
    record {
      returns = refused (compare_of c.args.first.now c.args.second.now) _ (sym c.in-None.is ∙ c.compare_line.ensures.0);
      leaves = c.compare_line.ensures.1;
    }

pub overflow_cast-result : goal.overflow_cast-result
overflow_cast-result c =
    let r = (counted (compare_of c.args.first.now c.args.second.now) _ _ (sym c.in-Some.is ∙ c.compare_line.ensures.0)).0 in
    omega arith

pub returns-in-Some : goal.returns-in-Some
returns-in-Some c =
    let r = counted (compare_of c.args.first.now c.args.second.now) _ _ (sym c.in-Some.is ∙ c.compare_line.ensures.0) in
    record { returns = to_z_pos w32 (omega arith) ∙ r.1; leaves = c.compare_line.ensures.1 }
