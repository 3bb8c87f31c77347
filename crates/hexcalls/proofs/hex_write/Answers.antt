use mathlib.Core.Path.{sym, ap, ◌∙◌}
use Prim.Native.Nat.{◌≤◌}
use native.Mathlib.Omega.{arith}
use lib.ListN.{length}
use mir.Syntax.{w32}
use mir.Facts.{to_z_pos}
use Rattle.hexcalls.specs.Calls.{writing_back}
use Rattle.hexfile.proofs.Answers.{most-written}
use Rattle.hexcalls.proofs.hex_write.Goals as goal

pub returns-in-Some : goal.returns-in-Some
returns-in-Some c =
    let small : c.in-Some.n ≤ 22540 = most-written c.args.code.now (length c.args.text.now) c.in-Some.n
    (sym c.write.ensures.0 ∙ c.in-Some.is) in
    record {
      returns = to_z_pos w32 (omega (arith, small)) ∙ sym (ap writing_back (sym c.write.ensures.0 ∙ c.in-Some.is));
      leaves = c.write.ensures.1;
    }

pub returns-in-None : goal.returns-in-None
returns-in-None c =
    record { returns = sym (ap writing_back (sym c.write.ensures.0 ∙ c.in-None.is)); leaves = c.write.ensures.1 }

pub overflow_cast-result : goal.overflow_cast-result
overflow_cast-result c =
    let small : c.in-Some.n ≤ 22540 = most-written c.args.code.now (length c.args.text.now) c.in-Some.n
    (sym c.write.ensures.0 ∙ c.in-Some.is) in
    omega (arith, small)
