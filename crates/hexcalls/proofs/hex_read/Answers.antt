use mathlib.Core.Path.{◌≡◌, sym, ap, ◌∙◌}
use Rattle.std.specs.Prelude.{Result, Ok, Err}
use Prim.Native.Nat.{ℕ, ◌≤◌}
use native.Mathlib.Omega.{arith}
use lib.ListN.{length}
use mir.Syntax.{w32}
use mir.Facts.{to_z_pos, to_z-of_z}
use Rattle.hexfile.specs.Read.{read_of, reading_of}
use Rattle.hexfile.specs.declared.ReadError.{ReadError}
use Rattle.hexcalls.specs.Calls.{reading_back, row_left}
use Rattle.hexfile.proofs.Answers.{most-read}
use Rattle.hexcalls.proofs.hex_read.Goals as goal

pub returns-in-Ok : goal.returns-in-Ok
returns-in-Ok c =
    let kernel-read : reading_of c.args.text.now
    (length c.args.code.now)
    ≡ Ok c.in-Ok.n = sym c.read.ensures.0 ∙ c.in-Ok.is in
    let small : c.in-Ok.n ≤ 8192 = (most-read (read_of c.args.text.now) (length c.args.code.now) c.in-Ok.n (kernel-read)).0 in
    let e = kernel-read in
    record {
      returns = to_z_pos w32 (omega (arith, small)) ∙ sym (ap reading_back e);
      leaves = c.read.ensures.1;
      tells = sym (ap (λ (r : Result ℕ ReadError). row_left r c.args.row.now) e);
    }

pub returns-in-Err-BadRow : goal.returns-in-Err-BadRow
returns-in-Err-BadRow c =
    let e = sym c.read.ensures.0 ∙ c.in-Err-BadRow.is ∙ ap Err c.in-Err-BadRow.field-0-is in
    record {
      returns = to_z-of_z {w = w32} (record { sfits = c.refused.type_inv }) ∙ c.refused.ensures ∙ sym (ap reading_back e);
      leaves = c.read.ensures.1;
      tells = c.tell.ensures ∙ sym (ap (λ (x : Result ℕ ReadError). row_left x c.args.row.now) e);
    }

pub returns-in-Err-BadSize : goal.returns-in-Err-BadSize
returns-in-Err-BadSize c =
    let e = sym c.read.ensures.0 ∙ c.in-Err-BadSize.is ∙ ap Err c.in-Err-BadSize.field-0-is in
    record {
      returns = sym (ap reading_back e);
      leaves = c.read.ensures.1;
      tells = sym (ap (λ (x : Result ℕ ReadError). row_left x c.args.row.now) e);
    }

pub overflow_cast-result : goal.overflow_cast-result
overflow_cast-result c =
    let kernel-read : reading_of c.args.text.now
    (length c.args.code.now)
    ≡ Ok c.in-Ok.n = sym c.read.ensures.0 ∙ c.in-Ok.is in
    let small : c.in-Ok.n ≤ 8192 = (most-read (read_of c.args.text.now) (length c.args.code.now) c.in-Ok.n (kernel-read)).0 in
    omega (arith, small)
