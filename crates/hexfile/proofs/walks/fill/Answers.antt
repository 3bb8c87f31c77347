use mathlib.Core.Path.{◌≡◌, refl, sym, ap, ◌∙◌}
use Rattle.std.specs.Prelude.{Ok}
use mathlib.Core.Bool.{true}
use mathlib.Core.List.{List, ◌++◌}
use Prim.Native.Nat.{ℕ, ◌+◌, ◌*◌, ◌≤◌, ◌<◌}
use native.Mathlib.Omega.{arith}
use lib.ListN.{length, drop}
use lib.Seq.{sets, drop-drop}
use Rattle.bits.proofs.Pieces.{after}
use Rattle.hexpairs.specs.Pairs.{spelled, pairs}
use Rattle.hexfile.specs.Read.{kernel, read_of}
use Rattle.hexfile.specs.Rows.{kernel_in}
use Rattle.hexfile.proofs.Steps.{Known, known_first, known_more, room_for, row_data, fits_in, no_bad_row, all_there, bad-at, ran_out}
use Rattle.hexrow.specs.Reads.{row_at}
use Rattle.hexrow.specs.declared.Row.{Row}
use Rattle.hexfile.proofs.walks.fill.Goals as goal

-- what a row of data at a place adds, in a text that holds a kernel for which there is room
record Adds (text : List ℕ) (at n m k room : ℕ) : Type 0 where
  fits : n + m ≤ room
  line : 2 * m + 12 ≤ k
  within : at + k ≤ length text
  digits : pairs m (drop (at + 9) text) ≡ true

adds : (text out : List ℕ) (at row n m k : ℕ) → read_of text ≡ kernel (kernel_in (read_of text))
    → length (kernel_in (read_of text)) ≤ length out → at < length text → Known text at row n → row_at n (drop at text) ≡ Ok (Row.Data m k)
    → Adds text at n m k (length out)
adds text out at row n m k q z h w e =
    let r = room_for text at row n h w m k e in
    let g = known_more text at row n h w m k e in
    let f = fits_in text (kernel_in (read_of text)) q (at + k) (row + 1) (n + m) g in
    record {
      fits = omega (arith, f, z);
      line = r.0;
      within = r.1;
      digits = rw (← (drop-drop 9 at text)) (row_data text at row n h w m k e).digits;
    }

pub loop-at-init : goal.loop-at-init
loop-at-init c = (omega arith, omega arith, refl, (1, known_first c.args.text.now, refl))

pub put-requires : goal.put-requires
put-requires c =
    let a : Adds c.args.text.now c.loop-at.at c.loop-at.n c.in-Ok-Data.count c.in-Ok-Data.size (length c.args.out.now) =
    adds c.args.text.now c.args.out.now c.loop-at.at c.loop-at.invariant.3.0 c.loop-at.n c.in-Ok-Data.count c.in-Ok-Data.size c.requires.0 c.requires.1
    c.loop-at-test.true c.loop-at.invariant.3.1 (sym c.row_at.ensures ∙ c.in-Ok-Data.is ∙ ap Ok c.in-Ok-Data.field-0-is) in
    (omega (arith, a.fits), omega (arith, a.line, a.within), a.digits)

pub loop-at-preserved : goal.loop-at-preserved
loop-at-preserved c =
    let a : Adds c.args.text.now c.loop-at.at c.loop-at.n c.in-Ok-Data.count c.in-Ok-Data.size (length c.args.out.now) =
    adds c.args.text.now c.args.out.now c.loop-at.at c.loop-at.invariant.3.0 c.loop-at.n c.in-Ok-Data.count c.in-Ok-Data.size c.requires.0 c.requires.1
    c.loop-at-test.true c.loop-at.invariant.3.1 (sym c.row_at.ensures ∙ c.in-Ok-Data.is ∙ ap Ok c.in-Ok-Data.field-0-is) in
    let e = sym c.row_at.ensures ∙ c.in-Ok-Data.is ∙ ap Ok c.in-Ok-Data.field-0-is in
    let b = spelled c.in-Ok-Data.count (drop 9 (drop c.loop-at.at c.args.text.now)) in
    let f : sets c.loop-at.out c.loop-at.n (spelled c.in-Ok-Data.count (drop (c.loop-at.at + 9) c.args.text.now)) ≡ sets c.args.out.now 0 (c.loop-at.invariant.3.1.code ++ b) =
    rw (← (drop-drop 9 c.loop-at.at c.args.text.now))
    (after c.loop-at.invariant.3.1.code b (c.loop-at.invariant.3.1.code ++ b) c.args.out.now c.loop-at.out 0 c.loop-at.n c.loop-at.invariant.3.2 (omega (arith, c.loop-at.invariant.3.1.size)) refl) in (
      omega (arith, a.within),
      omega (arith, a.line),
      omega arith,
      (c.loop-at.invariant.3.0 + 1, known_more c.args.text.now c.loop-at.at c.loop-at.invariant.3.0 c.loop-at.n c.loop-at-test.true c.loop-at.invariant.3.1 c.in-Ok-Data.count c.in-Ok-Data.size e, c.put.ensures ∙ f),
    )

pub returns-in-Ok-End : goal.returns-in-Ok-End
returns-in-Ok-End c =
    let e =
    all_there c.args.text.now _ c.requires.0 c.loop-at.at c.loop-at.invariant.3.0 c.loop-at.n c.in-Ok-End.field-0-0 c.loop-at-test.true c.loop-at.invariant.3.1
    (sym c.row_at.ensures ∙ c.in-Ok-End.is ∙ ap Ok c.in-Ok-End.field-0-is) in
    c.loop-at.invariant.3.2 ∙ ap (sets c.args.out.now 0) e

pub returns-in-Err : goal.returns-in-Err
returns-in-Err c =
    absurd
    (no_bad_row c.args.text.now _ c.requires.0 c.loop-at.invariant.3.0 c.in-Err.field-0
    (bad-at c.args.text.now c.loop-at.at c.loop-at.invariant.3.0 c.loop-at.n c.loop-at-test.true c.loop-at.invariant.3.1 c.in-Err.field-0 (sym c.row_at.ensures ∙ c.in-Err.is)))

pub returns : goal.returns
returns c =
    absurd
    (no_bad_row c.args.text.now _ c.requires.0 c.loop-at.invariant.3.0 _
    (ran_out c.args.text.now c.loop-at.at c.loop-at.invariant.3.0 c.loop-at.invariant.3.1.code c.loop-at-test.false c.loop-at.invariant.3.1.reached))

pub overflow_add-n : goal.overflow_add-n
overflow_add-n c =
    let a : Adds c.args.text.now c.loop-at.at c.loop-at.n c.in-Ok-Data.count c.in-Ok-Data.size (length c.args.out.now) =
    adds c.args.text.now c.args.out.now c.loop-at.at c.loop-at.invariant.3.0 c.loop-at.n c.in-Ok-Data.count c.in-Ok-Data.size c.requires.0 c.requires.1
    c.loop-at-test.true c.loop-at.invariant.3.1 (sym c.row_at.ensures ∙ c.in-Ok-Data.is ∙ ap Ok c.in-Ok-Data.field-0-is) in
    omega (arith, a.line, a.within)

pub overflow_add-at-in-Ok-Data : goal.overflow_add-at-in-Ok-Data
overflow_add-at-in-Ok-Data c =
    let a : Adds c.args.text.now c.loop-at.at c.loop-at.n c.in-Ok-Data.count c.in-Ok-Data.size (length c.args.out.now) =
    adds c.args.text.now c.args.out.now c.loop-at.at c.loop-at.invariant.3.0 c.loop-at.n c.in-Ok-Data.count c.in-Ok-Data.size c.requires.0 c.requires.1
    c.loop-at-test.true c.loop-at.invariant.3.1 (sym c.row_at.ensures ∙ c.in-Ok-Data.is ∙ ap Ok c.in-Ok-Data.field-0-is) in
    omega (arith, a.within)

pub loop-at-smaller : goal.loop-at-smaller
loop-at-smaller c =
    let a : Adds c.args.text.now c.loop-at.at c.loop-at.n c.in-Ok-Data.count c.in-Ok-Data.size (length c.args.out.now) =
    adds c.args.text.now c.args.out.now c.loop-at.at c.loop-at.invariant.3.0 c.loop-at.n c.in-Ok-Data.count c.in-Ok-Data.size c.requires.0 c.requires.1
    c.loop-at-test.true c.loop-at.invariant.3.1 (sym c.row_at.ensures ∙ c.in-Ok-Data.is ∙ ap Ok c.in-Ok-Data.field-0-is) in
    omega (arith, a.line, a.within)
