use Rattle.std.specs.Prelude.{Some}
use mathlib.Core.Path.{◌≡◌, sym, ap, ◌∙◌}
use mathlib.Core.Bool.{true, false}
use Prim.Native.Nat.{◌+◌, ◌*◌, ◌-◌, ◌%◌}
use native.Mathlib.Omega.{arith}
use lib.Dec.{ltb}
use lib.ListN.{drop}
use borrow.Author.Tests.{lt-ltb, le-ltb}
use Rattle.hexpairs.specs.Pairs.{pair_value, pairs, spelled, total}
use Rattle.hexpairs.proofs.Places.{pairs-more, spelled-more, byte-some, byte-none}
use Rattle.hexpairs.proofs.sum.Goals as goal

pub returns-in_err-sum : goal.returns-in_err-sum
returns-in_err-sum c =
    let l = c.loop-i in
    let a = c.args in
    let s = a.text.now in
    let v = pair_value (drop (a.at + 2 * l.i) s) in
    let z : ltb v 256 ≡ false = le-ltb v 256 (byte-none v c.pair_at.result c.pair_at.ensures c.in_err-sum.was) in
    let q : pairs a.n (drop a.at s) ≡ false = sym l.invariant.0 ∙ pairs-more a.at a.n l.i s c.loop-i-test.true ∙ rw z in
    rw q c.from_residual.ensures

pub loop-i-preserved : goal.loop-i-preserved
loop-i-preserved c =
    let l = c.loop-i in
    let a = c.args in
    let s = a.text.now in
    let h = c.loop-i-test.true in
    let v = pair_value (drop (a.at + 2 * l.i) s) in
    let b = byte-some v c.in_ok-sum.field-0 c.pair_at.result c.pair_at.ensures c.in_ok-sum.was in
    let z : ltb v 256 ≡ true = lt-ltb v 256 b.0 in
    let p : pairs (a.n - l.i) (drop (a.at + 2 * l.i) s) ≡ pairs (a.n - (l.i + 1)) (drop (a.at + 2 * (l.i + 1)) s) =
    pairs-more a.at a.n l.i s h ∙ rw z in
    let t = ap total (spelled-more a.at a.n l.i s h) in
    (sym p ∙ l.invariant.0, omega (arith, b.1, t, l.invariant.1))

pub returns : goal.returns
unfolding pairs spelled
returns c =
    let l = c.loop-i in
    let a = c.args in
    let e : a.n - l.i ≡ 0 = omega arith in
    let p : pairs a.n (drop a.at a.text.now) ≡ true = sym l.invariant.0 ∙ rw e in
    let t : (l.sum + 0) % 256 ≡ total (spelled a.n (drop a.at a.text.now)) % 256 = rw e at l.invariant.1 in
    let r = total (spelled a.n (drop a.at a.text.now)) % 256 in
    let u : l.sum ≡ r = omega arith in
    rw (p, lt-ltb r 256 (omega arith)) (ap Some u)
