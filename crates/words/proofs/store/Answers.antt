use mathlib.Core.Path.{◌≡◌, sym, ap, ◌∙◌}
use mathlib.Core.List.{List, []}
use Prim.Native.Nat.{ℕ, ◌*◌}
use native.Mathlib.Omega.{arith}
use lib.ListN.{length, drop, drop_of_length-le}
use lib.Seq.{sets, length-sets}
use Rattle.words.specs.Spelling.{words_of, bytes_for}
use Rattle.words.proofs.Laws.{length-bytes, words-bytes, bytes_next, filled}
use Rattle.words.proofs.store.Goals as goal

pub loop-i-preserved : goal.loop-i-preserved
loop-i-preserved c =
    let l = c.loop-i in
    let p = c.to_le_bytes.result in
    let e = c.put.ensures in (
      omega (arith, ap length e, length-sets l.bytes (4 * l.i) p),
      rw e (bytes_next c.args.words.now p l.bytes l.i c.loop-i-test.true c.to_le_bytes.ensures) ∙ l.invariant.1,
    )

pub returns : goal.returns
returns c =
    let l = c.loop-i in
    let a = c.args in
    let s = a.words.now in
    let e : drop l.i s ≡ [] = drop_of_length-le s {i = l.i} (omega arith) in
    let f =
    ap (λ (t : List ℕ). sets l.bytes (4 * l.i) (bytes_for t)) (sym e) ∙ l.invariant.1
    ∙ filled a.bytes.now (bytes_for s) (omega (arith, length-bytes s)) in
    (f, ap words_of f ∙ words-bytes s (λ k. (c.type_inv.words k).fits))
