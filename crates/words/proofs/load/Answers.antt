use mathlib.Core.Path.{◌≡◌, refl, sym, ap, ◌∙◌}
use mathlib.Core.List.{List, [], ◌∷◌}
use Prim.Native.Nat.{ℕ, ◌+◌, ◌*◌, ◌/◌}
use native.Mathlib.Omega.{arith}
use lib.ListN.{length, drop, set, length-set, drop_of_length-le}
use lib.Seq.{sets}
use Rattle.bits.proofs.Pieces.{after}
use Rattle.words.specs.Spelling.{words_of}
use Rattle.words.proofs.Laws.{length-words, word_next, filled}
use Rattle.words.proofs.load.Goals as goal

pub loop-i-preserved : goal.loop-i-preserved
loop-i-preserved c =
    let l = c.loop-i in
    let s = c.args.bytes.now in
    let w = c.from_le_bytes.result in
    let e = c.as_chunks.ensures.front in
    let next = word_next s c.as_chunks.result.0.now (length s / 4) l.i w (omega arith) (omega arith) e c.from_le_bytes.ensures in (
      omega (arith, length-set l.words l.i w),
      after (w ∷ []) (words_of (drop (4 * (l.i + 1)) s)) (words_of (drop (4 * l.i) s)) l.words (set l.words l.i w) l.i (l.i + 1) refl refl next
          ∙ l.invariant.1,
    )

pub returns : goal.returns
returns c =
    let l = c.loop-i in
    let a = c.args in
    let s = a.bytes.now in let z = c.loop-i-test.false in let w = c.loop-i.auto.i-end in
    let e : drop (4 * l.i) s ≡ [] = drop_of_length-le s {i = 4 * l.i} (omega arith) in
    ap (λ (t : List ℕ). sets l.words l.i (words_of t)) (sym e) ∙ l.invariant.1
    ∙ filled a.words.now (words_of s) (omega (arith, length-words s))
