use mathlib.Core.Path.{◌≡◌, refl, ap, ◌∙◌}
use mathlib.Core.List.{List, ◌++◌}
use Prim.Native.Nat.{ℕ, ◌+◌, ◌*◌, ◌-◌, ◌≤◌, ◌<◌, min}
use native.Mathlib.Omega.{arith}
use lib.ListN.{length, length-append}
use lib.Seq.{sets}
use borrow.Author.Rules.{rules}
use Rattle.std.proofs.lemmas.List.{nil_from_length}
use Rattle.std.specs.Iterator.Adapters.{enumerate_source, enumerate_count}
use Rattle.std.specs.Slice.Iter.{chunks_rest, chunks_size}
use Rattle.bits.proofs.Pieces.{after}
use Rattle.hexwrite.specs.Write.{row_for, hex_of}
use Rattle.hexwrite.proofs.Written.{rows_all, all-rows, row_on, length_row, last_row, end-rows}
use Rattle.hexwrite.proofs.put_rows.Goals as goal

-- row i, of the bytes x at the front of s, and its size; the rows from j on are of the bytes t that it leaves
record Turn (i j : ℕ) (s x t : List ℕ) : Type 0 where
  some : 0 < length s
  short : length x ≤ 16
  left : length t ≡ length s - 16
  rows : rows_all (16 * i) s ≡ row_for 0 (16 * i) x ++ rows_all (16 * j) t
  size : length (rows_all (16 * i) s) ≡ 2 * length x + 12 + length (rows_all (16 * j) t)

turn : (i j k : ℕ) (s x t : List ℕ) → k ≡ 16 → s ≡ x ++ t → length x ≡ min k (length s) → 0 < length s → j ≡ i + 1 → Turn i j s x t
turn i j k s x t e p l h n =
    let m : length x ≡ min 16 (length s) = omega arith in
    let a : 16 * i + 16 ≡ 16 * j = omega arith in
    let sum = ap length p ∙ length-append x t in
    let r = row_on (16 * i) s x t p m h ∙ ap (λ (b : ℕ). row_for 0 (16 * i) x ++ rows_all b t) a in
    record {
      some = h;
      short = omega arith;
      left = omega arith;
      rows = r;
      size = ap length r ∙ length-append (row_for 0 (16 * i) x) (rows_all (16 * j) t) ∙ omega (arith, length_row 0 (16 * i) x);
    }

pub loop-i-init : goal.loop-i-init
loop-i-init c =
    let g = c.into_iter-i-iterator.ensures.into_iter_gives in
    let source = ap enumerate_source g ∙ c.enumerate-i-items.ensures.source in
    let rest = ap chunks_rest source ∙ c.chunks.ensures.rest in
    let count = ap enumerate_count g ∙ c.enumerate-i-items.ensures.count in
    let s = chunks_rest c.into_iter-i-iterator.result.iter in
    let e : rows_all (16 * c.into_iter-i-iterator.result.count) s ≡ hex_of c.args.code.now =
    ap (λ (k : ℕ). rows_all (16 * k) s) count ∙ ap (rows_all 0) rest ∙ all-rows c.args.code.now in (
      search rules,
      tt,
      ap chunks_size source ∙ c.chunks.ensures.size,
      omega (arith, ap length rest, count),
      refl,
      omega (arith, ap length e),
      ap (sets c.args.text.now 0) e,
    )

pub put_row-requires : goal.put_row-requires
put_row-requires c =
    let steps = c.in-Some.ensures.steps in
    let t = turn c.loop-i.i-iterator.count c.next.new.self.count _ _ c.in-Some.row.now (chunks_rest c.next.new.self.iter)
    c.loop-i.invariant.2 steps.0.1.0 steps.0.1.1 steps.0.1.2 steps.2 in
    (omega (arith, t.size), omega (arith, t.some, steps.1), omega (arith, t.short))

pub loop-i-preserved : goal.loop-i-preserved
loop-i-preserved c =
    let steps = c.in-Some.ensures.steps in
    let i = c.loop-i.i-iterator.count in
    let j = c.next.new.self.count in
    let s = chunks_rest c.loop-i.i-iterator.iter in
    let x = c.in-Some.row.now in
    let l = chunks_rest c.next.new.self.iter in
    let t = turn i j _ s x l c.loop-i.invariant.2 steps.0.1.0 steps.0.1.1 steps.0.1.2 steps.2 in (
      search rules,
      tt,
      steps.0.0 ∙ c.loop-i.invariant.2,
      omega (arith, t.left, steps.2),
      omega arith,
      omega (arith, t.size),
      after (row_for 0 (16 * i) x) (rows_all (16 * j) l) (rows_all (16 * i) s) c.loop-i.text c.put_row.new.text c.loop-i.n (c.loop-i.n + (2 * length x + 12))
          (c.put_row.ensures ∙ ap (λ (k : ℕ). sets c.loop-i.text c.loop-i.n (row_for 0 (16 * k) x)) steps.1)
          (omega (arith, length_row 0 (16 * i) x)) t.rows
          ∙ c.loop-i.invariant.6,
    )

pub put-requires : goal.put-requires
put-requires c =
    let e = nil_from_length _ c.in-None.ensures.steps.0.1.0 in
    omega (arith, ap (λ (s : List ℕ). length (rows_all (16 * c.loop-i.i-iterator.count) s)) e, last_row (16 * c.loop-i.i-iterator.count))

pub returns : goal.returns
returns c =
    let e = nil_from_length _ c.in-None.ensures.steps.0.1.0 in
    let at = 16 * c.loop-i.i-iterator.count in
    c.put.ensures ∙ ap (sets c.loop-i.text c.loop-i.n) (end-rows at) ∙ (rw e at c.loop-i.invariant.6)
