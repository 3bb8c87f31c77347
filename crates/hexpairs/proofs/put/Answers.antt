use mathlib.Core.Path.{◌≡◌, refl, sym, ap, ◌∙◌}
use mathlib.Core.Bool.{true}
use mathlib.Core.List.{List, [], ◌∷◌}
use Prim.Native.Nat.{ℕ, ◌+◌, ◌*◌, ◌-◌, ◌<◌}
use native.Mathlib.Omega.{arith}
use lib.Dec.{ltb}
use lib.ListN.{drop, set, length-set}
use borrow.Author.Tests.{ltb-true}
use Rattle.bits.proofs.Table.{and_left, and_right}
use Rattle.bits.proofs.Pieces.{after}
use Rattle.hexpairs.specs.Pairs.{pair_value, pairs, spelled}
use Rattle.hexpairs.proofs.Places.{pairs-more, spelled-more}
use Rattle.hexpairs.proofs.put.Goals as goal

next : (at n i : ℕ) (s : List ℕ) → i < n → pairs (n - i) (drop (at + 2 * i) s) ≡ true
    → (pair_value (drop (at + 2 * i) s) < 256) × (pairs (n - (i + 1)) (drop (at + 2 * (i + 1)) s) ≡ true)
next at n i s h e =
    let b = ltb (pair_value (drop (at + 2 * i) s)) 256 in
    let r = pairs (n - (i + 1)) (drop (at + 2 * (i + 1)) s) in
    let f = sym (pairs-more at n i s h) ∙ e in
    (ltb-true _ _ (and_left b r f), and_right b r f)

pub overflow_cast-out : goal.overflow_cast-out
overflow_cast-out c =
    let l = c.loop-i in
    let a = c.args in
    omega (arith, c.number_at.ensures.0, (next a.at a.count l.i a.text.now c.loop-i-test.true l.invariant.1).0)

pub loop-i-preserved : goal.loop-i-preserved
loop-i-preserved c =
    let l = c.loop-i in
    let a = c.args in
    let s = a.text.now in
    let h = c.loop-i-test.true in
    let b = c.number_at.result in
    let rest = spelled (a.count - (l.i + 1)) (drop (a.at + 2 * (l.i + 1)) s) in
    let e : spelled (a.count - l.i) (drop (a.at + 2 * l.i) s) ≡ b ∷ rest =
    spelled-more a.at a.count l.i s h ∙ ap (λ (x : ℕ). x ∷ rest) (sym c.number_at.ensures.0) in (
      length-set l.out (a.n + l.i) b ∙ l.invariant.0,
      (next a.at a.count l.i s h l.invariant.1).1,
      after (b ∷ []) rest (spelled (a.count - l.i) (drop (a.at + 2 * l.i) s)) l.out (set l.out (a.n + l.i) b)
          (a.n + l.i) (a.n + (l.i + 1)) refl (omega arith) e
          ∙ l.invariant.2,
    )

pub returns : goal.returns
unfolding spelled
returns c =
    let l = c.loop-i in
    let a = c.args in
    let e : a.count - l.i ≡ 0 = omega arith in
    rw e at l.invariant.2
