use Prim.Native.Nat.{ℕ, ◌+◌, ◌<◌}
use mathlib.Core.Path.{◌≡◌, sym, subst}
use mathlib.Core.List.{List}
use native.Mathlib.Decide.{dec_lt}
use native.Mathlib.Omega.{arith}
use lib.ListN.{length, get_or, set, length-set}
use Rattle.std.proofs.lemmas.List.{get_or-set_same, get_or-set_other}
use Rattle.machine.specs.Step.{source_at}
use Rattle.alu.proofs.rows.each.Goals as goal

-- what holds of each place below i, and of the value that is put at i, holds of each place below i + 1
put : (P : ℕ → ℕ → Type 0) (row : List ℕ) (i x : ℕ) → i < length row → ((t : ℕ) → t < i → P t (get_or row t 0)) → P i x
    → (t : ℕ) → t < i + 1 → P t (get_or (set row i x) t 0)
put P row i x h before here t k = go (dec_lt t i)
  where
    go : Dec (t < i) → P t (get_or (set row i x) t 0)
    go (yes l) = subst (P t) (sym (get_or-set_other row i t x 0 (λ e. omega (arith, e)))) (before t l)
    go (no l) =
        let e : i ≡ t = omega arith in
        subst (λ (j : ℕ). P j (get_or (set row i x) j 0)) e (subst (P i) (sym (get_or-set_same row i x 0 h)) here)

pub loop-t-preserved : goal.loop-t-preserved
loop-t-preserved g c =
    let l = c.loop-t in
    let s = c.args.sources.now in
    let P : ℕ → ℕ → Type 0 = λ t r. g.F.Fn.post c.args.f (source_at s 0 t, (source_at s 1 t, (source_at s 2 t, tt))) r in
    (rw length-set l.invariant.0, put P l.out l.t c.f.result (omega (arith, l.invariant.0)) l.invariant.1 c.f.ensures)

pub returns : goal.returns
returns g c =
    let e : c.loop-t.t ≡ 32 = omega arith in
    (c.loop-t.invariant.0, rw e at c.loop-t.invariant.1)
