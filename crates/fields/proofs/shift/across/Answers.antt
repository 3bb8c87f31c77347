use mathlib.Core.Path.{sym, ap, ◌∙◌}
use Prim.Native.Nat.{ℕ, ◌-◌, ◌%◌, ◌^◌}
use native.Mathlib.Omega.{arith}
use Rattle.fields.proofs.Shifts.{across_up, across_down, shr_within}
use Rattle.fields.proofs.shift.across.Goals as goal

pub returns-then-k-j : goal.returns-then-k-j
returns-then-k-j c =
    let a = c.args in
    c.up.ensures ∙ sym (ap (λ (n : ℕ). n % 2 ^ 64) (across_up a.x a.j a.k c.if-k-j.true))

pub returns-else-k-j : goal.returns-else-k-j
returns-else-k-j c =
    let a = c.args in
    c.down.ensures
    ∙ sym (ap (λ (n : ℕ). n % 2 ^ 64) (across_down a.x a.j a.k (omega arith))
    ∙ shr_within a.x (a.k - a.j) 64 c.ranges.x.fits)
