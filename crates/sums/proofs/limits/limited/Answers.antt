-- The limits of the size, by its sign bit's power.
use Rattle.std.proofs.Common.{◌≡◌, ℕ, ◌+◌, ◌-◌, ◌*◌, ◌%◌, ◌^◌, ◌≤◌, pos, neg_ℤ, ap, ◌∙◌, arith, pow_pos, pow_mono, pow-add}
use Rattle.machine.specs.Integer.{limit, modulo, saturate_integer}
use Rattle.operations.specs.Operation.{Sized}
use Rattle.signs.specs.Signed.{signed_of}
use Rattle.signs.proofs.Modulo.{sign_power}
use Rattle.sums.proofs.limits.limited.Goals as goal

abbrev half : ℕ → ℕ
half s = 1 * 2 ^ (s - 1) % 2 ^ 64

twice : (s : ℕ) → Sized s → half s - 1 + half s ≡ 2 ^ s - 1
twice s p =
    let e = sign_power s p in
    let n : s ≡ 1 + (s - 1) = omega (arith, p.0) in
    let d : 2 ^ s ≡ 2 ^ 1 * 2 ^ (s - 1) = ap (λ (k : ℕ). 2 ^ k) n ∙ pow-add 2 1 (s - 1) in
    let m : 2 ^ s ≤ 2 ^ 64 = pow_mono p.1 in
    let q = pow_pos (s - 1) in
    omega arith

pub returns-then-signed : goal.returns-then-signed
unfolding saturate_integer
returns-then-signed c =
    let a = c.args in
    let x = signed_of a.x in
    rw c.if-signed.true
    (c.between.ensures ∙ ap (λ (n : ℕ). modulo (limit (neg_ℤ (pos n)) (pos (n - 1)) x) 64) (sign_power a.size c.requires))

pub returns-else-signed : goal.returns-else-signed
unfolding saturate_integer
returns-else-signed c =
    let a = c.args in
    let x = signed_of a.x in
    rw c.if-signed.false
    (c.between-else-signed.ensures ∙ ap (λ (n : ℕ). modulo (limit (pos 0) (pos n) x) 64) (twice a.size c.requires))
