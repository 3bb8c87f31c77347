-- A bit operation by its table, modulo two to the 64.
use mathlib.Core.Path.{◌≡◌, refl, sym, ap, ap₂, ◌∙◌}
use mathlib.Core.Bool.{Bool, true, false, cond}
use Prim.Native.Nat.{ℕ, ◌-◌, ◌%◌, ◌^◌, ◌<◌}
use native.Mathlib.Nat.{mod-eq_of_lt}
use lib.Bits.{bit_and, bit_or}
use lib.IntN.{ℤ, pos}
use Rattle.machine.specs.Integer.{~◌, ◌&◌, ◌∣◌, modulo}
use Rattle.machine.specs.Meaning.{is_set, bitop}
use Rattle.fields.proofs.Modulo.{mod_and, mod_or}
use Rattle.bitwise.specs.Truths.{is_undefined}

-- the bits that one entry of the table gives
mod_entry : (t : Bool) (x y : ℤ) (p q : ℕ) → modulo x 64 ≡ p → modulo y 64 ≡ q
    → modulo (cond t (x & y) (pos 0)) 64 ≡ cond t (bit_and p q) 0
unfolding modulo
mod_entry true x y p q e f = mod_and x y 64 ∙ ap₂ bit_and e f
mod_entry false x y p q e f = refl

pub by-table : (tt0 tt1 tt2 tt3 a b c : ℕ) → a < 2 ^ 64 → b < 2 ^ 64 → is_undefined tt0 tt1 tt2 tt3 ≡ false
    → bit_or (bit_or (bit_or
    (cond (is_set tt0) (bit_and (2 ^ 64 - 1 - a) (2 ^ 64 - 1 - b)) 0)
    (cond (is_set tt1) (bit_and a (2 ^ 64 - 1 - b)) 0))
    (cond (is_set tt2) (bit_and (2 ^ 64 - 1 - a) b) 0))
    (cond (is_set tt3) (bit_and a b) 0)
    ≡ modulo (bitop tt0 tt1 tt2 tt3 a b c) 64
unfolding modulo bitop
by-table tt0 tt1 tt2 tt3 a b c h g e =
    let A : ℤ = pos a in
    let B : ℤ = pos b in
    let a' : a % 2 ^ 64 ≡ a = mod-eq_of_lt h in
    let b' : b % 2 ^ 64 ≡ b = mod-eq_of_lt g in
    let na : 2 ^ 64 - 1 - a % 2 ^ 64 ≡ 2 ^ 64 - 1 - a = ap (λ (n : ℕ). 2 ^ 64 - 1 - n) a' in
    let nb : 2 ^ 64 - 1 - b % 2 ^ 64 ≡ 2 ^ 64 - 1 - b = ap (λ (n : ℕ). 2 ^ 64 - 1 - n) b' in
    let w : ℤ = cond (is_set tt0) (~ A & ~ B) (pos 0) in
    let x : ℤ = cond (is_set tt1) (A & ~ B) (pos 0) in
    let y : ℤ = cond (is_set tt2) (~ A & B) (pos 0) in
    let z : ℤ = cond (is_set tt3) (A & B) (pos 0) in
    let p = mod_or (pos 0) w 64 ∙ mod_entry (is_set tt0) (~ A) (~ B) (2 ^ 64 - 1 - a) (2 ^ 64 - 1 - b) na nb in
    let q = mod_or (pos 0 ∣ w) x 64 ∙ ap₂ bit_or p (mod_entry (is_set tt1) A (~ B) a (2 ^ 64 - 1 - b) a' nb) in
    let r = mod_or (pos 0 ∣ w ∣ x) y 64 ∙ ap₂ bit_or q (mod_entry (is_set tt2) (~ A) B (2 ^ 64 - 1 - a) b na b') in
    rw e (sym (mod_or (pos 0 ∣ w ∣ x ∣ y) z 64 ∙ ap₂ bit_or r (mod_entry (is_set tt3) A B a b a' b')))

pub no_table : (tt0 tt1 tt2 tt3 a b c : ℕ) → a < 2 ^ 64 → is_undefined tt0 tt1 tt2 tt3 ≡ true
    → a ≡ modulo (bitop tt0 tt1 tt2 tt3 a b c) 64
unfolding modulo bitop
no_table tt0 tt1 tt2 tt3 a b c h e = rw e (sym (mod-eq_of_lt h))
