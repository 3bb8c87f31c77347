-- Where a jump lands, by its offset as an unsigned number.
use mathlib.Core.Path.{◌≡◌}
use Prim.Native.Nat.{ℕ, zero, suc, ◌+◌, ◌-◌, ◌/◌, ◌%◌, ◌^◌, ◌<◌, ◌≤◌}
use native.Mathlib.Omega.{arith}
use borrow.Author.Tests.{eq-eqb, ne_eqb, lt-ltb, le-ltb}
use lib.IntN.{pos, negsuc, neg_ℤ, ◌+ℤ◌}
use Rattle.isa.specs.Refusal.{refusal}
use Rattle.machine.specs.Integer.{sign_extend}
use Rattle.machine.specs.Step.{landing, nowhere}

-- an offset below 2^31 is not negative
pub forward : (address off : ℕ) → off < 2 ^ 31 → pos address +ℤ sign_extend off 32 ≡ pos (address + off)
unfolding sign_extend
forward address off h = rw (eq-eqb (off / 2 ^ 31 % 2) 0 (omega arith))

less : (x p : ℕ) → x < p → pos x +ℤ neg_ℤ (pos p) ≡ negsuc (p - suc x)
less x zero h = absurd (omega arith)
less x (suc n) h = rw (lt-ltb x (suc n) h)

-- an offset from 2^31 on is 2^32 - off back
backward : (off : ℕ) → 2 ^ 31 ≤ off → off < 2 ^ 32 → sign_extend off 32 ≡ negsuc (2 ^ 32 - suc off)
unfolding sign_extend
backward off h k = rw (ne_eqb (off / 2 ^ 31 % 2) 0 (λ e. omega (arith, e))) (less off (2 ^ 32) k)

pub back : (address off : ℕ) → 2 ^ 31 ≤ off → off < 2 ^ 32 → 2 ^ 32 - off ≤ address
    → pos address +ℤ sign_extend off 32 ≡ pos (address - (2 ^ 32 - off))
back address off h k l =
    let e : suc (2 ^ 32 - suc off) ≡ 2 ^ 32 - off = omega arith in
    rw (backward off h k, e, le-ltb address (2 ^ 32 - off) l)

-- further back than the first byte of the code
pub too_far_back : (length address off : ℕ) → 2 ^ 31 ≤ off → off < 2 ^ 32 → address < 2 ^ 32 - off
    → landing length (pos address +ℤ sign_extend off 32) ≡ nowhere (refusal 7)
too_far_back length address off h k l =
    let e : suc (2 ^ 32 - suc off) ≡ 2 ^ 32 - off = omega arith in
    rw (backward off h k, e, lt-ltb address (2 ^ 32 - off) l)
