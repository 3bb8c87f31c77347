-- pop_exec takes n away and stops at zero.
use Rattle.std.proofs.Common.{◌≡◌, ℕ, zero, suc, ◌+◌, ◌-◌, Bool, true, false, cond, ltb, pos, negsuc, refl, ap, arith, ltb-true, le-ltb}
use lib.Signed.{lt_z}
use Rattle.machine.specs.Meaning.{pop_exec}

pub popped : (n a b v : ℕ) → pop_exec n a b v ≡ pos (v - n)
unfolding pop_exec
popped zero a b v =
    let e : v + 0 ≡ v - 0 = omega arith in
    rw (le-ltb (v + 0) 0 (omega arith)) (ap pos e)
popped (suc n) a b v = go (ltb v (suc n)) refl
  where
    go : (t : Bool) → ltb v (suc n) ≡ t
        → (let less = cond t (negsuc (suc n - suc v)) (pos (v - suc n)) in cond (lt_z less (pos 0)) (pos 0) less) ≡ pos (v - suc n)
    go true e = let z : 0 ≡ v - suc n = omega (arith, ltb-true v (suc n) e) in ap pos z
    go false e = rw (le-ltb (v - suc n) 0 (omega arith))
