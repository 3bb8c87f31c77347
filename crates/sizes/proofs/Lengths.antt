-- The sizes by lengths alone are the sizes of the call.
use mathlib.Core.Path.{◌≡◌, refl}
use mathlib.Core.Bool.{Bool, true, false}
use Prim.Native.Nat.{ℕ, ◌*◌, ◌/◌, ◌%◌}
use native.Mathlib.Omega.{arith}
use borrow.Author.Tests.{le-leb, lt-leb, leb-true, leb-false, eq-eqb, ne_eqb, eqb-true, eqb-false}
use lib.Dec.{eqb, leb}
use lib.ListN.{length}
use Rattle.machine.specs.Meaning.{both}
use Rattle.machine.specs.Run.{Call, arranged}
use Rattle.sizes.specs.Sizes.{arranged_by}

abbrev pub arranged_in : Call → Bool
arranged_in c =
    arranged_by (length c.code) (length c.registers) (length c.marks) (length c.uniforms) (length c.specials) c.start c.budget
    (length c.records)

both_assoc : (p q r : Bool) → both (both p q) r ≡ both p (both q r)
both_assoc true q r = refl
both_assoc false q r = refl

room_for : (budget room : ℕ) → leb budget (room / 16) ≡ leb (16 * budget) room
room_for budget room = go (leb (16 * budget) room) refl
  where
    go : (b : Bool) → leb (16 * budget) room ≡ b → leb budget (room / 16) ≡ b
    go true e = le-leb budget (room / 16) (omega (arith, leb-true (16 * budget) room e))
    go false e = lt-leb budget (room / 16) (omega (arith, leb-false (16 * budget) room e))

-- a number that is twice another, without the product
pub twice : (n m : ℕ) → both (eqb (m % 2) 0) (eqb (m / 2) n) ≡ eqb m (2 * n)
twice n m = go (eqb m (2 * n)) refl
  where
    rest : (b : Bool) → eqb (m % 2) 0 ≡ b → (m ≡ 2 * n → ⊥) → both b (eqb (m / 2) n) ≡ false
    rest true e k =
        let even = eqb-true (m % 2) 0 e in
        ne_eqb (m / 2) n (λ h. k (omega (arith, even, h)))
    rest false e k = refl

    go : (b : Bool) → eqb m (2 * n) ≡ b → both (eqb (m % 2) 0) (eqb (m / 2) n) ≡ b
    go true e =
        let h = eqb-true m (2 * n) e in
        rw (eq-eqb (m % 2) 0 (omega (arith, h)), eq-eqb (m / 2) n (omega (arith, h)))
    go false e = rest (eqb (m % 2) 0) refl (eqb-false m (2 * n) e)

pub arranged_in_lem : (c : Call) → arranged_in c ≡ arranged c
unfolding arranged
arranged_in_lem c = simp (both_assoc, room_for)
