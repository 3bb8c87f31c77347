-- The order of values is the order of their places.
use Rattle.std.proofs.Common.{◌≡◌, ℕ, ◌^◌, ◌<◌, ◌≤◌, Bool, true, false, cond, not, eqb, ltb, ℤ, pos, negsuc, sym, refl, ◌∙◌, arith, ltb-false, ltb-true, le-ltb, lt-ltb, eqb-true}
use lib.Signed.{lt_z, mag}
use borrow.Author.Tests.{eqb-false}
use Rattle.machine.specs.Integer.{modulo, sign_extend}
use Rattle.machine.specs.Meaning.{both, is_set, extended, compared}
use Rattle.operations.specs.Operation.{Sized}
use Rattle.signs.proofs.Modulo.{extended_range}
use Rattle.nesting.specs.Rank.{raised, rank_of}

same_test : (a b c d : ℕ) → (a < b → c < d) → (b ≤ a → d ≤ c) → ltb a b ≡ ltb c d
same_test a b c d f g = go (ltb a b) refl
  where
    go : (t : Bool) → ltb a b ≡ t → t ≡ ltb c d
    go true e = sym (lt-ltb c d (f (ltb-true a b e)))
    go false e = sym (le-ltb c d (g (ltb-false a b e)))

raised-order : (z w : ℤ) → mag z < 2 ^ 63 → mag w < 2 ^ 63 → lt_z z w ≡ ltb (raised z) (raised w)
unfolding modulo
raised-order (pos a) (pos b) h k = same_test a b (raised (pos a)) (raised (pos b)) (λ l. omega arith) (λ l. omega arith)
raised-order (pos a) (negsuc b) h k = sym (le-ltb (raised (pos a)) (raised (negsuc b)) (omega arith))
raised-order (negsuc a) (pos b) h k = sym (lt-ltb (raised (negsuc a)) (raised (pos b)) (omega arith))
raised-order (negsuc a) (negsuc b) h k = same_test b a (raised (negsuc a)) (raised (negsuc b)) (λ l. omega arith) (λ l. omega arith)

place-order : (s p q a b : ℕ) → Sized p → Sized q → a < 2 ^ p → b < 2 ^ q
    → lt_z (extended s p a) (extended s q b) ≡ ltb (rank_of s p a) (rank_of s q b)
unfolding extended rank_of
place-order s p q a b u v h k = go (is_set s)
  where
    go : (t : Bool) → lt_z (cond t (sign_extend a p) (pos a)) (cond t (sign_extend b q) (pos b))
        ≡ ltb (cond t (raised (sign_extend a p)) a) (cond t (raised (sign_extend b q)) b)
    go true = raised-order (sign_extend a p) (sign_extend b q) (extended_range a p u h) (extended_range b q v k)
    go false = refl

-- a comparison goes by the order alone
pub same-comparison : (relation s p q a b x y : ℕ) (r : Bool) → Sized p → Sized q → a < 2 ^ p → b < 2 ^ q
    → x ≡ rank_of s p a → y ≡ rank_of s q b → r ≡ compared relation (pos x) (pos y)
    → r ≡ compared relation (extended s p a) (extended s q b)
same-comparison relation s p q a b x y r u v h k ex ey e =
    let l : ltb x y ≡ lt_z (extended s p a) (extended s q b) = (λ i. ltb (ex i) (ey i)) ∙ sym (place-order s p q a b u v h k) in
    let g : ltb y x ≡ lt_z (extended s q b) (extended s p a) = (λ i. ltb (ey i) (ex i)) ∙ sym (place-order s q p b a v u k h) in
    e ∙ (λ i. cond (eqb relation 0) (both (not (l i)) (not (g i))) (cond (eqb relation 1) (l i) (g i)))

-- equal is neither less nor greater
pub neither : (x y : ℕ) → eqb x y ≡ both (not (ltb x y)) (not (ltb y x))
neither x y = go (eqb x y) refl
  where
    go : (t : Bool) → eqb x y ≡ t → t ≡ both (not (ltb x y)) (not (ltb y x))
    go true e =
        let z = eqb-true x y e in
        rw (le-ltb x y (omega arith), le-ltb y x (omega arith))
    go false e = apart (ltb x y) refl
      where
        apart : (t : Bool) → ltb x y ≡ t → false ≡ both (not t) (not (ltb y x))
        apart true l = refl
        apart false l = rw (lt-ltb y x (omega (arith, ltb-false x y l, eqb-false x y e)))
