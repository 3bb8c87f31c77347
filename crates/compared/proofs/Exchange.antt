-- The kernels exchanged: `ended` tells the other kernel, and no other answer changes that is not a refusal. A refusal of one kernel is
-- told of it, at the same address; where both are too long, or neither is and both are refused there, each order tells the refusal of the kernel that
-- stands first.
use Rattle.std.proofs.Common.{Option, Some}
use mathlib.Core.Path.{◌≡◌, refl, sym, ap, ◌∙◌}
use mathlib.Core.List.{List, [], ◌∷◌}
use mathlib.Core.Bool.{Bool, true, false, cond}
use mathlib.Core.Logic.{◌⊎◌, inl, inr}
use Prim.Native.Nat.{ℕ, ◌≤◌, ◌<◌}
use native.Mathlib.Omega.{arith}
use lib.ListN.{length}
use borrow.Author.Tests.{lt-leb}
use Rattle.bits.specs.Lists.{eq_list}
use Rattle.bits.proofs.Lists.{eq_list-is, eq_list_self}
use Rattle.isa.specs.Refusal.{refusal}
use Rattle.isa.specs.declared.answer.Refusal.{Refusal}
use Rattle.isa.specs.declared.instruction.Instruction.{Instruction}
use Rattle.walk.specs.Walk.{limit}
use Rattle.comparison.specs.Order.{Entry, order, agrees, first_of, difference_of}
use Rattle.comparison.specs.Compare.{compare_of}
use Rattle.comparison.specs.declared.Field.{Field}
use Rattle.comparison.specs.declared.Kernel.{Kernel}
use Rattle.comparison.specs.declared.Comparison.{Comparison}
use Rattle.compared.proofs.Together.{Refuses, Stands, ends, finds, refuses, stands, within, Together, exchange_together}
use Rattle.compared.proofs.Together.{Stop, first_refused, second_refused, both-ended, first_ended, second_ended, differ, answer_at, answer-of}
use Rattle.compared.proofs.Means.{Sizes, first_long, second_long, both_fit, sizes}

-- ---- two instructions

eq_list_sym : (x y : List ℕ) → eq_list x y ≡ eq_list y x
eq_list_sym x y = go (eq_list x y) refl (eq_list y x) refl
  where
    go : (s : Bool) → eq_list x y ≡ s → (t : Bool) → eq_list y x ≡ t → s ≡ t
    go true e true f = refl
    go false e false f = refl
    go true e false f =
        let w : false ≡ true = sym f ∙ ap (λ (z : List ℕ). eq_list z x) (sym (eq_list-is x y e)) ∙ eq_list_self x in
        let v : ◌≡◌ {A = ℕ} 0 1 = cc in
        absurd (omega arith)
    go false e true f =
        let w : false ≡ true = sym e ∙ ap (eq_list x) (eq_list-is y x f) ∙ eq_list_self x in
        let v : ◌≡◌ {A = ℕ} 0 1 = cc in
        absurd (omega arith)

first_exchanged : (es : List Entry) (i : Instruction) (n : ℕ) (j : Instruction) (m : ℕ) → first_of es i n j m ≡ first_of es j m i n
first_exchanged [] i n j m = refl
first_exchanged (e ∷ es) i n j m =
    rw (eq_list_sym (e.numbers i n) (e.numbers j m))
    (ap (λ (d : Option Field). cond (agrees e j m i n) d (Some e.called)) (first_exchanged es i n j m))

-- Two instructions differ first in the same field, whichever stands first.
pub difference_exchanged : (i : Instruction) (n : ℕ) (j : Instruction) (m : ℕ) → difference_of i n j m ≡ difference_of j m i n
unfolding difference_of
difference_exchanged i n j m = first_exchanged order i n j m

-- ---- two kernels

abbrev pub other_kernel : Kernel → Kernel
other_kernel Kernel.First = Kernel.Second
other_kernel Kernel.Second = Kernel.First

-- where the first kernel is refused, the second is too: both before the walks, or both at the address
abbrev pub BothRefused : List ℕ → List ℕ → ℕ → Refusal → Type 0
BothRefused a b at q =
    ((limit < length a) × (limit < length b) × (q ≡ refusal 1)) ⊎ ((length a ≤ limit) × (length b ≤ limit) × Refuses b at q)

-- from the answer on a and b, that on b and a
abbrev pub Exchanged : List ℕ → List ℕ → Comparison → Comparison → Type 0
Exchanged a b Comparison.Same d = d ≡ Comparison.Same
Exchanged a b (Comparison.Differs at f) d = d ≡ Comparison.Differs at f
Exchanged a b (Comparison.Ended at k) d = d ≡ Comparison.Ended at (other_kernel k)
Exchanged a b (Comparison.Refused at r Kernel.Second) d = d ≡ Comparison.Refused at r Kernel.First
Exchanged a b (Comparison.Refused at r Kernel.First) d =
    ((d ≡ Comparison.Refused at r Kernel.Second) × ((q : Refusal) → BothRefused a b at q → ⊥))
    ⊎ ((q : Refusal) × BothRefused a b at q × (d ≡ Comparison.Refused at q Kernel.First))

long_first : (a b : List ℕ) → limit < length a → compare_of a b ≡ Comparison.Refused 0 (refusal 1) Kernel.First
unfolding compare_of
long_first a b h = rw (lt-leb (length a) limit h)

module _ (a b : List ℕ) (la : length a ≤ limit) (lb : length b ≤ limit) (to : ℕ) (t : Together a b to) where
  -- the answer on b and a, where they stop
  back : (s : Stop b a to) → compare_of b a ≡ answer_at b a to s
  back s = answer-of b a lb la to (exchange_together a b to t) s

  -- the second kernel is not refused there
  alone : ((q : Refusal) → Refuses b to q → ⊥) → (q : Refusal) → BothRefused a b to q → ⊥
  alone h q (inl x) = let l = x.0 in omega arith
  alone h q (inr x) = h q x.2

  stop-exchanged : (s : Stop a b to) → Exchanged a b (answer_at a b to s) (compare_of b a)
  stop-exchanged (first_refused r f) = go (stands b to (within a b to t).1)
    where
      one : ((q : Refusal) → Refuses b to q → ⊥) → Exchanged a b (Comparison.Refused to r Kernel.First) (compare_of b a)
      one h = inl (back (second_refused r h f), alone h)

      go : Stands b to → Exchanged a b (Comparison.Refused to r Kernel.First) (compare_of b a)
      go (refuses q g) = inr (q, inr (la, lb, g), back (first_refused q g))
      go (ends e) = one (λ q (g : Refuses b to q). let l = g.0 in omega arith)
      go (finds j m g) = one (λ q (x : Refuses b to q). let e = sym g.1 ∙ x.1 in let z : ◌≡◌ {A = ℕ} 0 1 = cc in omega arith)
  stop-exchanged (second_refused r k g) = back (first_refused r g)
  stop-exchanged (both-ended e g) = back (both-ended g e)
  stop-exchanged (first_ended j m e g) = back (second_ended j m g e)
  stop-exchanged (second_ended i n f e) = back (first_ended i n e f)
  stop-exchanged (differ i n j m f x y d) = back (differ j m i n f y x (sym (difference_exchanged i n j m) ∙ d))

pub exchange : (a b : List ℕ) → Exchanged a b (compare_of a b) (compare_of b a)
exchange a b = go (sizes a b)
  where
    not-both : limit < length a → length b ≤ limit → (q : Refusal) → BothRefused a b 0 q → ⊥
    not-both h g q (inl x) = let l = x.1 in omega arith
    not-both h g q (inr x) = let l = x.0 in omega arith

    with_long : limit < length a → Sizes b a → Exchanged a b (Comparison.Refused 0 (refusal 1) Kernel.First) (compare_of b a)
    with_long h (first_long g e) = inr (refusal 1, inl (h, g, refl), e)
    with_long h (second_long g l e) = inl (e, not-both h g)
    with_long h (both_fit g l o) = absurd (omega arith)

    go : Sizes a b → Exchanged a b (compare_of a b) (compare_of b a)
    go (first_long h e) = rw e (with_long h (sizes b a))
    go (second_long h g e) = rw e (long_first b a g)
    go (both_fit la lb o) = rw o.answer (stop-exchanged a b la lb o.to o.together o.stop)
