-- What each answer means. The same: exactly where both walks reach the end and all bytes are equal. A field, an end or a refusal: what
-- stands at the address in each kernel, and that all bytes before it are equal.
use Rattle.std.proofs.Common.{Ok, Some, None}
use mathlib.Core.Path.{◌≡◌, refl, sym, ap, ap₂, ◌∙◌}
use mathlib.Core.Bool.{Bool, true, false, cond}
use mathlib.Core.List.{List}
use mathlib.Core.Logic.{◌↔◌, ◌⊎◌, inl, inr}
use Prim.Native.Nat.{ℕ, ◌≤◌, ◌<◌}
use native.Mathlib.Omega.{arith}
use lib.Dec.{leb}
use lib.ListN.{length, take}
use lib.Seq.{take-length}
use borrow.Author.Tests.{le-leb, leb-true, leb-false}
use Rattle.bits.proofs.Laws.{Bytes}
use Rattle.isa.specs.Refusal.{refusal}
use Rattle.isa.specs.declared.answer.Refusal.{Refusal}
use Rattle.isa.specs.declared.instruction.Instruction.{Instruction}
use Rattle.isa.specs.Answer.{Decoded}
use Rattle.walk.specs.Walk.{refused, walk_from, walk_of, limit, refusal_of}
use Rattle.comparison.specs.Order.{order, difference_of}
use Rattle.comparison.specs.Compare.{compare_of}
use Rattle.comparison.specs.declared.Field.{Field}
use Rattle.comparison.specs.declared.Kernel.{Kernel}
use Rattle.comparison.specs.declared.Comparison.{Comparison}
use Rattle.compared.proofs.Complete.{no_difference_self}
use Rattle.compared.proofs.First.{FirstIn, named_first}
use Rattle.compared.proofs.Together.{Finds, Refuses, rest, rest-ends, rest-finds, rest-refuses, Together, start, on, same-before, exchange_together}
use Rattle.compared.proofs.Together.{Stop, first_refused, second_refused, both-ended, first_ended, second_ended, differ, answer_at, Outcome, outcome}

-- ---- kernels that are too long

pub data Sizes (a b : List ℕ) : Type 0 where
  first_long : limit < length a → compare_of a b ≡ Comparison.Refused 0 (refusal 1) Kernel.First → Sizes a b
  second_long : length a ≤ limit → limit < length b → compare_of a b ≡ Comparison.Refused 0 (refusal 1) Kernel.Second → Sizes a b
  both_fit : length a ≤ limit → length b ≤ limit → Outcome a b → Sizes a b

pub sizes : (a b : List ℕ) → Sizes a b
unfolding compare_of
sizes a b = go (leb (length a) limit) refl (leb (length b) limit) refl
  where
    go : (s : Bool) → leb (length a) limit ≡ s → (t : Bool) → leb (length b) limit ≡ t → Sizes a b
    go true e true f =
        let h = leb-true (length a) limit e in
        let g = leb-true (length b) limit f in
        both_fit h g (outcome a b h g)
    go true e false f = second_long (leb-true (length a) limit e) (leb-false (length b) limit f) (rw (e, f))
    go false e t f = first_long (leb-false (length a) limit e) (rw e)

-- ---- the same

-- the walk of a kernel ends as what is left of it does
walk_from_lem : (a b : List ℕ) (to : ℕ) → Together a b to → refusal_of (rest a to) ≡ refusal_of (rest a 0)
walk_from_lem a b to (start _ e) = rw e
walk_from_lem a b to (on _ at i n t f g e) = rw e (sym (ap refusal_of (rest-finds a at i n f)) ∙ walk_from_lem a b at t)

pub walk_whole : (a : List ℕ) → length a ≤ limit → walk_of a ≡ rest a 0
unfolding walk_of
walk_whole a h = rw (le-leb (length a) limit h)

-- a walk that is not refused is of a kernel that is not too long
not_long : (a : List ℕ) → refusal_of (walk_of a) ≡ None → length a ≤ limit
unfolding walk_of
not_long a e = go (leb (length a) limit) refl e
  where
    go : (s : Bool) → leb (length a) limit ≡ s → refusal_of (cond s (walk_from (length a) 0 a) (refused 0 (refusal 1))) ≡ None → length a ≤ limit
    go true f e = leb-true (length a) limit f
    go false f e = let z : ◌≡◌ {A = ℕ} 0 1 = cc in absurd (omega arith)

abbrev pub Ends : List ℕ → Type 0
Ends code = refusal_of (walk_of code) ≡ None

module _ (a b : List ℕ) where
  same_ends : Bytes a → Bytes b → length a ≤ limit → length b ≤ limit → (to : ℕ) → Together a b to → to ≡ length a → to ≡ length b
      → Ends a × Ends b × (a ≡ b)
  same_ends ha hb la lb to t e f =
      let u = exchange_together a b to t in (
        ap refusal_of (walk_whole a la) ∙ sym (walk_from_lem a b to t) ∙ ap refusal_of (rest-ends a to e),
        ap refusal_of (walk_whole b lb) ∙ sym (walk_from_lem b a to u) ∙ ap refusal_of (rest-ends b to f),
        sym (take-length a) ∙ ap (λ (k : ℕ). take k a) (sym e) ∙ same-before a b ha hb to t ∙ ap (λ (k : ℕ). take k b) f ∙ take-length b,
      )

  same_then : Bytes a → Bytes b → compare_of a b ≡ Comparison.Same → Ends a × Ends b × (a ≡ b)
  same_then ha hb s = go (sizes a b)
    where
      at : length a ≤ limit → length b ≤ limit → (to : ℕ) → Together a b to → (x : Stop a b to) → answer_at a b to x ≡ Comparison.Same
          → Ends a × Ends b × (a ≡ b)
      at la lb to t (first_refused r f) e = let z : ◌≡◌ {A = ℕ} 0 1 = cc in absurd (omega arith)
      at la lb to t (second_refused r k g) e = let z : ◌≡◌ {A = ℕ} 0 1 = cc in absurd (omega arith)
      at la lb to t (both-ended x y) e = same_ends ha hb la lb to t x y
      at la lb to t (first_ended j m x y) e = let z : ◌≡◌ {A = ℕ} 0 1 = cc in absurd (omega arith)
      at la lb to t (second_ended i n x y) e = let z : ◌≡◌ {A = ℕ} 0 1 = cc in absurd (omega arith)
      at la lb to t (differ i n j m f x y d) e = let z : ◌≡◌ {A = ℕ} 0 1 = cc in absurd (omega arith)

      go : Sizes a b → Ends a × Ends b × (a ≡ b)
      go (first_long h e) = let w = sym s ∙ e in let z : ◌≡◌ {A = ℕ} 0 1 = cc in absurd (omega arith)
      go (second_long h g e) = let w = sym s ∙ e in let z : ◌≡◌ {A = ℕ} 0 1 = cc in absurd (omega arith)
      go (both_fit la lb o) = at la lb o.to o.together o.stop (sym o.answer ∙ s)

-- a kernel whose walk reaches the end, with itself
self_same : (a : List ℕ) → Ends a → compare_of a a ≡ Comparison.Same
self_same a w = let h = not_long a w in let o = outcome a a h h in o.answer ∙ at h o.to o.together o.stop
  where
    none_here : length a ≤ limit → (to : ℕ) → Together a a to → (r : Refusal) → Refuses a to r → ⊥
    none_here h to t r f =
        let e = sym w ∙ ap refusal_of (walk_whole a h) ∙ sym (walk_from_lem a a to t) ∙ ap refusal_of (rest-refuses a to r f) in
        let z : ◌≡◌ {A = ℕ} 0 1 = cc in
        omega arith

    at : length a ≤ limit → (to : ℕ) → Together a a to → (x : Stop a a to) → answer_at a a to x ≡ Comparison.Same
    at h to t (first_refused r f) = absurd (none_here h to t r f)
    at h to t (second_refused r k g) = absurd (none_here h to t r g)
    at h to t (both-ended x y) = refl
    at h to t (first_ended j m x y) = let l = y.0 in absurd (omega arith)
    at h to t (second_ended i n x y) = let l = x.0 in absurd (omega arith)
    at h to t (differ i n j m f x y d) =
        let e : ◌≡◌ {A = Decoded} (Ok (i, n)) (Ok (j, m)) = sym x.1 ∙ y.1 in
        let pair : ◌≡◌ {A = Instruction × ℕ} (i, n) (j, m) = cc in
        let p : i ≡ j = ap (λ (z : Instruction × ℕ). z.0) pair in
        let q : n ≡ m = ap (λ (z : Instruction × ℕ). z.1) pair in
        let v : Some f ≡ None = sym d ∙ ap₂ (λ (k : Instruction) (l : ℕ). difference_of i n k l) (sym p) (sym q) ∙ no_difference_self i n in
        let z : ◌≡◌ {A = ℕ} 0 1 = cc in
        absurd (omega arith)

-- The answer is `same` exactly where both walks reach the end and all bytes are equal.
pub same_exactly : (a b : List ℕ) → Bytes a → Bytes b → (compare_of a b ≡ Comparison.Same) ↔ (Ends a × Ends b × (a ≡ b))
same_exactly a b ha hb =
    (same_then a b ha hb, (λ h. ap (λ (x : List ℕ). compare_of a x) (sym h.2) ∙ self_same a h.0))

-- ---- a field, an end, a refusal

-- all bytes before the address are equal, both kernels have an instruction there, and this is the first field in which they differ
pub record DiffersAt (a b : List ℕ) (at : ℕ) (f : Field) : Type 0 where
  pub before : take at a ≡ take at b
  pub i : Instruction
  pub n : ℕ
  pub first : Finds a at i n
  pub j : Instruction
  pub m : ℕ
  pub second : Finds b at j m
  pub field : FirstIn order i n j m f

-- one kernel ends at the address, and in the other an instruction stands there
pub record EndedAt (shorter longer : List ℕ) (at : ℕ) : Type 0 where
  pub before : take at shorter ≡ take at longer
  pub end : at ≡ length shorter
  pub j : Instruction
  pub m : ℕ
  pub goes_on_lem : Finds longer at j m

-- the refusal of a kernel at an address that both reach
pub record RefusedAt (code other : List ℕ) (at : ℕ) (r : Refusal) : Type 0 where
  pub before : take at code ≡ take at other
  pub refuses : Refuses code at r

-- what is said of the answer
abbrev pub Means : List ℕ → List ℕ → Comparison → Type 0
Means a b Comparison.Same = Ends a × Ends b × (a ≡ b)
Means a b (Comparison.Differs at f) = DiffersAt a b at f
Means a b (Comparison.Ended at Kernel.First) = EndedAt a b at
Means a b (Comparison.Ended at Kernel.Second) = EndedAt b a at
Means a b (Comparison.Refused at r Kernel.First) = ((limit < length a) × (at ≡ 0) × (r ≡ refusal 1)) ⊎ RefusedAt a b at r
Means a b (Comparison.Refused at r Kernel.Second) =
    ((length a ≤ limit) × (limit < length b) × (at ≡ 0) × (r ≡ refusal 1)) ⊎ (RefusedAt b a at r × ((q : Refusal) → Refuses a at q → ⊥))

-- Every answer means what is said of it.
pub means : (a b : List ℕ) → Bytes a → Bytes b → Means a b (compare_of a b)
means a b ha hb = go (sizes a b)
  where
    at : length a ≤ limit → length b ≤ limit → (to : ℕ) → Together a b to → (x : Stop a b to) → Means a b (answer_at a b to x)
    at la lb to t (first_refused r f) = inr (record { before = same-before a b ha hb to t; refuses = f })
    at la lb to t (second_refused r k g) = inr (record { before = sym (same-before a b ha hb to t); refuses = g }, k)
    at la lb to t (both-ended x y) = same_ends a b ha hb la lb to t x y
    at la lb to t (first_ended j m x y) = record { before = same-before a b ha hb to t; end = x; j = j; m = m; goes_on_lem = y }
    at la lb to t (second_ended i n x y) = record { before = sym (same-before a b ha hb to t); end = y; j = i; m = n; goes_on_lem = x }
    at la lb to t (differ i n j m f x y d) =
        record {
          before = same-before a b ha hb to t;
          i = i;
          n = n;
          first = x;
          j = j;
          m = m;
          second = y;
          field = named_first i n j m f d;
        }

    go : Sizes a b → Means a b (compare_of a b)
    go (first_long h e) = rw e (inl (h, refl, refl))
    go (second_long h g e) = rw e (inl (h, g, refl, refl))
    go (both_fit la lb o) = rw o.answer (at la lb o.to o.together o.stop)
