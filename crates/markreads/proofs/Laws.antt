-- Which halves are marked, put together from rows and operands; and that it is what the definition of a step looks at.
use mathlib.Core.Path.{◌≡◌, refl, sym, ap, ap₂, ◌∙◌}
use mathlib.Core.Bool.{Bool, true, false, cond, not}
use mathlib.Core.List.{List, [], ◌∷◌, ◌++◌}
use Prim.Native.Nat.{ℕ, zero, suc, ◌+◌, ◌-◌, ◌*◌, ◌<◌}
use native.Mathlib.Omega.{arith}
use borrow.Author.Tests.{not-true}
use lib.Dec.{eqb}
use lib.ListN.{get_or}
use Rattle.machine.specs.Lanes.{active_in, pack}
use Rattle.machine.specs.Words.{half_of, word_at}
use Rattle.machine.specs.Meaning.{writes, masks, both, either}
use Rattle.machine.specs.State.{Threads}
use Rattle.machine.specs.Step.{Result}
use Rattle.machine.specs.Marks.{halves_from, any_of, marked_in, input_halves, reads_of, reads_marked}
use Rattle.machine.specs.declared.input.Input.{Input}
use Rattle.machine.proofs.Masks.{pack_bit, all_active_lem}
use Rattle.machine.proofs.Marks.{any_of-append, any_below_cong, any_below-none, any_below_false, any_below-either}
use Rattle.isa.specs.declared.operand.Destination.{Destination}
use Rattle.markrows.specs.Rows.{block_marked, row_marked_by}
use Rattle.markreads.specs.Marked.{halves_marked, data_reads, mask_reads}

nothing : (p : Bool) → both p false ≡ false
nothing true = refl
nothing false = refl

alone : (p : Bool) → cond p true false ≡ p
alone true = refl
alone false = refl

split : (p x y : Bool) → both p (either x y) ≡ either (both p x) (both p y)
split true x y = refl
split false x y = refl

-- the halves that a thread reads only under a condition
only : (f : ℕ → Bool) (p : Bool) (l : List ℕ) → any_of f (cond p l []) ≡ both p (any_of f l)
only f true l = refl
only f false l = refl

module _ (marks : List ℕ) where
  pub of_none : (who : ℕ) → halves_marked marks who [] ≡ false
  unfolding halves_marked
  of_none who = any_below-none 32 (λ t. both (active_in who t) false) (λ t h. nothing (active_in who t))

  pub of_one : (who h : ℕ) → halves_marked marks who (h ∷ []) ≡ row_marked_by marks h who
  unfolding halves_marked
  of_one who h =
      any_below_cong 32 (λ t. both (active_in who t) (cond (marked_in marks t h) true false)) (λ t. both (active_in who t) (marked_in marks t h))
      (λ t k. ap (both (active_in who t)) (alone (marked_in marks t h)))

  pub of_two : (who : ℕ) (a b : List ℕ) → halves_marked marks who (a ++ b) ≡ either (halves_marked marks who a) (halves_marked marks who b)
  unfolding halves_marked
  of_two who a b =
      any_below_cong 32 (λ t. both (active_in who t) (any_of (marked_in marks t) (a ++ b)))
      (λ t. either (both (active_in who t) (any_of (marked_in marks t) a)) (both (active_in who t) (any_of (marked_in marks t) b)))
      (λ t k. ap (both (active_in who t)) (any_of-append (marked_in marks t) a b) ∙ split (active_in who t) _ _)
      ∙ any_below-either 32 (λ t. both (active_in who t) (any_of (marked_in marks t) a)) (λ t. both (active_in who t) (any_of (marked_in marks t) b))

  -- the first halves are marked, or the others are as they are told
  pub either_true : (who : ℕ) (a b : List ℕ) {r : Bool} → r ≡ halves_marked marks who a → r ≡ true → true ≡ halves_marked marks who (a ++ b)
  either_true who a b e t = sym (of_two who a b ∙ ap (λ (p : Bool). either p (halves_marked marks who b)) (sym e ∙ t))

  pub either_false : (who : ℕ) (a b : List ℕ) {r q : Bool} → r ≡ halves_marked marks who a → r ≡ false → q ≡ halves_marked marks who b
      → q ≡ halves_marked marks who (a ++ b)
  either_false who a b e t f = f ∙ sym (of_two who a b ∙ ap (λ (p : Bool). either p (halves_marked marks who b)) (sym e ∙ t))

  -- of the halves from i on, before e: i is marked, or else those after it say it
  pub marked_here : (who i e : ℕ) → i < e → row_marked_by marks i who ≡ true → halves_marked marks who (halves_from i (e - i)) ≡ true
  marked_here who i e k t =
      let s : e - i ≡ suc (e - suc i) = omega arith in
      rw s (sym (either_true who (i ∷ []) (halves_from (suc i) (e - suc i)) (sym (of_one who i)) t))

  pub marked_next : (who i e : ℕ) → i < e → row_marked_by marks i who ≡ false
      → halves_marked marks who (halves_from i (e - i)) ≡ halves_marked marks who (halves_from (i + 1) (e - (i + 1)))
  marked_next who i e k f =
      let s : e - i ≡ suc (e - (i + 1)) = omega arith in
      let p : i + 1 ≡ suc i = omega arith in
      rw (s, p) (sym (either_false who (i ∷ []) (halves_from (suc i) (e - suc i)) (sym (of_one who i)) f refl))

  -- halves in a row that are clear
  none_from : (t h n : ℕ) → ((k : ℕ) → k < n → marked_in marks t (h + k) ≡ false) → any_of (marked_in marks t) (halves_from h n) ≡ false
  none_from t h zero f = refl
  none_from t h (suc n) f =
      let e : h + 0 ≡ h = omega arith in
      let z : marked_in marks t h ≡ false = ap (marked_in marks t) (sym e) ∙ f 0 (omega arith) in
      rw z (none_from t (suc h) n (λ k l. let g : suc h + k ≡ h + suc k = omega arith in ap (marked_in marks t) g ∙ f (suc k) (omega arith)))

  pub block_clear : (who h n : ℕ) → block_marked marks h n ≡ false → halves_marked marks who (halves_from h n) ≡ false
  unfolding halves_marked
  block_clear who h n e =
      any_below-none 32 (λ t. both (active_in who t) (any_of (marked_in marks t) (halves_from h n))) (λ t k.
      ap (both (active_in who t)) (none_from t h n (λ j l. clear t k j l)) ∙ nothing (active_in who t))
    where
      clear : (t : ℕ) → t < 32 → (j : ℕ) → j < n → marked_in marks t (h + j) ≡ false
      clear t k j l =
          let q : 32 * (h + j) + t ≡ 32 * h + (32 * j + t) = omega arith in
          ap (λ (i : ℕ). not (eqb (get_or marks i 0) 0)) q
          ∙ any_below_false (32 * n) (λ i. not (eqb (get_or marks (32 * h + i) 0) 0)) e (32 * j + t) (omega arith)

  -- halves that are clear in all threads are clear in some
  pub all-clear : (who : ℕ) (l : List ℕ) → halves_marked marks 4294967295 l ≡ false → halves_marked marks who l ≡ false
  unfolding halves_marked
  all-clear who l e =
      any_below-none 32 (λ t. both (active_in who t) (any_of (marked_in marks t) l)) (λ t k.
      let c : any_of (marked_in marks t) l ≡ false =
      rw (all_active_lem t k) at (any_below_false 32 (λ u. both (active_in 4294967295 u) (any_of (marked_in marks u) l)) e t k) in
      ap (both (active_in who t)) c ∙ nothing (active_in who t))

-- neither is marked in any thread
pub both-clear : (marks : List ℕ) (who : ℕ) (a b : List ℕ) {r q : Bool} → r ≡ halves_marked marks 4294967295 a → not r ≡ true
    → q ≡ halves_marked marks 4294967295 b → not q ≡ true → false ≡ halves_marked marks who (a ++ b)
both-clear marks who a b {r} {q} e f g h =
    let x = all-clear marks who a (sym e ∙ not-true r f) in
    let y = all-clear marks who b (sym g ∙ not-true q h) in
    sym (of_two marks who a b ∙ ap₂ (λ (m n : Bool). either m n) x y)

-- a data instruction reads by active threads
pub reads_data : (d : Destination) (a b c : Input) (result : Result) (s : Threads)
    → reads_marked (writes d a b c result) s ≡ data_reads s.marks a b c s.mask
unfolding reads_marked reads_of halves_marked
reads_data d a b c result s =
    any_below_cong 32 (λ t. any_of (marked_in s.marks t) (cond (active_in s.mask t) l []))
    (λ t. both (active_in s.mask t) (any_of (marked_in s.marks t) l))
    (λ t k. only (marked_in s.marks t) (active_in s.mask t) l)
  where
    l : List ℕ
    l = input_halves a ++ (input_halves b ++ input_halves c)

-- a mask instruction reads r0l by all threads, A and B by those that compare
pub reads_masks : (compares : ℕ → Bool) (a b : Input) (result : Result) (s : Threads)
    → reads_marked (masks compares a b result) s ≡ mask_reads s.marks compares a b s.registers
unfolding reads_marked reads_of halves_marked
reads_masks compares a b result s =
    any_below_cong 32 (λ t. cond (f t 0) true (any_of (f t) (cond (p t) l []))) (λ t. either (x t) (y t))
    (λ t k. ap₂ (λ (q r : Bool). cond q true r) (first t k) (only (f t) (p t) l ∙ ap (λ (q : Bool). both q (any_of (f t) l)) (sym (pack_bit 32 p t k))))
    ∙ any_below-either 32 x y
  where
    f : ℕ → ℕ → Bool
    f = marked_in s.marks

    l : List ℕ
    l = input_halves a ++ input_halves b

    p : ℕ → Bool
    p t = compares (half_of 0 (word_at s.registers 0 t))

    x : ℕ → Bool
    x t = both (active_in 4294967295 t) (any_of (f t) (0 ∷ []))

    y : ℕ → Bool
    y t = both (active_in (pack 32 p) t) (any_of (f t) l)

    first : (t : ℕ) → t < 32 → f t 0 ≡ x t
    first t k = rw (all_active_lem t k) (sym (alone (f t 0)))
