-- Marks that are set, put together from rows and operands; and that it is what the definition of a step makes of them.
use mathlib.Core.Path.{◌≡◌, refl, sym, ap, ap₂, ◌∙◌}
use mathlib.Core.Bool.{Bool, true, false, cond}
use mathlib.Core.List.{List, [], ◌∷◌, ◌++◌}
use Prim.Native.Nat.{ℕ, suc, ◌+◌, ◌-◌, ◌<◌}
use native.Mathlib.Omega.{arith}
use lib.Dec.{eqb}
use Rattle.isa.specs.declared.operand.Destination.{Destination}
use Rattle.machine.specs.Lanes.{active_in}
use Rattle.machine.specs.Meaning.{Meaning, writes, masks, both, either}
use Rattle.machine.specs.Step.{Result}
use Rattle.machine.specs.Marks.{halves_from, any_of, input_discards, destination_halves, discards_of, clears_of, mark_after, marks_after}
use Rattle.machine.specs.declared.input.Input.{Input}
use Rattle.machine.proofs.Masks.{all_active_lem}
use Rattle.machine.proofs.Marks.{each_cong, each_then, each-kept, any_of-append}
use Rattle.markrows.specs.Rows.{row_set}
use Rattle.marksets.specs.Sets.{halves_set, data_sets, mask_sets}

-- no halves
pub set-none : (who v : ℕ) (l : List ℕ) → l ≡ halves_set [] who v l
unfolding halves_set
set-none who v l = sym (each-kept (λ h t x. x) l (λ h t x. refl))

alone : (p : Bool) → cond p true false ≡ p
alone true = refl
alone false = refl

-- one half
pub set_one : (h who v : ℕ) (l : List ℕ) → row_set h who v l ≡ halves_set (h ∷ []) who v l
unfolding halves_set
set_one h who v l =
    each_cong (λ g t x. cond (both (eqb g h) (active_in who t)) v x) (λ g t x. cond (both (cond (eqb g h) true false) (active_in who t)) v x) l
    (λ g t x k. ap (λ (p : Bool). cond (both p (active_in who t)) v x) (sym (alone (eqb g h))))

-- some, and then others
pub set_two : (a b : List ℕ) (who v : ℕ) (l : List ℕ) → halves_set b who v (halves_set a who v l) ≡ halves_set (a ++ b) who v l
unfolding halves_set
set_two a b who v l =
    each_then (λ h t x. cond (both (any_of (eqb h) b) (active_in who t)) v x) (λ h t x. cond (both (any_of (eqb h) a) (active_in who t)) v x) l
    ∙ each_cong (λ h t x. cond (both (any_of (eqb h) b) (active_in who t)) v (cond (both (any_of (eqb h) a) (active_in who t)) v x))
    (λ h t x. cond (both (any_of (eqb h) (a ++ b)) (active_in who t)) v x) l
    (λ h t x k. go (any_of (eqb h) a) (any_of (eqb h) b) (active_in who t) x
    ∙ ap (λ (p : Bool). cond (both p (active_in who t)) v x) (sym (any_of-append (eqb h) a b)))
  where
    go : (p q w : Bool) (x : ℕ) → cond (both q w) v (cond (both p w) v x) ≡ cond (both (either p q) w) v x
    go true true true x = refl
    go true true false x = refl
    go true false true x = refl
    go true false false x = refl
    go false true true x = refl
    go false true false x = refl
    go false false true x = refl
    go false false false x = refl

-- of the halves from i on, before e: one, and then those after it
pub set_next : (i e who v : ℕ) (l : List ℕ) → i < e
    → halves_set (halves_from i (e - i)) who v l ≡ halves_set (halves_from (i + 1) (e - (i + 1))) who v (halves_set (halves_from i 1) who v l)
set_next i e who v l k =
    let s : e - i ≡ suc (e - (i + 1)) = omega arith in
    let p : i + 1 ≡ suc i = omega arith in
    rw (s, p) (sym (set_two (i ∷ []) (halves_from (suc i) (e - suc i)) who v l))

-- ---- instructions

-- in all threads
every : (t : ℕ) → t < 32 → (p : Bool) → both p (active_in 4294967295 t) ≡ p
every t k true = all_active_lem t k
every t k false = refl

abbrev setting : List ℕ → ℕ → ℕ → ℕ → ℕ → ℕ → ℕ
setting l who v h t x = cond (both (any_of (eqb h) l) (active_in who t)) v x

-- what is discarded in all threads, and then what is cleared
module _ (m : Meaning) (mask who : ℕ) (discarded cleared : List ℕ) (d : discards_of m ≡ discarded)
    (c : (h t : ℕ) → t < 32 → any_of (eqb h) (clears_of m mask t) ≡ both (any_of (eqb h) cleared) (active_in who t)) where
  pub settled : (l : List ℕ) → halves_set cleared who 0 (halves_set discarded 4294967295 1 l) ≡ marks_after m mask l
  unfolding halves_set marks_after mark_after
  settled l =
      each_then (setting cleared who 0) (setting discarded 4294967295 1) l
      ∙ each_cong (λ h t x. setting cleared who 0 h t (setting discarded 4294967295 1 h t x)) (mark_after m mask) l
      (λ h t x k.
      ap₂ (λ (p q : Bool). cond p 0 (cond q 1 x)) (sym (c h t k))
      (every t k (any_of (eqb h) discarded) ∙ ap (any_of (eqb h)) (sym d)))

only : (f : ℕ → Bool) (p : Bool) (l : List ℕ) → any_of f (cond p l []) ≡ both (any_of f l) p
only f true l = go (any_of f l)
  where
    go : (q : Bool) → q ≡ both q true
    go true = refl
    go false = refl
only f false l = go (any_of f l)
  where
    go : (q : Bool) → false ≡ both q false
    go true = refl
    go false = refl

pub sets_data : (d : Destination) (a b c : Input) (result : Result) (mask : ℕ) (l : List ℕ)
    → data_sets d a b c mask l ≡ marks_after (writes d a b c result) mask l
unfolding discards_of clears_of
sets_data d a b c result mask l =
    ap (halves_set (destination_halves d) mask 0)
    (set_two (input_discards b) (input_discards c) 4294967295 1 (halves_set (input_discards a) 4294967295 1 l)
    ∙ set_two (input_discards a) (input_discards b ++ input_discards c) 4294967295 1 l)
    ∙ settled (writes d a b c result) mask mask (input_discards a ++ (input_discards b ++ input_discards c)) (destination_halves d) refl
    (λ h t k. only (eqb h) (active_in mask t) (destination_halves d)) l

pub sets_masks : (compares : ℕ → Bool) (a b : Input) (result : Result) (mask : ℕ) (l : List ℕ)
    → mask_sets a b l ≡ marks_after (masks compares a b result) mask l
unfolding discards_of clears_of
sets_masks compares a b result mask l =
    ap (halves_set (0 ∷ []) 4294967295 0) (set_two (input_discards a) (input_discards b) 4294967295 1 l)
    ∙ settled (masks compares a b result) mask 4294967295 (input_discards a ++ input_discards b) (0 ∷ []) refl
    (λ h t k. sym (every t k (any_of (eqb h) (0 ∷ [])))) l
