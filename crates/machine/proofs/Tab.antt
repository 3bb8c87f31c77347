-- Laws of what is made for each lane: lists, and changes one after the other.
use mathlib.Core.Path.{◌≡◌, refl, sym, ap, ◌∙◌}
use mathlib.Core.List.{List, [], ◌∷◌, ◌++◌}
use Prim.Native.Nat.{ℕ, zero, suc, ◌+◌, ◌<◌}
use lib.ListN.{length, get_or, length-append, get_or-append}
use lib.Seq.{get_or_at}
use native.Mathlib.Decide.{dec_lt}
use native.Mathlib.Omega.{arith}
use native.Mathlib.Numerals.{add-one}
use Rattle.std.proofs.lemmas.Grind.{same_number_lists}
use Rattle.machine.specs.Lanes.{tab, each}

pub length-tab {ℓ} : {A : Type ℓ} (n : ℕ) (f : ℕ → A) → length (tab n f) ≡ n
unfolding tab
length-tab zero f = refl
length-tab (suc n) f = length-append (tab n f) (f n ∷ []) ∙ ap (λ (k : ℕ). k + 1) (length-tab n f) ∙ add-one n

pub get_or-tab {ℓ} : {A : Type ℓ} (n : ℕ) (f : ℕ → A) (i : ℕ) (d : A) → i < n → get_or (tab n f) i d ≡ f i
unfolding tab
get_or-tab zero f i d h = absurd (omega arith)
get_or-tab (suc n) f i d h = go (dec_lt i n) (get_or-tab n f i d)
  where
    go : Dec (i < n) → (i < n → get_or (tab n f) i d ≡ f i) → get_or (tab n f ++ (f n ∷ [])) i d ≡ f i
    go (yes l) ih = get_or-append (tab n f) (f n ∷ []) d i (rw length-tab l) ∙ ih l
    go (no l) ih =
        let e : i ≡ n = omega arith in
        rw e (get_or_at (tab n f) (f n) [] d n (length-tab n f))

-- a list of n numbers, each of them f's
pub tab_is : (n : ℕ) (f : ℕ → ℕ) (l : List ℕ) → length l ≡ n → ((t : ℕ) → t < n → get_or l t 0 ≡ f t) → l ≡ tab n f
tab_is n f l e h =
    same_number_lists l (tab n f) (e ∙ sym (length-tab n f)) (λ t k. h t (omega arith) ∙ sym (get_or-tab n f t 0 (omega arith)))

-- equal elements make equal lists
pub tab_cong {ℓ} : {A : Type ℓ} (n : ℕ) (f g : ℕ → A) → ((t : ℕ) → t < n → f t ≡ g t) → tab n f ≡ tab n g
unfolding tab
tab_cong zero f g h = refl
tab_cong (suc n) f g h =
    λ i. tab_cong n f g (λ t k. h t (omega arith)) i ++ (h n (omega arith) i ∷ [])

-- equal changes leave equal results
pub each_cong {ℓ} : {S : Type ℓ} (n : ℕ) (f g : ℕ → S → S) → ((t : ℕ) → t < n → (s : S) → f t s ≡ g t s)
    → (s : S) → each n f s ≡ each n g s
unfolding each
each_cong zero f g h s = refl
each_cong (suc n) f g h s = h n (omega arith) (each n f s) ∙ ap (g n) (each_cong n f g (λ t k. h t (omega arith)) s)

-- what each change keeps, all keep
pub each_keeps {ℓ ℓ'} : {S : Type ℓ} (P : S → Type ℓ') (n : ℕ) (f : ℕ → S → S)
    → ((t : ℕ) → t < n → (s : S) → P s → P (f t s)) → (s : S) → P s → P (each n f s)
unfolding each
each_keeps P zero f h s p = p
each_keeps P (suc n) f h s p = h n (omega arith) (each n f s) (each_keeps P n f (λ t k. h t (omega arith)) s p)
