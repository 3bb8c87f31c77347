-- Laws of the marks: of every mark made anew, of what holds of any half or thread.
use mathlib.Core.Path.{◌≡◌, refl, ap, ap₂, ◌∙◌}
use mathlib.Core.Bool.{Bool, true, false, cond}
use mathlib.Core.List.{List, [], ◌∷◌, ◌++◌}
use Prim.Native.Nat.{ℕ, zero, suc, ◌+◌, ◌*◌, ◌/◌, ◌%◌, ◌<◌}
use native.Mathlib.Omega.{arith}
use native.Mathlib.Decide.{ℕ_discrete}
use lib.ListN.{length, get_or}
use Rattle.machine.specs.Lanes.{any_below}
use Rattle.machine.specs.Meaning.{Meaning, either}
use Rattle.machine.specs.Marks.{any_of, each_mark_from, each_mark, mark_after, marks_after}

-- ---- every mark made anew

length_from : (i : ℕ) (f : ℕ → ℕ → ℕ → ℕ) (l : List ℕ) → length (each_mark_from i f l) ≡ length l
length_from i f [] = refl
length_from i f (x ∷ l) = ap suc (length_from (suc i) f l)

pub length-each : (f : ℕ → ℕ → ℕ → ℕ) (l : List ℕ) → length (each_mark f l) ≡ length l
unfolding each_mark
length-each f l = length_from 0 f l

get_or-from : (i : ℕ) (f : ℕ → ℕ → ℕ → ℕ) (l : List ℕ) (k d : ℕ) → k < length l
    → get_or (each_mark_from i f l) k d ≡ f ((i + k) / 32) ((i + k) % 32) (get_or l k d)
get_or-from i f [] k d h = absurd (omega arith)
get_or-from i f (x ∷ l) zero d h =
    let e : i ≡ i + 0 = omega arith in
    ap (λ (j : ℕ). f (j / 32) (j % 32) x) e
get_or-from i f (x ∷ l) (suc k) d h =
    let e : suc i + k ≡ i + suc k = omega arith in
    get_or-from (suc i) f l k d (omega arith) ∙ ap (λ (j : ℕ). f (j / 32) (j % 32) (get_or l k d)) e

pub get_or-each : (f : ℕ → ℕ → ℕ → ℕ) (l : List ℕ) (k d : ℕ) → k < length l → get_or (each_mark f l) k d ≡ f (k / 32) (k % 32) (get_or l k d)
unfolding each_mark
get_or-each f l k d h =
    let e : 0 + k ≡ k = omega arith in
    get_or-from 0 f l k d h ∙ ap (λ (j : ℕ). f (j / 32) (j % 32) (get_or l k d)) e

-- the mark of half h of thread t
pub mark_each : (f : ℕ → ℕ → ℕ → ℕ) (l : List ℕ) (h t : ℕ) → t < 32 → 32 * h + t < length l
    → get_or (each_mark f l) (32 * h + t) 0 ≡ f h t (get_or l (32 * h + t) 0)
mark_each f l h t k n =
    let p : (32 * h + t) / 32 ≡ h = omega arith in
    let q : (32 * h + t) % 32 ≡ t = omega arith in
    get_or-each f l (32 * h + t) 0 n ∙ ap₂ (λ (x y : ℕ). f x y (get_or l (32 * h + t) 0)) p q

cong_from : (i : ℕ) (f g : ℕ → ℕ → ℕ → ℕ) (l : List ℕ) → ((h t x : ℕ) → t < 32 → f h t x ≡ g h t x) → each_mark_from i f l ≡ each_mark_from i g l
cong_from i f g [] e = refl
cong_from i f g (x ∷ l) e = ap₂ ◌∷◌ (e (i / 32) (i % 32) x (omega arith)) (cong_from (suc i) f g l e)

pub each_cong : (f g : ℕ → ℕ → ℕ → ℕ) (l : List ℕ) → ((h t x : ℕ) → t < 32 → f h t x ≡ g h t x) → each_mark f l ≡ each_mark g l
unfolding each_mark
each_cong f g l e = cong_from 0 f g l e

then_from : (i : ℕ) (f g : ℕ → ℕ → ℕ → ℕ) (l : List ℕ) → each_mark_from i f (each_mark_from i g l) ≡ each_mark_from i (λ h t x. f h t (g h t x)) l
then_from i f g [] = refl
then_from i f g (x ∷ l) = ap (λ (m : List ℕ). f (i / 32) (i % 32) (g (i / 32) (i % 32) x) ∷ m) (then_from (suc i) f g l)

-- made anew twice
pub each_then : (f g : ℕ → ℕ → ℕ → ℕ) (l : List ℕ) → each_mark f (each_mark g l) ≡ each_mark (λ h t x. f h t (g h t x)) l
unfolding each_mark
each_then f g l = then_from 0 f g l

kept_from_lem : (i : ℕ) (f : ℕ → ℕ → ℕ → ℕ) (l : List ℕ) → ((h t x : ℕ) → f h t x ≡ x) → each_mark_from i f l ≡ l
kept_from_lem i f [] e = refl
kept_from_lem i f (x ∷ l) e = ap₂ ◌∷◌ (e (i / 32) (i % 32) x) (kept_from_lem (suc i) f l e)

-- each as it was
pub each-kept : (f : ℕ → ℕ → ℕ → ℕ) (l : List ℕ) → ((h t x : ℕ) → f h t x ≡ x) → each_mark f l ≡ l
unfolding each_mark
each-kept f l e = kept_from_lem 0 f l e

pub length-marks : (m : Meaning) (mask : ℕ) (l : List ℕ) → length (marks_after m mask l) ≡ length l
unfolding marks_after
length-marks m mask l = length-each (mark_after m mask) l

-- ---- any half, any thread

pub any_of-append : (f : ℕ → Bool) (a b : List ℕ) → any_of f (a ++ b) ≡ either (any_of f a) (any_of f b)
any_of-append f [] b = refl
any_of-append f (h ∷ a) b = go (f h) (any_of-append f a b)
  where
    go : (p : Bool) → any_of f (a ++ b) ≡ either (any_of f a) (any_of f b)
        → cond p true (any_of f (a ++ b)) ≡ either (cond p true (any_of f a)) (any_of f b)
    go true e = refl
    go false e = e

pub any_below_cong : (n : ℕ) (f g : ℕ → Bool) → ((t : ℕ) → t < n → f t ≡ g t) → any_below n f ≡ any_below n g
unfolding any_below
any_below_cong zero f g h = refl
any_below_cong (suc n) f g h = λ i. cond (h n (omega arith) i) true (any_below_cong n f g (λ t k. h t (omega arith)) i)

pub any_below-none : (n : ℕ) (f : ℕ → Bool) → ((t : ℕ) → t < n → f t ≡ false) → any_below n f ≡ false
unfolding any_below
any_below-none zero f h = refl
any_below-none (suc n) f h = rw (h n (omega arith)) (any_below-none n f (λ t k. h t (omega arith)))

both-parts : (p q : Bool) → cond p true q ≡ false → (p ≡ false) × (q ≡ false)
both-parts true q e = let z : ◌≡◌ {A = ℕ} 0 1 = cc in absurd (omega arith)
both-parts false q e = (refl, e)

pub any_below_false : (n : ℕ) (f : ℕ → Bool) → any_below n f ≡ false → (t : ℕ) → t < n → f t ≡ false
unfolding any_below
any_below_false zero f e t h = absurd (omega arith)
any_below_false (suc n) f e t h = go (ℕ_discrete t n) (any_below_false n f)
  where
    p : (f n ≡ false) × (any_below n f ≡ false)
    p = both-parts (f n) (any_below n f) e

    go : Dec (t ≡ n) → (any_below n f ≡ false → (u : ℕ) → u < n → f u ≡ false) → f t ≡ false
    go (yes q) ih = ap f q ∙ p.0
    go (no q) ih = ih p.1 t (omega arith)

four : (p q x y : Bool) → cond (either p q) true (either x y) ≡ either (cond p true x) (cond q true y)
four true q x y = refl
four false true true y = refl
four false true false y = refl
four false false true y = refl
four false false false y = refl

pub any_below-either : (n : ℕ) (f g : ℕ → Bool) → any_below n (λ t. either (f t) (g t)) ≡ either (any_below n f) (any_below n g)
unfolding any_below
any_below-either zero f g = refl
any_below-either (suc n) f g =
    ap (λ (b : Bool). cond (either (f n) (g n)) true b) (any_below-either n f g) ∙ four (f n) (g n) (any_below n f) (any_below n g)
