-- Writing rows of words, one register after the other, is writing each thread's destination, one thread after the other.
use mathlib.Core.Path.{◌≡◌, refl, sym, ap, ap₂, ◌∙◌}
use mathlib.Core.Bool.{Bool, true, false, cond}
use mathlib.Core.List.{List}
use Prim.Native.Nat.{ℕ, zero, suc, ◌+◌, ◌*◌, ◌/◌, ◌%◌, ◌^◌, ◌≤◌, ◌<◌}
use native.Mathlib.Nat.{div-one}
use native.Mathlib.Omega.{arith}
use lib.ListN.{get_or, set}
use lib.Pow.{mod-mod-pow, field}
use lib.Seq.{set-get_or, set_comm, get_or-set_other}
use Rattle.isa.specs.declared.operand.Destination.{Destination}
use Rattle.machine.specs.Lanes.{tab, each, active_in}
use Rattle.machine.specs.Words.{with_half, word_at, store_of}
use Rattle.machine.proofs.Tab.{get_or-tab, each_cong}
use Rattle.lanes.specs.Results.{store_lane, store_all, word_lane, column_of, merged_at}

-- ---- changes for each thread in turn

-- equal where they are made
each_at {ℓ} : {S : Type ℓ} (n : ℕ) (f g : ℕ → S → S) (s : S) → ((t : ℕ) → t < n → f t (each t f s) ≡ g t (each t f s))
    → each n f s ≡ each n g s
unfolding each
each_at zero f g s h = refl
each_at (suc n) f g s h = h n (omega arith) ∙ ap (g n) (each_at n f g s (λ t k. h t (omega arith)))

each_past {ℓ} : {S : Type ℓ} (n : ℕ) (f : S → S) (g : ℕ → S → S) → ((t : ℕ) → t < n → (s : S) → g t (f s) ≡ f (g t s))
    → (s : S) → each n g (f s) ≡ f (each n g s)
unfolding each
each_past zero f g h s = refl
each_past (suc n) f g h s = ap (g n) (each_past n f g (λ t k. h t (omega arith)) s) ∙ h n (omega arith) (each n g s)

-- two changes for each thread, all of the one and then all of the other, or thread by thread
each_both {ℓ} : {S : Type ℓ} (n : ℕ) (f g : ℕ → S → S)
    → ((t u : ℕ) → t < u → u < n → (s : S) → g t (f u s) ≡ f u (g t s))
    → (s : S) → each n g (each n f s) ≡ each n (λ t x. g t (f t x)) s
unfolding each
each_both zero f g h s = refl
each_both (suc n) f g h s =
    ap (g n)
    (each_past n (f n) g (λ t k. h t n k (omega arith)) (each n f s)
    ∙ ap (f n) (each_both n f g (λ t u p q. h t u p (omega arith)) s))

-- ---- one word of a thread

module _ (row : List ℕ) (mask r : ℕ) where
  -- writing back what an inactive thread has changes nothing
  lane : (t v : ℕ) (words : List ℕ) → get_or row t 0 ≡ v
      → word_lane row mask r t words ≡ cond (active_in mask t) (set words (32 * r + t) v) words
  unfolding word_lane
  lane t v words e = go (active_in mask t)
    where
      i : ℕ
      i = 32 * r + t

      go : (on : Bool) → set words i (cond on (get_or row t 0) (get_or words i 0)) ≡ cond on (set words i v) words
      go true = ap (set words i) e
      go false = set-get_or words i 0

  -- no thread writes the word of one after it
  later : (registers : List ℕ) (n t : ℕ) → n ≤ t → word_at (each n (word_lane row mask r) registers) r t ≡ word_at registers r t
  unfolding each word_lane
  later registers zero t h = refl
  later registers (suc n) t h =
      get_or-set_other (each n (word_lane row mask r) registers) (32 * r + n) (32 * r + t)
      (cond (active_in mask n) (get_or row n 0) (word_at (each n (word_lane row mask r) registers) r n)) 0 (λ e. omega arith)
      ∙ later registers n t (omega arith)

-- two words in either order
swap : (row row' : List ℕ) (mask r r' t u : ℕ) → (32 * r + u ≡ 32 * r' + t → ⊥) → (words : List ℕ)
    → word_lane row' mask r' t (word_lane row mask r u words) ≡ word_lane row mask r u (word_lane row' mask r' t words)
unfolding word_lane
swap row row' mask r r' t u ne words =
    ap (λ (x : ℕ). set (set words i a) j (cond (active_in mask t) (get_or row' t 0) x))
    (get_or-set_other words i j a 0 (λ e. ne (sym e)))
    ∙ set_comm words i j a b ne
    ∙ ap (λ (x : ℕ). set (set words j b) i (cond (active_in mask u) (get_or row u 0) x)) (sym (get_or-set_other words j i b 0 ne))
  where
    i : ℕ
    i = 32 * r + u

    j : ℕ
    j = 32 * r' + t

    a : ℕ
    a = cond (active_in mask u) (get_or row u 0) (get_or words i 0)

    b : ℕ
    b = cond (active_in mask t) (get_or row' t 0) (get_or words j 0)

-- ---- the kinds of destination

-- the column from bit 0 on has the low words
low_is : (values : List ℕ) (t : ℕ) → t < 32 → get_or (tab 32 (column_of values 0)) t 0 ≡ get_or values t 0 % 2 ^ 32
low_is values t k = get_or-tab 32 (column_of values 0) t 0 k ∙ ap (λ (x : ℕ). x % 2 ^ 32) (div-one (get_or values t 0))

pub put-words : (values : List ℕ) (mask r : ℕ) (registers : List ℕ)
    → each 32 (word_lane (tab 32 (column_of values 0)) mask r) registers ≡ store_all values mask (Destination.Register r) registers
unfolding store_lane store_of
put-words values mask r registers =
    each_cong 32 (word_lane (tab 32 (column_of values 0)) mask r) (store_lane values mask (Destination.Register r))
    (λ t k words. lane (tab 32 (column_of values 0)) mask r t (get_or values t 0 % 2 ^ 32) words (low_is values t k)) registers

pub put_halves : (values : List ℕ) (mask h : ℕ) (registers : List ℕ)
    → each 32 (word_lane (tab 32 (merged_at registers h (tab 32 (column_of values 0)))) mask (h / 2)) registers
    ≡ store_all values mask (Destination.Half h) registers
unfolding store_lane store_of
put_halves values mask h registers =
    each_at 32 (word_lane row mask (h / 2)) (store_lane values mask (Destination.Half h)) registers (λ t k.
    lane row mask (h / 2) t
    (with_half h (get_or values t 0 % 2 ^ 16) (word_at (each t (word_lane row mask (h / 2)) registers) (h / 2) t))
    (each t (word_lane row mask (h / 2)) registers)
    (get_or-tab 32 (merged_at registers h low) t 0 k
    ∙ ap₂ (with_half h)
    (ap (λ (x : ℕ). x % 2 ^ 16) (low_is values t k) ∙ mod-mod-pow (get_or values t 0) 16 16)
    (sym (later row mask (h / 2) registers t t (omega arith)))))
  where
    low : List ℕ
    low = tab 32 (column_of values 0)

    row : List ℕ
    row = tab 32 (merged_at registers h low)

pub put-pairs : (values : List ℕ) (mask r : ℕ) (registers : List ℕ)
    → each 32 (word_lane (tab 32 (column_of values 32)) mask (r + 1)) (each 32 (word_lane (tab 32 (column_of values 0)) mask r) registers)
    ≡ store_all values mask (Destination.Pair r) registers
unfolding store_lane store_of
put-pairs values mask r registers =
    each_both 32 (word_lane low mask r) (word_lane high mask (r + 1))
    (λ t u p q words. swap low high mask r (r + 1) t u (λ e. omega arith) words) registers
    ∙ each_cong 32 (λ t words. word_lane high mask (r + 1) t (word_lane low mask r t words))
    (store_lane values mask (Destination.Pair r)) pair registers
  where
    low : List ℕ
    low = tab 32 (column_of values 0)

    high : List ℕ
    high = tab 32 (column_of values 32)

    both : (on : Bool) (i j a a' b b' : ℕ) (words : List ℕ) → a ≡ a' → b ≡ b'
        → cond on (set (cond on (set words i a) words) j b) (cond on (set words i a) words)
        ≡ cond on (set (set words i a') j b') words
    both true i j a a' b b' words p q = ap₂ (λ (x y : ℕ). set (set words i x) j y) p q
    both false i j a a' b b' words p q = refl

    pair : (t : ℕ) → t < 32 → (words : List ℕ)
        → word_lane high mask (r + 1) t (word_lane low mask r t words) ≡ store_lane values mask (Destination.Pair r) t words
    pair t k words =
        ap (word_lane high mask (r + 1) t) (lane low mask r t (get_or values t 0 % 2 ^ 32) words (low_is values t k))
        ∙ lane high mask (r + 1) t (column_of values 32 t) (cond (active_in mask t) (set words (32 * r + t) (get_or values t 0 % 2 ^ 32)) words)
        (get_or-tab 32 (column_of values 32) t 0 k)
        ∙ both (active_in mask t) (32 * r + t) (32 * (r + 1) + t) (get_or values t 0 % 2 ^ 32) (get_or values t 0 % 2 ^ 64 % 2 ^ 32)
        (column_of values 32 t) (get_or values t 0 % 2 ^ 64 / 2 ^ 32) words
        (sym (mod-mod-pow (get_or values t 0) 32 32)) (sym (field (get_or values t 0) 32 32))
