-- Changes of one thread's own register words: they leave the words of the others, and go by the thread's own words alone.
use mathlib.Core.Path.{◌≡◌, refl, sym, ap, ◌∙◌}
use mathlib.Core.Bool.{Bool, true, false, cond}
use mathlib.Core.List.{List}
use Prim.Native.Nat.{ℕ, zero, suc, ◌+◌, ◌*◌, ◌/◌, ◌%◌, ◌^◌, ◌≤◌, ◌<◌}
use native.Mathlib.Omega.{arith}
use native.Mathlib.Decide.{dec_lt, ℕ_discrete}
use lib.ListN.{length, get_or, set, length-set}
use lib.Seq.{get_or-set_same, get_or-set_other, set_out}
use Rattle.isa.specs.declared.operand.Destination.{Destination}
use Rattle.isa.specs.declared.operand.Source.{Source}
use Rattle.machine.proofs.Tab.{each_keeps}
use Rattle.machine.specs.Lanes.{each, active_in}
use Rattle.machine.specs.Words.{Tables, word_at, half_of, with_half, source_value, value_of, store_of}
use Rattle.machine.specs.Step.{Result, write_thread}
use Rattle.machine.specs.declared.input.Input.{Input}

-- thread t's words are the same
abbrev pub Same : ℕ → List ℕ → List ℕ → Type 0
Same t a b = (r : ℕ) → word_at a r t ≡ word_at b r t

pub record Own (t : ℕ) (f : List ℕ → List ℕ) : Type 0 where
  pub keeps : (l : List ℕ) → length (f l) ≡ length l
  pub leaves : (u : ℕ) → u < 32 → (t ≡ u → ⊥) → (l : List ℕ) → Same u (f l) l
  pub goes_by : (a b : List ℕ) → length a ≡ length b → Same t a b → Same t (f a) (f b)

-- ---- a word set

set_cong : (a b : List ℕ) (i j v : ℕ) → length a ≡ length b → get_or a j 0 ≡ get_or b j 0 → get_or (set a i v) j 0 ≡ get_or (set b i v) j 0
set_cong a b i j v l e = go (ℕ_discrete j i) (dec_lt i (length a))
  where
    go : Dec (j ≡ i) → Dec (i < length a) → get_or (set a i v) j 0 ≡ get_or (set b i v) j 0
    go (no n) d = get_or-set_other a i j v 0 n ∙ e ∙ sym (get_or-set_other b i j v 0 n)
    go (yes y) (yes h) = rw y (get_or-set_same a i v 0 h ∙ sym (get_or-set_same b i v 0 (omega arith)))
    go (yes y) (no h) = rw (set_out a i v (omega arith), set_out b i v (omega arith)) e

-- thread t's word of register r, set to what goes by its words
own-set : (t r : ℕ) → t < 32 → (v : List ℕ → ℕ) → ((a b : List ℕ) → Same t a b → v a ≡ v b) → Own t (λ l. set l (32 * r + t) (v l))
own-set t r h v g = record {
  keeps = λ l. length-set l (32 * r + t) (v l);
  leaves = λ u k n l q. get_or-set_other l (32 * r + t) (32 * q + u) (v l) 0 (λ e. n (omega arith));
  goes_by = λ a b l w q. rw (g a b w) (set_cong a b (32 * r + t) (32 * q + t) (v b) l (w q));
}

own_then : (t : ℕ) (f g : List ℕ → List ℕ) → Own t f → Own t g → Own t (λ l. g (f l))
own_then t f g p q = record {
  keeps = λ l. q.keeps (f l) ∙ p.keeps l;
  leaves = λ u k n l r. q.leaves u k n (f l) r ∙ p.leaves u k n l r;
  goes_by = λ a b l w. q.goes_by (f a) (f b) (p.keeps a ∙ l ∙ sym (p.keeps b)) (p.goes_by a b l w);
}

own_if : (t : ℕ) (b : Bool) (f : List ℕ → List ℕ) → Own t f → Own t (λ l. cond b (f l) l)
own_if t true f p = p
own_if t false f p = record { keeps = λ l. refl; leaves = λ u k n l r. refl; goes_by = λ a b l w. w }

-- ---- reading and writing

pub own_store : (d : Destination) (t v : ℕ) → t < 32 → Own t (store_of d t v)
unfolding store_of
own_store (Destination.Half x) t v h =
    own-set t (x / 2) h (λ l. with_half x v (word_at l (x / 2) t)) (λ a b w. ap (with_half x v) (w (x / 2)))
own_store (Destination.Register r) t v h = own-set t r h (λ l. v) (λ a b w. refl)
own_store (Destination.Pair r) t v h =
    own_then t (λ l. set l (32 * r + t) (v % 2 ^ 32)) (λ l. set l (32 * (r + 1) + t) (v / 2 ^ 32))
    (own-set t r h (λ l. v % 2 ^ 32) (λ a b w. refl)) (own-set t (r + 1) h (λ l. v / 2 ^ 32) (λ a b w. refl))

pub own_write : (d : Destination) (result : Result) (mask t a b c : ℕ) → t < 32 → Own t (write_thread d result mask t a b c)
unfolding write_thread
own_write d result mask t a b c h = own_if t (active_in mask t) _ (own_store d t _ h)

-- what a thread reads goes by its own words
source_same : (uniforms a b : List ℕ) (t : ℕ) (x : Source) → Same t a b → source_value a uniforms x t ≡ source_value b uniforms x t
unfolding source_value
source_same uniforms a b t (Source.Half h) w = ap (half_of h) (w (h / 2))
source_same uniforms a b t (Source.Register r) w = w r
source_same uniforms a b t (Source.Pair r) w = rw (w r, w (r + 1))
source_same uniforms a b t (Source.UniformHalf h) w = refl
source_same uniforms a b t (Source.UniformRegister r) w = refl
source_same uniforms a b t (Source.UniformPair r) w = refl
source_same uniforms a b t (Source.Immediate v) w = refl

pub read_same : (tables : Tables) (a b : List ℕ) (t : ℕ) (x : Input) → Same t a b → value_of tables a x t ≡ value_of tables b x t
unfolding value_of
read_same tables a b t Input.Nothing w = refl
read_same tables a b t (Input.Operand x) w = source_same tables.uniforms a b t x.source w
read_same tables a b t (Input.Special k) w = refl

-- ---- a change for each thread in turn, seen from one thread

module _ (f : ℕ → List ℕ → List ℕ) (own : (t : ℕ) → t < 32 → Own t (f t)) (l : List ℕ) where
  pub each-length : (n : ℕ) → n ≤ 32 → length (each n f l) ≡ length l
  each-length n h = each_keeps (λ m. length m ≡ length l) n f (λ t k m p. (own t (omega arith)).keeps m ∙ p) l refl

  each-before : (n t : ℕ) → n ≤ t → t < 32 → Same t (each n f l) l
  each-before n t h k =
      each_keeps (λ m. Same t m l) n f (λ u g m p r. (own u (omega arith)).leaves t k (λ e. omega arith) m r ∙ p r) l (λ r. refl)

  pub each_at : (n t : ℕ) → t < n → n ≤ 32 → Same t (each n f l) (f t l)
  unfolding each
  each_at zero t h k r = absurd (omega arith)
  each_at (suc n) t h k r = go (ℕ_discrete n t) (λ p. each_at n t p (omega arith) r)
    where
      go : Dec (n ≡ t) → (t < n → word_at (each n f l) r t ≡ word_at (f t l) r t) → word_at (f n (each n f l)) r t ≡ word_at (f t l) r t
      go (yes e) ih =
          rw e ((own t (omega arith)).goes_by (each t f l) l (each-length t (omega arith)) (each-before t t (omega arith) (omega arith)) r)
      go (no e) ih = (own n k).leaves t (omega arith) e (each n f l) r ∙ ih (omega arith)
