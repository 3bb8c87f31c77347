-- The rows of sources, and how many bits their values have.
use mathlib.Core.Path.{◌≡◌, refl, ◌∙◌}
use mathlib.Core.Bool.{Bool, true, false, cond}
use mathlib.Core.List.{List, [], ◌∷◌}
use Prim.Native.Nat.{ℕ, ◌/◌, ◌%◌, ◌^◌, ◌<◌}
use native.Mathlib.Omega.{arith}
use lib.Dec.{eqb}
use lib.ListN.{length, get_or, set, replicate}
use Rattle.machine.specs.Lanes.{tab}
use Rattle.machine.specs.Words.{Tables, half_of, pair_of, source_value, source_size}
use Rattle.machine.specs.declared.input.Input.{Input}
use Rattle.machine.proofs.Tab.{get_or-tab, tab_cong}
use Rattle.isa.specs.declared.operand.Source.{Source}
use Rattle.lanes.specs.Sources.{Row, RowOver, Bounded, gather_over}

pub half_below : (h word : ℕ) → word < 2 ^ 32 → half_of h word < 2 ^ 16
half_below h word b = go (eqb (h % 2) 0)
  where
    go : (even : Bool) → cond even (word % 2 ^ 16) (word / 2 ^ 16) < 2 ^ 16
    go true = omega arith
    go false = omega arith

pub pair_below : (first second : ℕ) → first < 2 ^ 32 → second < 2 ^ 32 → pair_of first second < 2 ^ 64
pair_below first second a b = omega arith

-- a row of one value is the row that has it for each thread
pub row_alike : (v : ℕ) → replicate 32 v ≡ tab 32 (λ t. v)
unfolding tab
row_alike v = refl

-- a row of values that are within the size
pub row_made : (f : ℕ → ℕ) (size : ℕ) (row : List ℕ) → row ≡ tab 32 f → ((t : ℕ) → f t < 2 ^ size) → Row row f size
row_made f size row e b = (e, λ t h. rw (e, get_or-tab 32 f t 0 h) (b t))

-- the row of a source, by its case
pub source_made : (registers uniforms row : List ℕ) (s s' : Source) (f : ℕ → ℕ) → s ≡ s' → row ≡ tab 32 f
    → ((t : ℕ) → f t ≡ source_value registers uniforms s' t) → ((t : ℕ) → source_value registers uniforms s' t < 2 ^ source_size s')
    → Row row (source_value registers uniforms s) (source_size s)
source_made registers uniforms row s s' f e p q b =
    rw e
    (row_made (source_value registers uniforms s') (source_size s') row
    (p ∙ tab_cong 32 f (source_value registers uniforms s') (λ t h. q t)) b)

-- three rows become those of three sources
pub gathered : (tables : Tables) (registers : List ℕ) (sources : List (List ℕ)) (x y z : List ℕ) (a b c : Input) → length sources ≡ 3
    → RowOver a tables registers (get_or sources 0 []) x → RowOver b tables registers (get_or (set sources 0 x) 1 []) y
    → RowOver c tables registers (get_or (set (set sources 0 x) 1 y) 2 []) z
    → (set (set (set sources 0 x) 1 y) 2 z ≡ gather_over tables registers a b c sources)
    × Bounded (set (set (set sources 0 x) 1 y) 2 z) a b c
unfolding gather_over
gathered tables registers (p ∷ q ∷ r ∷ []) x y z a b c e f g h =
    ((λ i. f.0 i ∷ g.0 i ∷ h.0 i ∷ []), record { a = f.1; b = g.1; c = h.1 })
gathered tables registers [] x y z a b c e f g h = absurd (omega arith)
gathered tables registers (p ∷ []) x y z a b c e f g h = absurd (omega arith)
gathered tables registers (p ∷ q ∷ []) x y z a b c e f g h = absurd (omega arith)
gathered tables registers (p ∷ q ∷ r ∷ s ∷ l) x y z a b c e f g h = absurd (omega arith)
