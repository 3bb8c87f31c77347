-- A walk, one step at a time: at each address an instruction with the walk after it, or the refusal; and as many steps as there are
-- bytes are enough.
use Rattle.std.proofs.Common.{Ok, Err}
use mathlib.Core.Path.{◌≡◌, refl, ap, ◌∙◌}
use mathlib.Core.List.{List, [], ◌∷◌}
use Prim.Native.Nat.{ℕ, zero, suc, ◌+◌, ◌≤◌, ◌<◌}
use native.Mathlib.Nat.{not-suc-le-zero}
use native.Mathlib.Omega.{arith}
use lib.ListN.{length, take, drop, length-drop}
use lib.Seq.{drop-drop}
use Rattle.isa.proofs.Found.{found-length}
use Rattle.isa.specs.Decode.{decode_of}
use Rattle.isa.specs.declared.answer.Refusal.{Refusal}
use Rattle.isa.specs.Answer.{Decoded}
use Rattle.isa.specs.declared.instruction.Instruction.{Instruction}
use Rattle.walk.specs.Walk.{Walk, refused, stepped, on_decoded, walk_from}

-- an instruction with the walk after it, or the refusal
abbrev pub step_by : Decoded → (ℕ → List ℕ → Walk) → ℕ → List ℕ → Walk
step_by d next at s = on_decoded d (λ i n. stepped at (take n s) i (next (at + n) (drop n s))) (λ r. refused at r)

pub step-all : (P : Walk → Type 0) (d : Decoded) (next : ℕ → List ℕ → Walk) (at : ℕ) (s : List ℕ)
    → ((i : Instruction) (n : ℕ) → d ≡ Ok (i, n) → P (stepped at (take n s) i (next (at + n) (drop n s))))
    → ((r : Refusal) → P (refused at r))
    → P (step_by d next at s)
step-all P (Ok (i, n)) next at s h k = h i n refl
step-all P (Err r) next at s h k = k r

step_same : (d : Decoded) (f g : ℕ → List ℕ → Walk) (at : ℕ) (s : List ℕ)
    → ((i : Instruction) (n : ℕ) → d ≡ Ok (i, n) → f (at + n) (drop n s) ≡ g (at + n) (drop n s))
    → step_by d f at s ≡ step_by d g at s
step_same (Ok (i, n)) f g at s h = ap (λ (w : Walk). stepped at (take n s) i w) (h i n refl)
step_same (Err x) f g at s h = refl

pub shorter : (b : ℕ) (s : List ℕ) (i : Instruction) (n k : ℕ) → decode_of (b ∷ s) ≡ Ok (i, n) → length s ≤ k
    → length (drop n (b ∷ s)) ≤ k
shorter b s i n k e h = let f = found-length (b ∷ s) i n e in rw length-drop (omega arith)

-- as many steps as there are bytes are enough
enough : (j k at : ℕ) (s : List ℕ) → length s ≤ j → length s ≤ k → walk_from j at s ≡ walk_from k at s
unfolding walk_from
enough zero zero at s h g = refl
enough zero (suc k) at [] h g = refl
enough zero (suc k) at (b ∷ s) h g = absurd (not-suc-le-zero h)
enough (suc j) zero at [] h g = refl
enough (suc j) zero at (b ∷ s) h g = absurd (not-suc-le-zero g)
enough (suc j) (suc k) at [] h g = refl
enough (suc j) (suc k) at (b ∷ s) h g =
    step_same (decode_of (b ∷ s)) (walk_from j) (walk_from k) at (b ∷ s)
    (λ i n e.
    enough j k (at + n) (drop n (b ∷ s)) (shorter b s i n j e (omega arith)) (shorter b s i n k e (omega arith)))

-- as many steps as there are bytes
abbrev pub walk_all : ℕ → List ℕ → Walk
walk_all at s = walk_from (length s) at s

first_step : (at : ℕ) (s : List ℕ) → 0 < length s → walk_all at s ≡ step_by (decode_of s) walk_all at s
unfolding walk_from
first_step at [] h = absurd (not-suc-le-zero h)
first_step at (b ∷ s) h =
    step_same (decode_of (b ∷ s)) (walk_from (length s)) walk_all at (b ∷ s)
    (λ i n e.
    enough (length s) (length (drop n (b ∷ s))) (at + n) (drop n (b ∷ s)) (shorter b s i n (length s) e (omega arith))
    (omega arith))

-- the same at an address of the whole code
pub step-at : (code : List ℕ) (at : ℕ) → at < length code
    → walk_all at (drop at code) ≡ step_by (decode_of (drop at code)) (λ a s. walk_all a (drop a code)) at (drop at code)
step-at code at h =
    let p : 0 < length (drop at code) = rw length-drop (omega arith) in
    first_step at (drop at code) p
    ∙ step_same (decode_of (drop at code)) walk_all (λ a s. walk_all a (drop a code)) at (drop at code)
    (λ i n e. ap (walk_all (at + n)) (drop-drop n at code))
