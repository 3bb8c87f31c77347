-- What a walk has seen of the code: the bytes before the place where it stopped, and all of them if nothing was refused.
use Rattle.std.proofs.Common.{None}
use mathlib.Core.Path.{◌≡◌, refl, sym, ap, ◌∙◌}
use mathlib.Core.Bool.{Bool, true, false, cond}
use mathlib.Core.List.{List, [], ◌∷◌, ◌++◌}
use Prim.Native.Nat.{ℕ, zero, suc, ◌+◌, ◌≤◌}
use native.Mathlib.Nat.{add-zero, zero-add, le_refl, not-suc-le-zero}
use native.Mathlib.Omega.{arith}
use lib.Dec.{leb}
use lib.ListN.{length, take, drop, length-append, length-take, take-append-drop}
use lib.Seq.{take-add}
use Rattle.isa.proofs.Found.{found-length}
use Rattle.isa.specs.Decode.{decode_of}
use Rattle.isa.specs.Refusal.{refusal}
use Rattle.isa.specs.declared.answer.Refusal.{Refusal}
use Rattle.isa.specs.declared.instruction.Instruction.{Instruction}
use Rattle.walk.specs.Walk.{Walk, refused, stepped, walk_from, walk_of, limit, shown, stop, refusal_of}
use Rattle.walk.proofs.Steps.{step-all, shorter}

-- of a walk w from an address, through the code s, in at most k steps
pub record Seen (k at : ℕ) (s : List ℕ) (w : Walk) : Type 0 where
  pub before : shown w ≡ take (length (shown w)) s
  pub place : stop w ≡ at + length (shown w)
  pub whole : length s ≤ k → refusal_of w ≡ None → shown w ≡ s

seen-refused : (k at : ℕ) (s : List ℕ) (r : Refusal) → Seen k at s (refused at r)
seen-refused k at s r =
    record {
      before = refl;
      place = sym (add-zero at);
      whole = λ h e. let z : ◌≡◌ {A = ℕ} 0 1 = cc in absurd (omega arith);
    }

seen_step : (k at n : ℕ) (s : List ℕ) (i : Instruction) (w : Walk) → n ≤ length s → (length s ≤ suc k → length (drop n s) ≤ k)
    → Seen k (at + n) (drop n s) w → Seen (suc k) at s (stepped at (take n s) i w)
seen_step k at n s i w h g v =
    let t : length (take n s) ≡ n = rw length-take (omega arith) in
    let l : length (take n s ++ shown w) ≡ n + length (shown w) =
    length-append (take n s) (shown w) ∙ ap (λ (m : ℕ). m + length (shown w)) t in
    record {
      before = rw l (ap (λ (x : List ℕ). take n s ++ x) v.before ∙ sym (take-add n (length (shown w)) s));
      place = omega (arith, v.place);
      whole = λ a e. ap (λ (x : List ℕ). take n s ++ x) (v.whole (g a) e) ∙ take-append-drop n s;
    }

nothing : (s : List ℕ) → length s ≤ 0 → [] ≡ s
nothing [] h = refl
nothing (b ∷ s) h = absurd (not-suc-le-zero h)

seen-from : (k at : ℕ) (s : List ℕ) → Seen k at s (walk_from k at s)
unfolding walk_from
seen-from zero at s = record { before = refl; place = sym (add-zero at); whole = λ h e. nothing s h }
seen-from (suc k) at [] = record { before = refl; place = sym (add-zero at); whole = λ h e. refl }
seen-from (suc k) at (b ∷ s) =
    step-all (Seen (suc k) at (b ∷ s)) (decode_of (b ∷ s)) (walk_from k) at (b ∷ s)
    (λ i n e.
    seen_step k at n (b ∷ s) i (walk_from k (at + n) (drop n (b ∷ s))) (found-length (b ∷ s) i n e).2
    (λ h. shorter b s i n k e (omega arith))
    (seen-from k (at + n) (drop n (b ∷ s))))
    (λ r. seen-refused (suc k) at (b ∷ s) r)

pub seen : (code : List ℕ) → Seen (length code) 0 code (walk_of code)
unfolding walk_of
seen code = one (leb (length code) limit)
  where
    one : (t : Bool) → Seen (length code) 0 code (cond t (walk_from (length code) 0 code) (refused 0 (refusal 1)))
    one true = seen-from (length code) 0 code
    one false = seen-refused (length code) 0 code (refusal 1)

-- A walk that reaches the end has shown every byte.
pub shown-whole : (a : List ℕ) → refusal_of (walk_of a) ≡ None → shown (walk_of a) ≡ a
shown-whole a e = (seen a).whole (le_refl (length a)) e

-- The bytes shown are those before the address where the walk stops.
pub shown-before : (a : List ℕ) → shown (walk_of a) ≡ take (stop (walk_of a)) a
shown-before a = (seen a).before ∙ ap (λ (n : ℕ). take n a) (sym ((seen a).place ∙ zero-add (length (shown (walk_of a)))))
