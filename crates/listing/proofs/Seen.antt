-- A walk through bytes is of bytes: those of each of its instructions.
use mathlib.Core.Bool.{Bool, true, false, cond}
use mathlib.Core.List.{List, [], ◌∷◌}
use Prim.Native.Nat.{ℕ, zero, suc, ◌+◌}
use lib.Dec.{leb}
use lib.ListN.{length, drop}
use Rattle.bits.proofs.Laws.{Bytes, bytes_take, bytes_drop}
use Rattle.isa.specs.Decode.{decode_of}
use Rattle.isa.specs.Refusal.{refusal}
use Rattle.walk.specs.Walk.{refused, walk_from, walk_of, limit}
use Rattle.walk.proofs.Steps.{step-all}
use Rattle.listing.proofs.Apart.{Plain}

plain_from : (k at : ℕ) (s : List ℕ) → Bytes s → Plain (walk_from k at s)
unfolding walk_from
plain_from zero at s h = tt
plain_from (suc k) at [] h = tt
plain_from (suc k) at (b ∷ s) h =
    step-all Plain (decode_of (b ∷ s)) (walk_from k) at (b ∷ s)
    (λ i n e. (bytes_take n (b ∷ s) h, plain_from k (at + n) (drop n (b ∷ s)) (bytes_drop n (b ∷ s) h)))
    (λ r. tt)

pub plain : (code : List ℕ) → Bytes code → Plain (walk_of code)
unfolding walk_of
plain code h = one (leb (length code) limit)
  where
    one : (t : Bool) → Plain (cond t (walk_from (length code) 0 code) (refused 0 (refusal 1)))
    one true = plain_from (length code) 0 code h
    one false = tt
