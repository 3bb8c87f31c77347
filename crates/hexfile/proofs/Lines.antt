-- The lines of a text are its first line and those of what follows it.
use mathlib.Core.Path.{◌≡◌, refl, ap}
use mathlib.Core.Bool.{Bool, true, false, cond}
use mathlib.Core.List.{List, [], ◌∷◌}
use Prim.Native.Nat.{ℕ, ◌≤◌, ◌<◌}
use native.Mathlib.Omega.{arith}
use lib.Dec.{eqb}
use lib.ListN.{length, drop}
use Rattle.hexrow.specs.Row.{line_of}
use Rattle.hexfile.specs.Read.{onto, lines_of}

abbrev Split : List ℕ → Type 0
Split s = lines_of s ≡ line_of s ∷ lines_of (drop (length (line_of s)) s)

split_one : (c : ℕ) (s : List ℕ) → (b : Bool) → eqb c 10 ≡ b
    → onto c (lines_of s) ≡ (c ∷ line_of s) ∷ lines_of (drop (length (line_of s)) s) → Split (c ∷ s)
unfolding lines_of line_of
split_one c s true e h = rw e
split_one c s false e h = rw e h

split : (c : ℕ) (s : List ℕ) → Split (c ∷ s)
unfolding lines_of line_of
split c [] = split_one c [] (eqb c 10) refl refl
split c (d ∷ s) = split_one c (d ∷ s) (eqb c 10) refl (ap (onto c) (split d s))

pub lines_first : (s : List ℕ) → 0 < length s → Split s
lines_first [] h = absurd (omega arith)
lines_first (c ∷ s) h = split c s

pub line_within : (s : List ℕ) → length (line_of s) ≤ length s
unfolding line_of
line_within [] = omega arith
line_within (c ∷ s) = go (eqb c 10) (line_within s)
  where
    go : (b : Bool) → length (line_of s) ≤ length s → length (cond b (c ∷ []) (c ∷ line_of s)) ≤ length (c ∷ s)
    go true h = omega arith
    go false h = omega arith
