use mathlib.Core.Path.{◌≡◌, refl, sym, ap₂}
use mathlib.Core.Bool.{Bool, true, false, ◌&&◌, ◌||◌}
use mathlib.Core.List.{List, [], ◌∷◌}
use Prim.Native.Nat.{ℕ, ◌<◌}
use lib.Dec.{eqb}
use borrow.Author.Tests.{eqb-true, ne_eqb}
use Rattle.bits.proofs.Table.{upto, agree, and_left, and_right}
use Rattle.isa.specs.Rows.{rows}
use Rattle.rows.specs.Table.{table}
use Rattle.finding.specs.Candidates.{first_in, end_in, candidates_of}
use Rattle.std.specs.declared.ops.Range.{Range}
use Rattle.std.proofs.Common.{rules}
use Rattle.finding.proofs.low.rows_with.Goals as goal

abbrev arms : List ℕ
arms =
    0b1010010 ∷ 0b0100000 ∷ 0b0000000 ∷ 0b0111110 ∷ 0b1111110 ∷ 0b0101110 ∷ 0b1011110 ∷ 0b0011110 ∷ 0b1001110 ∷ 0b0001110
    ∷ 0b1110010 ∷ 0b1100010 ∷ []

abbrev among : List ℕ → ℕ → Bool
among [] n = false
among (k ∷ ks) n = eqb n k || among ks n

abbrev NoneOf : List ℕ → ℕ → Type 0
NoneOf [] n = Unit {0}
NoneOf (k ∷ ks) n = NoneOf ks n × (n ≡ k → ⊥)

not-among : (ks : List ℕ) (n : ℕ) → NoneOf ks n → among ks n ≡ false
not-among [] n h = refl
not-among (k ∷ ks) n h = rw (ne_eqb n k h.1) (not-among ks n h.0)

abbrev empty : ℕ → Bool
empty low = eqb (first_in low table) 22 && eqb (end_in low table) 0

all_others : upto 128 (λ low. among arms low || empty low) ≡ upto 128 (λ low. true)
unfolding rows table
all_others = refl

none : (low : ℕ) → low < 128 → NoneOf arms low → ◌≡◌ {A = Range ℕ} (record { start = 22; end = 0 }) (candidates_of low table)
none low h o =
    let e = agree 128 (λ k. among arms k || empty k) (λ k. true) all_others low h in
    let q : empty low ≡ true = rw (not-among arms low o) at e in
    let f = eqb-true _ _ (and_left (eqb (first_in low table) 22) (eqb (end_in low table) 0) q) in
    let l = eqb-true _ _ (and_right (eqb (first_in low table) 22) (eqb (end_in low table) 0) q) in
    ap₂ (λ (a b : ℕ). record { start = a; end = b }) (sym f) (sym l)

pub returns-in_default : goal.returns-in_default
unfolding rows table
returns-in_default c = none c.args.low c.requires (search rules)
