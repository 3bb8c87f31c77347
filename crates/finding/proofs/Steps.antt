-- The steps of the loop along a table of rows.
use Rattle.std.proofs.Common.{Ok, Err}
use mathlib.Core.Path.{◌≡◌, sym, ap, ap₂, ◌∙◌}
use mathlib.Core.Bool.{Bool, true, false, cond}
use mathlib.Core.List.{List}
use Prim.Native.Nat.{ℕ, zero, suc, ◌+◌, ◌≤◌, ◌<◌}
use native.Mathlib.Numerals.{add-one}
use native.Mathlib.Omega.{arith}
use lib.Dec.{leb}
use lib.ListN.{drop, get_or, length, drop_of_length-le}
use lib.Seq.{drop-cons}
use borrow.Author.Tests.{le-leb, lt-leb}
use Rattle.bits.specs.Word.{ones}
use Rattle.isa.specs.Refusal.{refusal}
use Rattle.rows.specs.Table.{no_row}
use Rattle.rows.specs.declared.Row.{Row}
use Rattle.finding.specs.First.{agrees_with, agrees, length_by, first_of}

module _ (rs : List Row) (i : ℕ) (h : i < length rs) (w n : ℕ) (more : Bool) where
  next : first_of (drop i rs) i more w n
      ≡ cond (agrees (get_or rs i no_row) w n)
      (cond (leb (length_by (get_or rs i no_row) w) n) (Ok (i, length_by (get_or rs i no_row) w)) (first_of (drop (i + 1) rs) (i + 1) true w n))
      (first_of (drop (i + 1) rs) (i + 1) more w n)
  next = rw (add-one i) (ap (λ (l : List Row). first_of l i more w n) (drop-cons rs i no_row h))

  pub hit : agrees (get_or rs i no_row) w n ≡ true → length_by (get_or rs i no_row) w ≤ n
      → first_of (drop i rs) i more w n ≡ Ok (i, length_by (get_or rs i no_row) w)
  hit a l = next ∙ simp (a, le-leb _ _ l)

  pub wait : agrees (get_or rs i no_row) w n ≡ true → n < length_by (get_or rs i no_row) w
      → first_of (drop i rs) i more w n ≡ first_of (drop (i + 1) rs) (i + 1) true w n
  wait a l = next ∙ simp (a, lt-leb _ _ l)

  pub pass : agrees (get_or rs i no_row) w n ≡ false → first_of (drop i rs) i more w n ≡ first_of (drop (i + 1) rs) (i + 1) more w n
  pass a = next ∙ simp a

-- rows that do not agree can be left out
pub skip : (rs : List Row) (w n : ℕ) (more : Bool) (a d b : ℕ) → a + d ≡ b → b ≤ length rs
    → ((j : ℕ) → a ≤ j → j < b → agrees (get_or rs j no_row) w n ≡ false)
    → first_of (drop a rs) a more w n ≡ first_of (drop b rs) b more w n
skip rs w n more a zero b e h m =
    let q : a ≡ b = omega arith in
    ap (λ (x : ℕ). first_of (drop x rs) x more w n) q
skip rs w n more a (suc d) b e h m =
    pass rs a (omega arith) w n more (m a (omega arith) (omega arith))
    ∙ skip rs w n more (a + 1) d b (omega arith) h (λ j l g. m j (omega arith) g)

pub ends : (rs : List Row) (i w n : ℕ) (more : Bool) → length rs ≤ i
    → first_of (drop i rs) i more w n ≡ cond more (Err (refusal 2)) (Err (refusal 3))
ends rs i w n more h = ap (λ (l : List Row). first_of l i more w n) (drop_of_length-le rs h)

-- what the loop asks of a row that it read is what the definition asks
pub asked : (r s : Row) (k n w : ℕ) (b : Bool) → r ≡ s → k ≡ ones n → b ≡ agrees_with k r w → agrees s w n ≡ b
asked r s k n w b er ek eb = sym (eb ∙ ap₂ (λ (x : ℕ) (y : Row). agrees_with x y w) ek er)

pub measured : (r s : Row) (w m : ℕ) → r ≡ s → m ≡ length_by r w → length_by s w ≡ m
measured r s w m er em = sym (em ∙ ap (λ (x : Row). length_by x w) er)
