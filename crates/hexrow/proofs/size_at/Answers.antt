-- No room for a row, or no colon.
use Rattle.std.specs.Prelude.{None}
use mathlib.Core.Path.{◌≡◌}
use mathlib.Core.Bool.{and-false}
use mathlib.Core.List.{List}
use Prim.Native.Nat.{ℕ, ◌+◌, ◌*◌, ◌<◌}
use native.Mathlib.Omega.{arith}
use lib.Dec.{eqb, ltb}
use lib.ListN.{length, drop, get_or, length-drop}
use lib.Seq.{get_or-drop}
use borrow.Author.Tests.{ne_eqb}
use Rattle.std.proofs.lemmas.List.{drop_all}
use Rattle.hexpairs.specs.Pairs.{pair_value}
use Rattle.hexpairs.specs.Reads.{counted}
use Rattle.hexrow.specs.Reads.{size_by}
use Rattle.hexrow.proofs.size_at.Goals as goal
use Rattle.hexrow.proofs.size_at.Goals.{then-text-at-lt11-via-then-text-at-lt11, then-text-at-lt11-via-else-text-at-lt11+then-text-at-ne58}

short : (s : List ℕ) → length s < 11 → None ≡ counted (size_by s)
short s h =
    rw (drop_all (2 * pair_value (drop 1 s) + 11) s (omega (arith, h)), and-false (ltb (pair_value (drop 1 s)) 256), and-false (eqb (get_or s 0 0) 58))

no_colon : (s : List ℕ) → (get_or s 0 0 ≡ 58 → ⊥) → None ≡ counted (size_by s)
no_colon s h = rw (ne_eqb (get_or s 0 0) 58 h)

pub returns-then-text-at-lt11 : goal.returns-then-text-at-lt11
returns-then-text-at-lt11 c =
    let a = c.args in
    elim c.then-text-at-lt11.branch [
      | then-text-at-lt11-via-then-text-at-lt11 w ↦
          short (drop a.at a.text.now) (let h = w.if-text-at-lt11.true in omega (arith, length-drop a.at a.text.now))
      | then-text-at-lt11-via-else-text-at-lt11+then-text-at-ne58 w ↦
          let z : a.at + 0 ≡ a.at = omega arith in no_colon (drop a.at a.text.now) (rw (get_or-drop a.at a.text.now 0, z) w.if-text-at-ne58.true)
    ]
