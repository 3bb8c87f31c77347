use mathlib.Core.Path.{◌≡◌}
use Prim.Native.Nat.{ℕ, ◌<◌}
use lib.ListN.{length, get_or}
use native.Mathlib.Omega.{arith}
use Rattle.std.proofs.Common.{rules, length-take, length-drop}
use Rattle.markrows.proofs.Parts.{part_filled}
use Rattle.markrows.proofs.fill.Goals as goal

pub returns : goal.returns
returns c =
    let a = c.args in
    let row = c.fill.new.self in
    let size : length row ≡ 32 = rw c.fill.ensures.len (simp (length-take, length-drop) (omega arith)) in
    let all : (i : ℕ) → i < 32 → get_or row i 0 ≡ a.v = λ i h. search rules in
    part_filled a.h a.v a.marks.now row c.requires size all
