-- Every row has four to eight bytes, computed over the list; so two of them are absent where its L is 0.
use mathlib.Core.Path.{◌≡◌, refl}
use mathlib.Core.Bool.{Bool, ◌&&◌}
use Prim.Native.Nat.{ℕ, ◌≤◌, ◌<◌}
use native.Mathlib.Omega.{arith}
use lib.Dec.{T, leb, leb→le}
use borrow.Author.Tests.{ne_eqb}
use Rattle.bits.proofs.Table.{left, right, all, all-at}
use Rattle.isa.specs.Diagram.{Diagram}
use Rattle.isa.specs.Rows.{rows}
use Rattle.isa.specs.Find.{absent}
use Rattle.isa.specs.Decode.{no_diagram, row_at}
use Rattle.isa.proofs.Placed.{length-rows}

abbrev four_to_eight : Diagram → Bool
four_to_eight d = leb 4 d.bytes && leb d.bytes 8

all-rows : T (all four_to_eight rows)
unfolding rows
all-rows = tt

pub bytes-of_row : (k : ℕ) → k < 22 → (4 ≤ (row_at k).bytes) × ((row_at k).bytes ≤ 8)
bytes-of_row k h =
    let t = all-at four_to_eight rows no_diagram all-rows k (rw length-rows h) in
    (leb→le 4 _ (left (leb 4 (row_at k).bytes) _ t), leb→le _ 8 (right (leb 4 (row_at k).bytes) _ t))

pub two_absent : (n : ℕ) → n ≤ 8 → absent n ≡ 2
two_absent n h = rw (ne_eqb n 12 (λ e. omega arith)) refl
