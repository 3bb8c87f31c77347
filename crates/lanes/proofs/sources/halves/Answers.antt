use Prim.Native.Nat.{ℕ, ◌+◌, ◌*◌, ◌/◌, ◌%◌, ◌^◌}
use mathlib.Core.Path.{◌≡◌, ◌∙◌}
use mathlib.Core.Bool.{cond}
use lib.Dec.{eqb}
use lib.ListN.{get_or}
use Rattle.std.proofs.Common.{rules}
use Rattle.machine.proofs.Made.{made_row}
use Rattle.lanes.specs.Sources.{half_at}
use Rattle.lanes.proofs.Halves.{half_part}
use Rattle.lanes.proofs.sources.halves.Goals as goal

pub returns : goal.returns
returns c =
    let a = c.args in
    let i : ℕ → ℕ = λ t. 32 * (a.h / 2) + t in
    made_row _ (half_at a.file.now a.h) _ (λ t v f' k.
    let e : v ≡ get_or a.file.now (i t) 0 / 2 ^ cond (eqb (a.h % 2) 0) 0 16 % 2 ^ 16 = search rules in
    (e ∙ half_part a.h (get_or a.file.now (i t) 0) (c.type_inv.file (i t)).fits, search rules)) c.from_fn.result 32 c.from_fn.ensures.items
