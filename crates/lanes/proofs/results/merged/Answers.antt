use Prim.Native.Nat.{ℕ, ◌+◌, ◌*◌, ◌/◌, ◌%◌, ◌^◌}
use mathlib.Core.Path.{◌≡◌, ◌∙◌}
use mathlib.Core.Bool.{cond}
use lib.Bits.{bit_and, bit_or}
use lib.Dec.{eqb}
use lib.ListN.{get_or}
use Rattle.std.proofs.Common.{rules}
use Rattle.machine.proofs.Made.{made_row}
use Rattle.lanes.specs.Results.{merged_at}
use Rattle.lanes.proofs.Halves.{half_merge}
use Rattle.lanes.proofs.results.merged.Goals as goal

pub returns : goal.returns
returns c =
    let a = c.args in
    let i : ℕ → ℕ = λ t. 32 * (a.h / 2) + t in
    made_row _ (merged_at a.registers.now a.h a.row.now) _ (λ t v f' k.
    let e : v ≡ bit_or (bit_and (get_or a.registers.now (i t) 0) (cond (eqb (a.h % 2) 0) 4294901760 65535))
    (get_or a.row.now t 0 % 2 ^ 16 * 2 ^ cond (eqb (a.h % 2) 0) 0 16 % 2 ^ 32) = search rules in
    (e ∙ half_merge a.h (get_or a.registers.now (i t) 0) (c.type_inv.registers (i t)).fits (get_or a.row.now t 0), search rules)) c.from_fn.result 32 c.from_fn.ensures.items
