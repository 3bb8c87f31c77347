-- A half of a uniform, by its place.
use Prim.Native.Nat.{◌/◌, ◌%◌, ◌^◌}
use mathlib.Core.Path.{◌≡◌, ◌∙◌}
use mathlib.Core.Bool.{cond}
use lib.Dec.{eqb}
use lib.ListN.{get_or}
use Rattle.std.proofs.Common.{rules}
use Rattle.lanes.proofs.Halves.{place_lt, half_part}
use Rattle.lanes.proofs.sources.uniform_half.Goals as goal

pub part-requires : goal.part-requires
part-requires c = rw c.place.ensures (place_lt (eqb (c.args.h % 2) 0))

pub returns : goal.returns
returns c =
    let a = c.args in
    let e : c.part.result ≡ get_or a.uniforms.now (a.h / 2) 0 / 2 ^ cond (eqb (a.h % 2) 0) 0 16 % 2 ^ 16 = search rules in
    e ∙ half_part a.h (get_or a.uniforms.now (a.h / 2) 0) (c.type_inv.uniforms (a.h / 2)).fits
