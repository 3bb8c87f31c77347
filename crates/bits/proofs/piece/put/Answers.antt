use mathlib.Core.Path.{◌≡◌}
use Prim.Native.Nat.{◌+◌, ◌-◌}
use native.Mathlib.Omega.{arith}
use lib.ListN.{length}
use Rattle.bits.proofs.Pieces.{put_part}
use Rattle.bits.proofs.piece.put.Goals as goal

pub returns : goal.returns
returns c =
    let a = c.args in
    let k : a.n + length a.piece.now - a.n ≡ length a.piece.now = omega arith in
    rw c.copy_from_slice.ensures.after (put_part a.out.now a.piece.now a.n (a.n + length a.piece.now - a.n) k c.requires)
