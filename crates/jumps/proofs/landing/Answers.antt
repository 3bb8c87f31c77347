use native.Mathlib.Omega.{arith}
use Rattle.jumps.proofs.Jumps.{forward, back, too_far_back}
use Rattle.jumps.proofs.landing.Goals as goal

pub returns-then-off-lt2147483648 : goal.returns-then-off-lt2147483648
returns-then-off-lt2147483648 c =
    let a = c.args in
    rw (forward a.address a.off (omega (arith, c.if-off-lt2147483648.true)))
    c.at.ensures

pub returns-then-address-back : goal.returns-then-address-back
returns-then-address-back c =
    let a = c.args in
    let k = c.ranges.off.fits in
    rw (too_far_back a.length a.address a.off (omega (arith, c.if-off-lt2147483648.false)) k c.if-address-back.true)

pub returns : goal.returns
returns c =
    let a = c.args in
    let k = c.ranges.off.fits in
    rw (back a.address a.off (omega (arith, c.if-off-lt2147483648.false)) k c.if-address-back.false)
    c.at-2.ensures
