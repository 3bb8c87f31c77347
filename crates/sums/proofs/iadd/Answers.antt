-- The sum of the words is the sum modulo 2^64; where it saturates it is exact.
use Rattle.std.proofs.Common.{◌≡◌, ◌+◌, ◌%◌, ◌^◌, Bool, ℤ, refl, sym, ap, ◌∙◌, arith}
use Rattle.machine.specs.Integer.{modulo, saturate_integer}
use Rattle.machine.specs.Meaning.{extended, either, is_set}
use Rattle.operations.specs.Operation.{sum_of}
use Rattle.signs.specs.Signed.{signed_of}
use Rattle.sums.proofs.Distance.{nat_abs_extended}
use Rattle.sums.proofs.Results.{saturates_true, added, limited_word, iadd_sum, iadd-is}
use Rattle.sums.proofs.iadd.Goals as goal

pub returns-then-saturating : goal.returns-then-saturating
returns-then-saturating c k =
    let a = c.args in
    let o = a.o in
    let first = extended o.asigned o.asize a.a in
    let second = extended o.bsigned o.bsize a.b in
    let x = (c.extend-x.result + c.term.result) % 2 ^ 64 in
    let whole : x ≡ modulo (iadd_sum (sum_of o) a.a a.b) 64
    = added o.negate o.shift first second c.extend-x.result c.extend-y.result c.term.result
    x c.extend-x.ensures c.extend-y.ensures c.term.ensures refl in
    let e = sym c.saturating.ensures ∙ c.if-saturating.true in
    let f = saturates_true o.saturate o.shift o.asize o.bsize o.dsize e in
    let m = nat_abs_extended o.asigned o.asize a.a f.first c.requires.1 in
    let n = nat_abs_extended o.bsigned o.bsize a.b f.second c.requires.2 in
    limited_word o.negate o.shift o.dsize first second (either (is_set o.asigned) (is_set o.bsigned)) x
    c.limited.result f.unshifted (omega arith) whole
    (c.limited.ensures ∙ ap (λ (t : Bool). modulo (saturate_integer (signed_of x) o.dsize t) 64) c.signed.ensures)
    ∙ ap (λ (z : ℤ). modulo z 64) (iadd-is (sum_of o) a.a a.b k e)

pub returns-else-saturating : goal.returns-else-saturating
returns-else-saturating c k =
    let a = c.args in
    let o = a.o in
    let first = extended o.asigned o.asize a.a in
    let second = extended o.bsigned o.bsize a.b in
    let x = (c.extend-x.result + c.term.result) % 2 ^ 64 in
    let whole : x ≡ modulo (iadd_sum (sum_of o) a.a a.b) 64
    = added o.negate o.shift first second c.extend-x.result c.extend-y.result c.term.result
    x c.extend-x.ensures c.extend-y.ensures c.term.ensures refl in
    let e = sym c.saturating.ensures ∙ c.if-saturating.false in
    whole ∙ ap (λ (z : ℤ). modulo z 64) (iadd-is (sum_of o) a.a a.b k e)
