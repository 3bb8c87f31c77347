-- The factors are exact words. Where the sum saturates, the product is cut short and the sum is exact; else nothing is cut short.
use Rattle.std.proofs.Common.{◌≡◌, ℕ, ◌+◌, ◌-◌, ◌%◌, ◌^◌, ◌<◌, Bool, ℤ, pos, ◌+ℤ◌, ◌*ℤ◌, nat_abs, refl, sym, ap, ◌∙◌, arith}
use Rattle.machine.specs.Integer.{modulo, saturate_integer}
use Rattle.machine.specs.Meaning.{extended, negated, scaled, either, is_set}
use Rattle.operations.specs.Operation.{sum_of}
use Rattle.signs.specs.Signed.{signed_of}
use Rattle.sums.specs.Capped.{capped}
use Rattle.sums.proofs.Distance.{signed_near, nat_abs_term, nat_abs_extended}
use Rattle.sums.proofs.Caps.{nat_abs_capped, saturate_capped}
use Rattle.sums.proofs.Results.{saturates_true, added, limited_word, capped-none, imadd-is}
use Rattle.sums.proofs.imadd.Goals as goal

near_word : (z : ℤ) (x : ℕ) → nat_abs z < 2 ^ 32 → x ≡ modulo z 64 → signed_of x ≡ z
near_word z x h e = signed_near z x (omega arith) e

-- the word of a factor is as near to 0 as the factor is
word-near : (z : ℤ) (x : ℕ) → nat_abs z < 2 ^ 32 → x ≡ modulo z 64 → nat_abs (signed_of x) < 2 ^ 32
word-near z x h e = rw (near_word z x h e) h

-- the word of the sum, from a product p that is cut short at most
whole : (N shift most : ℕ) (X Y Z : ℤ) (x y z t p r : ℕ) → nat_abs X < 2 ^ 32 → nat_abs Y < 2 ^ 32
    → x ≡ modulo X 64 → y ≡ modulo Y 64 → z ≡ modulo Z 64 → t ≡ modulo (scaled shift (negated N (pos z))) 64
    → p ≡ modulo (capped most (signed_of x *ℤ signed_of y)) 64 → r ≡ (p + t) % 2 ^ 64
    → r ≡ modulo (capped most (X *ℤ Y) +ℤ scaled shift (negated N Z)) 64
whole N shift most X Y Z x y z t p r h k ex ey ez et ep er =
    let e = near_word X x h ex in
    let f = near_word Y y k ey in
    added N shift (capped most (X *ℤ Y)) Z p z t r (ep ∙ (λ i. modulo (capped most (e i *ℤ f i)) 64)) ez et er

pub product-requires : goal.product-requires
product-requires c =
    let a = c.args in
    let o = a.o in (
      word-near (extended o.asigned o.asize a.a) c.extend-x.result
          (nat_abs_extended o.asigned o.asize a.a c.requires.0.factors.0 c.requires.1.a) c.extend-x.ensures,
      word-near (extended o.bsigned o.bsize a.b) c.extend-y.result
          (nat_abs_extended o.bsigned o.bsize a.b c.requires.0.factors.1 c.requires.1.b) c.extend-y.ensures,
    )

pub product-requires-else-saturating : goal.product-requires-else-saturating
product-requires-else-saturating c =
    let a = c.args in
    let o = a.o in (
      word-near (extended o.asigned o.asize a.a) c.extend-x.result
          (nat_abs_extended o.asigned o.asize a.a c.requires.0.factors.0 c.requires.1.a) c.extend-x.ensures,
      word-near (extended o.bsigned o.bsize a.b) c.extend-y.result
          (nat_abs_extended o.bsigned o.bsize a.b c.requires.0.factors.1 c.requires.1.b) c.extend-y.ensures,
    )

pub returns-then-saturating : goal.returns-then-saturating
returns-then-saturating c =
    let a = c.args in
    let o = a.o in
    let first = extended o.asigned o.asize a.a in
    let second = extended o.bsigned o.bsize a.b in
    let third = extended o.csigned o.csize a.c in
    let term = scaled o.shift (negated o.negate third) in
    let p = first *ℤ second in
    let x = (c.product.result + c.term-t.result) % 2 ^ 64 in
    let signed = either (is_set o.asigned) (either (is_set o.bsigned) (is_set o.csigned)) in
    let e = sym c.saturating.ensures ∙ c.if-saturating.true in
    let f = saturates_true o.saturate o.shift 0 o.csize o.dsize e in
    let h = nat_abs_extended o.asigned o.asize a.a c.requires.0.factors.0 c.requires.1.a in
    let j = nat_abs_extended o.bsigned o.bsize a.b c.requires.0.factors.1 c.requires.1.b in
    let m = nat_abs_extended o.csigned o.csize a.c f.second c.requires.1.c in
    let n = nat_abs_capped (2 ^ 40) p in
    let k = nat_abs_term o.negate o.shift third f.unshifted in
    let w = whole o.negate o.shift (2 ^ 40) first second third c.extend-x.result c.extend-y.result c.extend-z.result
    c.term-t.result c.product.result x h j c.extend-x.ensures c.extend-y.ensures c.extend-z.ensures c.term-t.ensures
    c.product.ensures refl in
    limited_word o.negate o.shift o.dsize (capped (2 ^ 40) p) third signed x c.limited.result
    f.unshifted (omega arith) w
    (c.limited.ensures ∙ ap (λ (b : Bool). modulo (saturate_integer (signed_of x) o.dsize b) 64) c.signed.ensures)
    ∙ ap (λ (y : ℤ). modulo y 64)
    (saturate_capped o.dsize signed p term f.third (omega arith) ∙ imadd-is (sum_of o) a.a a.b a.c e)

pub returns-else-saturating : goal.returns-else-saturating
returns-else-saturating c =
    let a = c.args in
    let o = a.o in
    let first = extended o.asigned o.asize a.a in
    let second = extended o.bsigned o.bsize a.b in
    let third = extended o.csigned o.csize a.c in
    let term = scaled o.shift (negated o.negate third) in
    let e = sym c.saturating.ensures ∙ c.if-saturating.false in
    let h = nat_abs_extended o.asigned o.asize a.a c.requires.0.factors.0 c.requires.1.a in
    let j = nat_abs_extended o.bsigned o.bsize a.b c.requires.0.factors.1 c.requires.1.b in
    whole o.negate o.shift (2 ^ 64 - 1) first second third c.extend-x.result c.extend-y.result c.extend-z.result
    c.term-t.result c.product-else-saturating.result ((c.product-else-saturating.result + c.term-t.result) % 2 ^ 64) h j c.extend-x.ensures c.extend-y.ensures
    c.extend-z.ensures c.term-t.ensures c.product-else-saturating.ensures refl
    ∙ ap (λ (y : ℤ). modulo y 64)
    (ap (λ (y : ℤ). y +ℤ term) (capped-none first second h j) ∙ imadd-is (sum_of o) a.a a.b a.c e)
