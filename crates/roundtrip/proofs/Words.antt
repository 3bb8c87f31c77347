-- A word is made again of what a diagram reads from it: its fields, its "?" bits and its fixed bits.
use mathlib.Core.Path.{◌≡◌, sym, ap, ap₂, ◌∙◌}
use mathlib.Core.Bool.{Bool, ◌&&◌}
use mathlib.Core.List.{List, [], ◌∷◌}
use Prim.Native.Nat.{ℕ, ◌+◌, ◌*◌, ◌-◌, ◌^◌, ◌<◌}
use lib.Bits.{bit_and, bit_or}
use lib.Dec.{T, eqb, leb, eqb→eq, leb→le}
use Rattle.bits.specs.Word.{field_of}
use Rattle.bits.proofs.Masks.{and_or, put_field, and_all}
use Rattle.bits.proofs.Table.{all, left, right}
use Rattle.isa.specs.Diagram.{Diagram, Field, width_of, span_mask, mask, fixed_mask, fixed_value}
use Rattle.isa.specs.Rows.{rows}
use Rattle.encoding.specs.Write.{Named, number_in, put, over, word_by}

-- x is what the mask m cuts out of w
record Cut (w x m : ℕ) : Type 0 where
  eq : x ≡ bit_and w m

joined : {w x n r m : ℕ} → Cut w x n → Cut w r m → Cut w (bit_or x r) (bit_or n m)
joined {w} {x} {n} {r} {m} p q = record { eq = ap₂ bit_or p.eq q.eq ∙ sym (and_or w n m) }

-- the mask m and those of some fields
abbrev pub masks : ℕ → List Field → ℕ
masks m [] = m
masks m (f ∷ fs) = masks (bit_or m (span_mask f.at)) fs

abbrev pub in_word : Field → Bool
in_word f = leb (width_of f.at + f.at.lo) 64

-- the numbers of the fields are those that the word has
abbrev pub Agree : ℕ → List Field → List Named → Type 0
Agree w [] ns = Unit {0}
Agree w (f ∷ fs) ns = (number_in ns f.name ≡ field_of w f.at.lo (width_of f.at)) × Agree w fs ns

over_cut : (w x m : ℕ) (fs : List Field) (ns : List Named) → T (all in_word fs) → Cut w x m → Agree w fs ns → Cut w (over x fs ns) (masks m fs)
over_cut w x m [] ns t c a = c
over_cut w x m (f ∷ fs) ns t c a =
    let l = leb→le (width_of f.at + f.at.lo) 64 (left (in_word f) (all in_word fs) t) in
    let e : put f.at.lo (number_in ns f.name) ≡ bit_and w (span_mask f.at) =
    ap (put f.at.lo) a.0 ∙ put_field w f.at.lo (width_of f.at) l in
    over_cut w (bit_or x (put f.at.lo (number_in ns f.name))) (bit_or m (span_mask f.at)) fs ns (right (in_word f) (all in_word fs) t)
    (joined c (record { eq = e })) a.1

-- the fields, the "?" bits and the fixed bits of a diagram are all its bits
abbrev pub whole : Diagram → Bool
whole r =
    all in_word r.fields
    && eqb (masks (bit_or (mask r.unknowns) (fixed_mask r.fixeds)) r.fields) (2 ^ (8 * r.bytes) - 1)

-- the statement over the list, closed by computation
pub all_whole : T (all whole rows)
unfolding rows
all_whole = tt

pub word_again : (r : Diagram) → T (whole r) → (w : ℕ) → w < 2 ^ (8 * r.bytes) → bit_and w (fixed_mask r.fixeds) ≡ fixed_value r.fixeds
    → (ns : List Named) (kept : ℕ) → kept ≡ bit_and w (mask r.unknowns) → Agree w r.fields ns → word_by r ns kept ≡ w
word_again r t w h f ns kept k a =
    let c =
    over_cut w _ _ r.fields ns (left (all in_word r.fields) _ t)
    (joined (record { eq = k }) (record { eq = sym f })) a in
    c.eq
    ∙ ap (bit_and w) (eqb→eq _ _ (right (all in_word r.fields) _ t))
    ∙ and_all w (8 * r.bytes) h
