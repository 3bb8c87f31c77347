-- The word of an instruction whose fields fit has each field at its bits, and the kept bits at theirs.
use mathlib.Core.Path.{◌≡◌, refl, sym, ap, ap₂, ◌∙◌}
use mathlib.Core.Bool.{Bool, true, ◌&&◌}
use mathlib.Core.List.{List, [], ◌∷◌}
use Prim.Native.Nat.{ℕ, ◌+◌, ◌*◌, ◌/◌, ◌%◌, ◌^◌, ◌<◌}
use native.Mathlib.Nat.{mod-eq_of_lt}
use lib.Bits.{bit_and, bit_or, and_comm, and_zero_r, or_zero_l, or_zero_r, and_high}
use lib.Dec.{T, eqb, eqb→eq, leb→le}
use lib.Pow.{shl_exact, shl-shr}
use Rattle.bits.specs.Word.{field_of}
use Rattle.bits.proofs.Masks.{and_assoc, or_and}
use Rattle.bits.proofs.Table.{all, left, right}
use Rattle.isa.specs.Diagram.{Diagram, Field, width_of, span_mask, mask, fixed_value}
use Rattle.isa.specs.Rows.{rows}
use Rattle.encoding.specs.Write.{Named, number_in, put, over, word_by}
use Rattle.roundtrip.specs.Reasons.{FieldsWithin}
use Rattle.roundtrip.proofs.Words.{Agree, in_word}

-- the number of the field f
abbrev pub part_of : Field → List Named → ℕ
part_of f ns = put f.at.lo (number_in ns f.name)

module _ (f : Field) (ns : List Named) (t : T (in_word f)) (h : number_in ns f.name < 2 ^ width_of f.at) where
  abbrev lo : ℕ
  lo = f.at.lo

  abbrev n : ℕ
  n = width_of f.at

  abbrev x : ℕ
  x = number_in ns f.name

  exact : part_of f ns ≡ x * 2 ^ lo
  exact = shl_exact n lo 64 h (leb→le (n + lo) 64 t)

  -- it stands at the field's bits
  own : bit_and (part_of f ns) (span_mask f.at) ≡ part_of f ns
  own =
      ap (λ (y : ℕ). bit_and y (span_mask f.at)) exact
      ∙ and_high (x * 2 ^ lo) n lo
      ∙ ap (λ (y : ℕ). y % 2 ^ n * 2 ^ lo) (shl-shr x lo)
      ∙ ap (λ (y : ℕ). y * 2 ^ lo) (mod-eq_of_lt h)
      ∙ sym exact

  -- and nowhere else
  apart : (m : ℕ) → bit_and (span_mask f.at) m ≡ 0 → bit_and (part_of f ns) m ≡ 0
  apart m e =
      ap (λ (y : ℕ). bit_and y m) (sym own)
      ∙ sym (and_assoc (part_of f ns) (span_mask f.at) m)
      ∙ ap (bit_and (part_of f ns)) e
      ∙ and_zero_r (part_of f ns)

  -- a word that has these bits there has the field
  has_field : (w : ℕ) → bit_and w (span_mask f.at) ≡ part_of f ns → x ≡ field_of w lo n
  has_field w e =
      let q : field_of w lo n * 2 ^ lo ≡ x * 2 ^ lo = sym (and_high w n lo) ∙ e ∙ exact in
      sym (shl-shr x lo) ∙ ap (λ (y : ℕ). y / 2 ^ lo) (sym q) ∙ shl-shr (field_of w lo n) lo

-- ---- the fields of a list

abbrev pub off : ℕ → Field → Bool
off m f = eqb (bit_and (span_mask f.at) m) 0

-- no two fields share a bit
abbrev pub disjoint : List Field → Bool
disjoint [] = true
disjoint (f ∷ fs) = all (off (span_mask f.at)) fs && disjoint fs

-- fields away from the mask m do not change what it cuts out
untouched : (x m : ℕ) (fs : List Field) (ns : List Named) → T (all in_word fs) → T (all (off m) fs) → FieldsWithin fs ns
    → bit_and (over x fs ns) m ≡ bit_and x m
untouched x m [] ns t o h = refl
untouched x m (f ∷ fs) ns t o h =
    untouched (bit_or x (part_of f ns)) m fs ns (right (in_word f) _ t) (right (off m f) _ o) h.1
    ∙ or_and x (part_of f ns) m
    ∙ ap (bit_or (bit_and x m)) (apart f ns (left (in_word f) _ t) h.0 m (eqb→eq _ _ (left (off m f) _ o)))
    ∙ or_zero_r (bit_and x m)

-- what stands in a word already agrees with the fields
abbrev pub Settled : ℕ → List Field → List Named → Type 0
Settled x [] ns = Unit {0}
Settled x (f ∷ fs) ns = (bit_or (bit_and x (span_mask f.at)) (part_of f ns) ≡ part_of f ns) × Settled x fs ns

settled_on : (x : ℕ) (g : Field) (fs : List Field) (ns : List Named) → T (in_word g) → number_in ns g.name < 2 ^ width_of g.at
    → T (all (off (span_mask g.at)) fs) → Settled x fs ns → Settled (bit_or x (part_of g ns)) fs ns
settled_on x g [] ns t h o s = tt
settled_on x g (f ∷ fs) ns t h o s =
    let z : bit_and (span_mask g.at) (span_mask f.at) ≡ 0 =
    and_comm (span_mask g.at) (span_mask f.at) ∙ eqb→eq _ _ (left (off (span_mask g.at) f) _ o) in
    let e : bit_and (bit_or x (part_of g ns)) (span_mask f.at) ≡ bit_and x (span_mask f.at) =
    or_and x (part_of g ns) (span_mask f.at)
    ∙ ap (bit_or (bit_and x (span_mask f.at))) (apart g ns t h (span_mask f.at) z)
    ∙ or_zero_r (bit_and x (span_mask f.at)) in
    (ap (λ (y : ℕ). bit_or y (part_of f ns)) e ∙ s.0, settled_on x g fs ns t h (right (off (span_mask g.at) f) _ o) s.1)

-- the word of the fields over such a word has each of them
has_fields : (x : ℕ) (fs : List Field) (ns : List Named) → T (all in_word fs) → T (disjoint fs) → FieldsWithin fs ns → Settled x fs ns
    → Agree (over x fs ns) fs ns
has_fields x [] ns t d h s = tt
has_fields x (f ∷ fs) ns t d h s =
    let tf = left (in_word f) (all in_word fs) t in
    let tr = right (in_word f) (all in_word fs) t in
    let o = left (all (off (span_mask f.at)) fs) _ d in
    let x' = bit_or x (part_of f ns) in
    let e : bit_and (over x' fs ns) (span_mask f.at) ≡ part_of f ns =
    untouched x' (span_mask f.at) fs ns tr o h.1
    ∙ or_and x (part_of f ns) (span_mask f.at)
    ∙ ap (bit_or (bit_and x (span_mask f.at))) (own f ns tf h.0)
    ∙ s.0 in (
      has_field f ns tf h.0 (over x' fs ns) e,
      has_fields x' fs ns tr (right (all (off (span_mask f.at)) fs) _ d) h.1 (settled_on x f fs ns tf h.0 o s.1),
    )

-- ---- the diagrams

-- no two fields of a diagram share a bit, and none has a bit that is printed "?"
abbrev pub separate : Diagram → Bool
separate r =
    all in_word r.fields
    && (disjoint r.fields && (all (off (mask r.unknowns)) r.fields && eqb (bit_and (fixed_value r.fixeds) (mask r.unknowns)) 0))

-- the statement over the list, closed by computation
pub all-separate : T (all separate rows)
unfolding rows
all-separate = tt

-- no field has a bit that is fixed to 1. Of all diagrams only mov32's fails: bit 8 is fixed to 1 and is the upper bit of Dt
abbrev pub clear : Diagram → Bool
clear r = all (off (fixed_value r.fixeds)) r.fields

-- bits at "?" stand in no field
pub kept_off : (kept m k : ℕ) → bit_and kept m ≡ kept → bit_and k m ≡ 0 → bit_and kept k ≡ 0
kept_off kept m k e z =
    ap (λ (x : ℕ). bit_and x k) (sym e)
    ∙ sym (and_assoc kept m k)
    ∙ ap (bit_and kept) (and_comm m k ∙ z)
    ∙ and_zero_r kept

pub settled : (kept fixed m : ℕ) (fs : List Field) (ns : List Named) → bit_and kept m ≡ kept → T (all (off m) fs) → T (all (off fixed) fs)
    → Settled (bit_or kept fixed) fs ns
settled kept fixed m [] ns e o c = tt
settled kept fixed m (f ∷ fs) ns e o c =
    let z : bit_and (bit_or kept fixed) (span_mask f.at) ≡ 0 =
    or_and kept fixed (span_mask f.at)
    ∙ ap₂ bit_or
    (kept_off kept m (span_mask f.at) e (eqb→eq _ _ (left (off m f) _ o)))
    (and_comm fixed (span_mask f.at) ∙ eqb→eq _ _ (left (off fixed f) _ c)) in (
      ap (λ (y : ℕ). bit_or y (part_of f ns)) z ∙ or_zero_l (part_of f ns),
      settled kept fixed m fs ns e (right (off m f) _ o) (right (off fixed f) _ c),
    )

module _ (r : Diagram) (t : T (separate r)) (ns : List Named) (kept : ℕ) (h : FieldsWithin r.fields ns) (k : bit_and kept (mask r.unknowns) ≡ kept) where
  inside : T (all in_word r.fields)
  inside = left (all in_word r.fields) _ t

  rest : T (disjoint r.fields && (all (off (mask r.unknowns)) r.fields && eqb (bit_and (fixed_value r.fixeds) (mask r.unknowns)) 0))
  rest = right (all in_word r.fields) _ t

  pub off-unknown : T (all (off (mask r.unknowns)) r.fields)
  off-unknown = left (all (off (mask r.unknowns)) r.fields) _ (right (disjoint r.fields) _ rest)

  -- the kept bits stand where they were
  pub has_kept : bit_and (word_by r ns kept) (mask r.unknowns) ≡ kept
  has_kept =
      let z : bit_and (fixed_value r.fixeds) (mask r.unknowns) ≡ 0 =
      eqb→eq _ _ (right (all (off (mask r.unknowns)) r.fields) _ (right (disjoint r.fields) _ rest)) in
      untouched (bit_or kept (fixed_value r.fixeds)) (mask r.unknowns) r.fields ns inside off-unknown h
      ∙ or_and kept (fixed_value r.fixeds) (mask r.unknowns)
      ∙ ap₂ bit_or k z
      ∙ or_zero_r kept

  pub has_settled : Settled (bit_or kept (fixed_value r.fixeds)) r.fields ns → Agree (word_by r ns kept) r.fields ns
  has_settled s = has_fields (bit_or kept (fixed_value r.fixeds)) r.fields ns inside (left (disjoint r.fields) _ rest) h s

  pub has_clear : T (clear r) → Agree (word_by r ns kept) r.fields ns
  has_clear c = has_settled (settled kept (fixed_value r.fixeds) (mask r.unknowns) r.fields ns k off-unknown c)
