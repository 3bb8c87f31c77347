-- What a form that matches says of the word of the first eight bytes.
use mathlib.Core.Path.{◌≡◌, sym, ap, ◌∙◌}
use mathlib.Core.Bool.{Bool, true, ◌&&◌}
use mathlib.Core.List.{List}
use Prim.Native.Nat.{ℕ, ◌*◌, ◌^◌, ◌≤◌, ◌<◌}
use lib.Bits.{bit_and}
use lib.Dec.{T, leb, ltb, leb→le, ltb→lt}
use lib.ListN.{length, take}
use borrow.Author.Tests.{eqb-true, leb-true}
use Rattle.bits.specs.Word.{le, word_of}
use Rattle.bits.proofs.Laws.{Bytes, first_bytes}
use Rattle.bits.proofs.Masks.{and_within}
use Rattle.bits.proofs.Table.{and_left, and_right, all, left, right}
use Rattle.isa.specs.Rows.{rows}
use Rattle.isa.specs.Find.{Form, forms, matches}

-- a form has four to eight bytes, a place in the list, and its fixed bits within its bytes
abbrev pub well_formed : Form → Bool
well_formed f =
    leb 4 f.bytes
    && (leb f.bytes 8
    && (ltb f.place 22 && (ltb f.mask (2 ^ (8 * f.bytes)) && ltb f.value (2 ^ (8 * f.bytes)))))

pub record WellFormed (f : Form) : Type 0 where
  pub long : 4 ≤ f.bytes
  pub short : f.bytes ≤ 8
  pub placed : f.place < 22
  pub mask_lt : f.mask < 2 ^ (8 * f.bytes)
  pub value_lt : f.value < 2 ^ (8 * f.bytes)

pub well_formed_lem : (f : Form) → T (well_formed f) → WellFormed f
well_formed_lem f t =
    let t1 = right (leb 4 f.bytes) _ t in
    let t2 = right (leb f.bytes 8) _ t1 in
    let t3 = right (ltb f.place 22) _ t2 in
    record {
      long = leb→le 4 f.bytes (left (leb 4 f.bytes) _ t);
      short = leb→le f.bytes 8 (left (leb f.bytes 8) _ t1);
      placed = ltb→lt f.place 22 (left (ltb f.place 22) _ t2);
      mask_lt = ltb→lt f.mask (2 ^ (8 * f.bytes)) (left (ltb f.mask (2 ^ (8 * f.bytes))) _ t3);
      value_lt = ltb→lt f.value (2 ^ (8 * f.bytes)) (right (ltb f.mask (2 ^ (8 * f.bytes))) _ t3);
    }

pub all-well_formed : T (all well_formed forms)
unfolding rows forms
all-well_formed = tt

module _ (s : List ℕ) (hs : Bytes s) (f : Form) (lf : WellFormed f) where
  -- the fixed bits stand in the bytes of the form, so the word has them too
  pub in_word_lem : bit_and (le (take f.bytes s)) f.mask ≡ bit_and (word_of s) f.mask
  in_word_lem =
      ap (λ (x : ℕ). bit_and x f.mask) (first_bytes f.bytes s hs lf.short)
      ∙ and_within (word_of s) f.mask (8 * f.bytes) lf.mask_lt

  pub lent : matches f s ≡ true → f.bytes ≤ length s
  lent m = leb-true f.bytes (length s) (and_left (leb f.bytes (length s)) _ m)

  pub agreed : matches f s ≡ true → bit_and (word_of s) f.mask ≡ f.value
  agreed m = sym in_word_lem ∙ eqb-true _ _ (and_right (leb f.bytes (length s)) _ m)
