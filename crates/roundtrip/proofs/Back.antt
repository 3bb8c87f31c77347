-- What decodes is the encoding of what it decodes to.
use Rattle.std.proofs.Common.{Some, None, Ok}
use mathlib.Core.Path.{◌≡◌, refl, sym, ap, ap₂, ◌∙◌, subst}
use mathlib.Core.Bool.{Bool, true, false, ◌&&◌}
use mathlib.Core.List.{List, [], ◌∷◌}
use Prim.Native.Nat.{ℕ, zero, suc, ◌*◌, ◌-◌, ◌^◌, ◌≤◌, ◌<◌}
use native.Mathlib.Nat.{le_of_suc-le-suc, not-suc-le-zero}
use native.Mathlib.Omega.{arith}
use lib.Bits.{bit_and}
use lib.Dec.{T, eqb, leb, eqb→eq, leb→le}
use lib.ListN.{length, get_or, take}
use lib.Pow.{pow_mono}
use lib.Seq.{length-take-le, take_all}
use lib.Text.{eqt}
use Prim.Native.String.{String}
use borrow.Author.Tests.{eqb-true, eq-eqb, le-leb}
use Rattle.bits.specs.Word.{le, bytes_of}
use Rattle.bits.proofs.Laws.{Bytes, bytes_take, bytes_le, le_lt, pow_bytes}
use Rattle.bits.proofs.Masks.{and_assoc, fixed_field}
use Rattle.bits.proofs.Table.{all, all-at, left, right, and_right}
use Rattle.isa.specs.Diagram.{Diagram, Field, width_of, fixed_mask, fixed_value, field_in, read_by}
use Rattle.isa.specs.Rows.{rows}
use Rattle.isa.specs.Find.{Form, forms, matches, find_of}
use Rattle.isa.specs.Decode.{row_at, no_diagram, read_at, decoded_of, read_found, decode_of}
use Rattle.isa.specs.Parts.{place_of, length_by, length_for}
use Rattle.isa.specs.Answer.{Find}
use Rattle.isa.specs.Answer.{Reading}
use Rattle.isa.specs.declared.instruction.Instruction.{Instruction}
use Rattle.isa.proofs.Pairs.{ok_pair_parts}
use Rattle.isa.proofs.Found.{Matched, found_form, only_form, found-length}
use Rattle.isa.proofs.Placed.{length-rows, place_below, found-place}
use Rattle.isa.proofs.WasRead.{Reads}
use Rattle.encoding.specs.Write.{word_for}
use Rattle.encode.specs.Encode.{length_of, bytes_for}
use Rattle.roundtrip.proofs.Words.{whole, all_whole, word_again}
use Rattle.roundtrip.proofs.Told.{Told, Fixed, AllTold, rows_told}

-- ---- the form of a diagram, against the diagram

-- the bit L of a word
abbrev pub bit_l : Diagram → ℕ → ℕ
bit_l r w = (field_in r.fields w "L").value

-- the fixed bits of the diagram are among those of the form
abbrev has_fixed : Form → Diagram → Bool
has_fixed f r =
    eqb (bit_and f.mask (fixed_mask r.fixeds)) (fixed_mask r.fixeds)
    && eqb (bit_and f.value (fixed_mask r.fixeds)) (fixed_value r.fixeds)

-- the form fixes the bit L, if there is one
abbrev fixes_l : Form → Diagram → Bool
fixes_l f r = eqb (bit_l r f.mask) (2 ^ (field_in r.fields f.mask "L").width - 1)

-- and this says which of the diagram's lengths the form has
abbrev has_length : Form → Diagram → Bool
has_length f r = eqb (length_by r (bit_l r f.value)) f.bytes && leb f.bytes r.bytes

abbrev of_row : Form → Diagram → Bool
of_row f r = has_fixed f r && (fixes_l f r && has_length f r)

abbrev fitting : Form → Bool
fitting f = of_row f (row_at f.place)

-- the statement over the list, closed by computation
all-fitting : T (all fitting forms)
unfolding rows forms
all-fitting = tt

record OfRow (f : Form) (r : Diagram) : Type 0 where
  mask : bit_and f.mask (fixed_mask r.fixeds) ≡ fixed_mask r.fixeds
  value : bit_and f.value (fixed_mask r.fixeds) ≡ fixed_value r.fixeds
  fixes : bit_l r f.mask ≡ 2 ^ (field_in r.fields f.mask "L").width - 1
  long : length_by r (bit_l r f.value) ≡ f.bytes
  short : f.bytes ≤ r.bytes

of_row_lem : (f : Form) (r : Diagram) → T (of_row f r) → OfRow f r
of_row_lem f r t =
    let a = left (has_fixed f r) _ t in
    let b = right (has_fixed f r) _ t in
    let c = right (fixes_l f r) _ b in
    record {
      mask = eqb→eq _ _ (left (eqb (bit_and f.mask (fixed_mask r.fixeds)) (fixed_mask r.fixeds)) _ a);
      value = eqb→eq _ _ (right (eqb (bit_and f.mask (fixed_mask r.fixeds)) (fixed_mask r.fixeds)) _ a);
      fixes = eqb→eq _ _ (left (fixes_l f r) _ b);
      long = eqb→eq _ _ (left (eqb (length_by r (bit_l r f.value)) f.bytes) _ c);
      short = leb→le _ _ (right (eqb (length_by r (bit_l r f.value)) f.bytes) _ c);
    }

-- a field that a mask covers is the same in what the mask cuts out
covered_field : (fs : List Field) (w m : ℕ) (name : String) → (field_in fs m name).value ≡ 2 ^ (field_in fs m name).width - 1
    → (field_in fs (bit_and w m) name).value ≡ (field_in fs w name).value
covered_field [] w m name e = refl
covered_field (f ∷ fs) w m name e = go (eqt f.name name) refl (covered_field fs w m name)
  where
    go : (b : Bool) → eqt f.name name ≡ b
        → ((field_in fs m name).value ≡ 2 ^ (field_in fs m name).width - 1 → (field_in fs (bit_and w m) name).value ≡ (field_in fs w name).value)
        → (field_in (f ∷ fs) (bit_and w m) name).value ≡ (field_in (f ∷ fs) w name).value
    go true h ih = rw h (fixed_field w m f.at.lo (width_of f.at) (rw h at e))
    go false h ih = rw h (ih (rw h at e))

-- ---- the diagram at a place

told_at : (rs : List Diagram) → AllTold rs → (j : ℕ) → j < length rs → (w : ℕ) → Fixed (get_or rs j no_diagram) w
    → Reads (Told (get_or rs j no_diagram) w) (read_by (get_or rs j no_diagram) w)
told_at [] a j h = absurd (not-suc-le-zero h)
told_at (r ∷ rs) a zero h = a.0
told_at (r ∷ rs) a (suc j) h = told_at rs a.1 j (le_of_suc-le-suc h)

-- ---- what was decoded, was found and read

is_read : (x : Reading) (n m : ℕ) (i : Instruction) → decoded_of x n ≡ Ok (i, m) → x ≡ Some i
is_read (Some j) n m i e = ap Some (ok_pair_parts j i n m e).0
is_read None n m i e = let z : ◌≡◌ {A = ℕ} 0 1 = cc in absurd (omega arith)

module _ (s : List ℕ) (hs : Bytes s) (i : Instruction) (n : ℕ) (e : decode_of s ≡ Ok (i, n)) where
  abbrev p : ℕ
  p = place_of i

  abbrev w : ℕ
  w = le (take n s)

  found : find_of s ≡ Ok (p, n)
  found = found-place s i n e

  reads : read_at p w ≡ Some i
  unfolding decode_of
  reads =
      let d : read_found (Ok (p, n)) s ≡ Ok (i, n) = ap (λ (x : Find). read_found x s) (sym found) ∙ e in
      is_read (read_at p w) n n i d

  of_form : (f : Form) × Matched s f × (f.place ≡ p) × (f.bytes ≡ n)
  of_form = found_form s p n found

  abbrev f : Form
  f = of_form.0

  row : OfRow f (row_at p)
  row =
      let m = of_form.1 in
      let t : T (fitting f) = subst (λ (g : Form). T (fitting g)) m.is (all-at fitting forms _ all-fitting m.index m.within) in
      of_row_lem f (row_at p) (subst (λ (q : ℕ). T (of_row f (row_at q))) of_form.2 t)

  agreed : bit_and w f.mask ≡ f.value
  agreed =
      ap (λ (k : ℕ). bit_and (le (take k s)) f.mask) (sym of_form.3)
      ∙ eqb-true _ _ (and_right (leb f.bytes (length s)) _ of_form.1.agrees)

  fixed : Fixed (row_at p) w
  fixed =
      ap (bit_and w) (sym row.mask)
      ∙ and_assoc w f.mask (fixed_mask (row_at p).fixeds)
      ∙ ap (λ (x : ℕ). bit_and x (fixed_mask (row_at p).fixeds)) agreed
      ∙ row.value

  pub told : Told (row_at p) w i
  told = (told_at rows rows_told p (rw length-rows (place_below i)) w fixed).holds i reads

  lengths : (4 ≤ n) × (n ≤ 8) × (n ≤ length s)
  lengths = found-length s i n e

  length_first : length (take n s) ≡ n
  length_first = length-take-le n s lengths.2

  pub word_lt : w < 2 ^ (8 * n)
  word_lt =
      let l : length (take n s) ≤ n = omega (arith, length_first) in
      rw (pow_bytes n) (le_lt (take n s) n (bytes_take n s hs) l)

  -- the word that was read is the instruction's word again
  pub word-back : word_for i ≡ w
  unfolding word_for
  word-back =
      let b : 2 ^ (8 * n) ≤ 2 ^ (8 * (row_at p).bytes) = pow_mono (let h = row.short in let g = of_form.3 in omega arith) in
      let l = word_lt in
      word_again (row_at p) (all-at whole rows no_diagram all_whole p (rw length-rows (place_below i))) w (omega arith) fixed _ _ told.1 told.0

  -- and its length
  pub length_back : length_of i ≡ n
  unfolding length_for
  length_back =
      let l : bit_l (row_at p) w ≡ bit_l (row_at p) f.value =
      sym (covered_field (row_at p).fields w f.mask "L" row.fixes) ∙ ap (bit_l (row_at p)) agreed in
      ap (length_by (row_at p)) (told.2 ∙ l) ∙ row.long ∙ of_form.3

  -- its bytes are those that were decoded
  pub bytes_back : bytes_for i ≡ take n s
  bytes_back =
      ap₂ bytes_of length_back word-back
      ∙ ap (λ (k : ℕ). bytes_of k w) (sym length_first)
      ∙ bytes_le (take n s) (bytes_take n s hs)

  -- and they decode, alone, to the instruction
  pub first_decodes : decode_of (take n s) ≡ Ok (i, n)
  unfolding decode_of
  first_decodes =
      let t : take n (take n s) ≡ take n s = take_all n (take n s) (let h = length_first in omega arith) in
      let b : f.bytes ≡ n = of_form.3 in
      let m : matches f (take n s) ≡ true =
      rw (b, length_first, le-leb n n (omega arith), t, eq-eqb _ _ agreed) in
      let q = only_form (take n s) (bytes_take n s hs) f
      (record { index = of_form.1.index; within = of_form.1.within; is = of_form.1.is; agrees = m }) in
      ap (λ (x : Find). read_found x (take n s)) (q ∙ ap₂ (λ (x y : ℕ). Ok (x, y)) of_form.2 b)
      ∙ ap (λ (x : List ℕ). decoded_of (read_at p (le x)) n) t
      ∙ ap (λ (x : Reading). decoded_of x n) reads
