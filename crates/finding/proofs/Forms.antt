-- The forms of a row, tried one after the other, are the row tried once: the word's bit L says which of two forms it can be.
use Rattle.std.proofs.Common.{Ok}
use mathlib.Core.Path.{◌≡◌, refl, sym, ap, ap₂, ◌∙◌}
use mathlib.Core.Bool.{Bool, true, false, cond, ◌&&◌, ◌||◌, or-true, or-false, and-true, and-false}
use mathlib.Core.List.{List, [], ◌∷◌, ◌++◌, map}
use Prim.Native.Nat.{ℕ, suc, ◌*◌, ◌-◌, ◌/◌, ◌%◌, ◌^◌, ◌<◌}
use native.Mathlib.Omega.{arith}
use lib.Bits.{bit_and, bit_or, and_comm, and_self, and_zero_l, and_zero_r, or_zero_l, or_zero_r, and_high}
use lib.Dec.{T, eqb, leb, eqb→eq}
use borrow.Author.Tests.{eq-eqb, ne_eqb, eqb-true, eqb-false, leb-false, lt-leb}
use Rattle.bits.specs.Word.{ones}
use Rattle.bits.proofs.Masks.{and_swap, and_assoc, and_or, or_and}
use Rattle.bits.proofs.Table.{all, left, right}
use Rattle.isa.specs.Diagram.{Diagram}
use Rattle.isa.specs.Rows.{rows}
use Rattle.isa.specs.Find.{Form, diagram_form, forms_at, forms_from, forms, absent}
use Rattle.isa.specs.Answer.{Find}
use Rattle.rows.specs.Table.{row_of, table}
use Rattle.rows.specs.declared.Row.{Row}
use Rattle.finding.specs.First.{agrees, length_by, first_of}
use Rattle.finding.proofs.First.{first_form}

-- ---- masks: a word of which n bytes are lent; fixed bits f with values v; and a bit l that is not fixed

module _ (w n f v l : ℕ) (hw : bit_and w (ones n) ≡ w) (vf : bit_and v f ≡ v) (fl : bit_and f l ≡ 0) where
  abbrev k : ℕ
  k = ones n

  lf : bit_and l f ≡ 0
  lf = and_comm l f ∙ fl

  -- what agrees in more bits than the fixed ones agrees in these
  in_fixed : (x : ℕ) → bit_and x f ≡ 0 → bit_and w (bit_or l f) ≡ bit_and (bit_or x v) k → bit_and w f ≡ bit_and v k
  in_fixed x xf e =
      ap (bit_and w) (sym (or_and l f f ∙ ap₂ bit_or lf (and_self f) ∙ or_zero_l f))
      ∙ and_assoc w (bit_or l f) f
      ∙ ap (λ (y : ℕ). bit_and y f) e
      ∙ and_swap (bit_or x v) k f
      ∙ ap (λ (y : ℕ). bit_and y k) (or_and x v f ∙ ap₂ bit_or xf vf ∙ or_zero_l v)

  vl : bit_and v l ≡ 0
  vl = ap (λ (y : ℕ). bit_and y l) (sym vf) ∙ sym (and_assoc v f l) ∙ ap (bit_and v) fl ∙ and_zero_r v

  -- what agrees with l clear has it clear
  is-clear : bit_and w (bit_or l f) ≡ bit_and (bit_or 0 v) k → bit_and w l ≡ 0
  is-clear e =
      ap (bit_and w) (sym (or_and l f l ∙ ap₂ bit_or (and_self l) fl ∙ or_zero_r l))
      ∙ and_assoc w (bit_or l f) l
      ∙ ap (λ (y : ℕ). bit_and y l) e
      ∙ and_swap (bit_or 0 v) k l
      ∙ ap (λ (y : ℕ). bit_and y k) (ap (λ (y : ℕ). bit_and y l) (or_zero_l v) ∙ vl)
      ∙ and_zero_l k

  module _ (e : bit_and w f ≡ bit_and v k) where
    together : bit_and w (bit_or l f) ≡ bit_or (bit_and w l) (bit_and v k)
    together = and_or w l f ∙ ap (bit_or (bit_and w l)) e

    with-clear : bit_and w l ≡ 0 → bit_and w (bit_or l f) ≡ bit_and (bit_or 0 v) k
    with-clear z =
        together ∙ ap (λ (y : ℕ). bit_or y (bit_and v k)) z ∙ or_zero_l (bit_and v k) ∙ ap (λ (y : ℕ). bit_and y k) (sym (or_zero_l v))

    with-set : bit_and w l ≡ l → bit_and w (bit_or l f) ≡ bit_and (bit_or l v) k
    with-set h =
        let lk : bit_and l k ≡ l = ap (λ (y : ℕ). bit_and y k) (sym h) ∙ and_swap w l k ∙ ap (λ (y : ℕ). bit_and y l) hw ∙ h in
        together ∙ ap (λ (y : ℕ). bit_or y (bit_and v k)) (h ∙ sym lk) ∙ sym (or_and l v k)

-- one bit is set or clear
clear_or_set : (w : ℕ) → eqb (bit_and w (2 ^ 15)) (2 ^ 15) ≡ false → bit_and w (2 ^ 15) ≡ 0
clear_or_set w h =
    let e : bit_and w (2 ^ 15) ≡ (w / 2 ^ 15 % 2 ^ 1) * 2 ^ 15 = and_high w 1 15 in
    let l : w / 2 ^ 15 % 2 ^ 1 < 2 = omega arith in
    let q : bit_and w (2 ^ 15) ≡ 2 ^ 15 → ⊥ = eqb-false _ _ h in
    omega arith

-- ---- a row and its forms

-- the row r at the place i is tried, and then the rest
abbrev tried : Row → ℕ → ℕ → ℕ → Bool → (Bool → Find) → Find
tried r i w n more rest =
    cond (agrees r w n) (cond (leb (length_by r w) n) (Ok (i, length_by r w)) (rest true)) (rest more)

-- a form at the place i, of b bytes, that agrees or does not, is tried, and then the rest
abbrev tried_form : ℕ → ℕ → ℕ → Bool → Bool → (Bool → Find) → Find
tried_form i b n a more rest = cond (leb b n && a) (Ok (i, b)) (rest (more || a))

met : (i b n : ℕ) (more : Bool) (rest : Bool → Find) → tried_form i b n true more rest ≡ cond (leb b n) (Ok (i, b)) (rest true)
met i b n more rest = simp (and-true, or-true)

missed : (i b n : ℕ) (more : Bool) (rest : Bool → Find) → tried_form i b n false more rest ≡ rest more
missed i b n more rest = simp (and-false, or-false)

-- a longer form than one that is too long
longer : (i b n : ℕ) (a : Bool) (rest : Bool → Find) → n < b → tried_form i b n a true rest ≡ rest true
longer i b n a rest h = simp (lt-leb b n h)

-- what is known of a row: its values stand at its fixed bits
abbrev sound : Row → Bool
sound r = eqb (bit_and r.value r.fixed) r.value

-- and its bit L, if it has one, is bit 15, which is not fixed, and by which it is two bytes shorter
abbrev sound_l : Row → Bool
sound_l r = eqb r.bit_l (2 ^ 15) && (eqb (bit_and r.fixed (2 ^ 15)) 0 && eqb (absent r.bytes) 2)

abbrev known : Row → Bool
known r = sound r && (eqb r.bit_l 0 || sound_l r)

all_known : T (all (λ (d : Diagram). known (row_of d)) rows)
unfolding rows
all_known = tt

module _ (w n : ℕ) (hw : bit_and w (ones n) ≡ w) (r : Row) (i : ℕ) (more : Bool) (rest : Bool → Find) where
  abbrev short_agrees : Bool
  short_agrees = eqb (bit_and w (bit_or r.bit_l r.fixed)) (bit_and (bit_or 0 r.value) (ones n))

  abbrev long_agrees : Bool
  long_agrees = eqb (bit_and w (bit_or r.bit_l r.fixed)) (bit_and (bit_or r.bit_l r.value) (ones n))

  one : r.bit_l ≡ 0
      → tried_form i r.bytes n (eqb (bit_and w (bit_or 0 r.fixed)) (bit_and (bit_or 0 r.value) (ones n))) more rest
      ≡ tried r i w n more rest
  one z = rw (z, or_zero_l r.fixed, or_zero_l r.value, and_zero_r w) (go (agrees r w n))
    where
      go : (a : Bool) → tried_form i r.bytes n a more rest ≡ cond a (cond (leb r.bytes n) (Ok (i, r.bytes)) (rest true)) (rest more)
      go true = met i r.bytes n more rest
      go false = missed i r.bytes n more rest

  module _ (vf : bit_and r.value r.fixed ≡ r.value) (l : r.bit_l ≡ 2 ^ 15) (fl : bit_and r.fixed r.bit_l ≡ 0) where
    abbrev has_l : Bool
    has_l = eqb (bit_and w r.bit_l) r.bit_l

    clear : has_l ≡ false → bit_and w r.bit_l ≡ 0
    clear h = rw l (clear_or_set w (rw⁻¹ l h))

    -- the forms agree as the row does, the one that its bit L says ..
    short_met : agrees r w n ≡ true → has_l ≡ false → short_agrees ≡ true
    short_met a h = eq-eqb _ _ (with-clear w n r.fixed r.value r.bit_l hw vf fl (eqb-true _ _ a) (clear h))

    long_met : agrees r w n ≡ true → has_l ≡ true → long_agrees ≡ true
    long_met a h = eq-eqb _ _ (with-set w n r.fixed r.value r.bit_l hw vf fl (eqb-true _ _ a) (eqb-true _ _ h))

    -- .. and not otherwise
    short_missed : has_l ≡ true → short_agrees ≡ false
    short_missed h =
        ne_eqb _ _ λ q.
        let z = is-clear w n r.fixed r.value r.bit_l hw vf fl q in
        let e : bit_and w r.bit_l ≡ r.bit_l = eqb-true _ _ h in
        omega arith

    neither : agrees r w n ≡ false → (short_agrees ≡ false) × (long_agrees ≡ false)
    neither a =
        let f = in_fixed w n r.fixed r.value r.bit_l hw vf fl in (
          ne_eqb _ _ (λ q. eqb-false _ _ a (f 0 (and_zero_l r.fixed) q)),
          ne_eqb _ _ (λ q. eqb-false _ _ a (f r.bit_l (and_comm r.bit_l r.fixed ∙ fl) q)),
        )

    abbrev both : Bool → Bool → Find
    both s g = tried_form i (r.bytes - 2) n s more (λ (m : Bool). tried_form i r.bytes n g m rest)

    set : both false true ≡ cond (leb r.bytes n) (Ok (i, r.bytes)) (rest true)
    set = missed i (r.bytes - 2) n more (λ (m : Bool). tried_form i r.bytes n true m rest) ∙ met i r.bytes n more rest

    unset : (g : Bool) → both true g ≡ cond (leb (r.bytes - 2) n) (Ok (i, r.bytes - 2)) (rest true)
    unset g = met i (r.bytes - 2) n more (λ (m : Bool). tried_form i r.bytes n g m rest) ∙ go (leb (r.bytes - 2) n) refl
      where
        go : (p : Bool) → leb (r.bytes - 2) n ≡ p
            → cond p (Ok (i, r.bytes - 2)) (tried_form i r.bytes n g true rest) ≡ cond p (Ok (i, r.bytes - 2)) (rest true)
        go true e = refl
        go false e = longer i r.bytes n g rest (let h : n < r.bytes - 2 = leb-false _ _ e in omega arith)

    unmet : both false false ≡ rest more
    unmet = missed i (r.bytes - 2) n more (λ (m : Bool). tried_form i r.bytes n false m rest) ∙ missed i r.bytes n more rest

    two : both short_agrees long_agrees ≡ tried r i w n more rest
    two = go (agrees r w n) has_l refl refl
      where
        go : (a h : Bool) → agrees r w n ≡ a → has_l ≡ h
            → both short_agrees long_agrees
            ≡ cond a (cond (leb (cond h r.bytes (r.bytes - 2)) n) (Ok (i, cond h r.bytes (r.bytes - 2))) (rest true)) (rest more)
        go true true ea eh = ap₂ both (short_missed eh) (long_met ea eh) ∙ set
        go true false ea eh = ap (λ (s : Bool). both s long_agrees) (short_met ea eh) ∙ unset long_agrees
        go false h ea eh = ap₂ both (neither ea).0 (neither ea).1 ∙ unmet

-- ---- the list

module _ (w n : ℕ) (hw : bit_and w (ones n) ≡ w) where
  row_once : (d : Diagram) → T (known (row_of d)) → (i : ℕ) (more : Bool) (fs : List Form)
      → first_form (forms_at i d ++ fs) more w n ≡ tried (row_of d) i w n more (λ (m : Bool). first_form fs m w n)
  row_once d t i more fs = go (eqb (row_of d).bit_l 0) refl (right (sound (row_of d)) _ t)
    where
      vf : bit_and (row_of d).value (row_of d).fixed ≡ (row_of d).value
      vf = eqb→eq _ _ (left (sound (row_of d)) _ t)

      go : (z : Bool) → eqb (row_of d).bit_l 0 ≡ z → T (z || sound_l (row_of d))
          → first_form
          (cond z
          (diagram_form i d d.bytes 0 0 ∷ [])
          (diagram_form i d (d.bytes - absent d.bytes) (row_of d).bit_l 0 ∷ diagram_form i d d.bytes (row_of d).bit_l (row_of d).bit_l ∷ [])
          ++ fs) more w n
          ≡ tried (row_of d) i w n more (λ (m : Bool). first_form fs m w n)
      go true e u = one w n hw (row_of d) i more (λ (m : Bool). first_form fs m w n) (eqb-true _ _ e)
      go false e u =
          let l : (row_of d).bit_l ≡ 2 ^ 15 = eqb→eq _ _ (left (eqb (row_of d).bit_l (2 ^ 15)) _ u) in
          let v = right (eqb (row_of d).bit_l (2 ^ 15)) _ u in
          let fl = eqb→eq _ _ (left (eqb (bit_and (row_of d).fixed (2 ^ 15)) 0) _ v) in
          let b : absent d.bytes ≡ 2 = eqb→eq _ _ (right (eqb (bit_and (row_of d).fixed (2 ^ 15)) 0) _ v) in
          rw b (two w n hw (row_of d) i more (λ (m : Bool). first_form fs m w n) vf l (rw l fl))

  rows-once : (ds : List Diagram) → T (all (λ (d : Diagram). known (row_of d)) ds) → (i : ℕ) (more : Bool)
      → first_of (map row_of ds) i more w n ≡ first_form (forms_from i ds) more w n
  rows-once [] t i more = refl
  rows-once (d ∷ ds) t i more =
      ap₂ (λ (x y : Find). cond (agrees (row_of d) w n) (cond (leb (length_by (row_of d) w) n) (Ok (i, length_by (row_of d) w)) x) y)
      (rows-once ds (right (known (row_of d)) _ t) (suc i) true) (rows-once ds (right (known (row_of d)) _ t) (suc i) more)
      ∙ sym (row_once d (left (known (row_of d)) _ t) i more (forms_from (suc i) ds))

  pub first_row_is_first_form : first_of table 0 false w n ≡ first_form forms false w n
  unfolding table forms
  first_row_is_first_form = rows-once rows all_known 0 false
