-- The first form that matches is the one that the finding rule takes: no other matches, so none has more fixed bits.
use Rattle.std.proofs.Common.{Ok, Err}
use mathlib.Core.Path.{◌≡◌, refl, sym, ap, ◌∙◌}
use mathlib.Core.Bool.{Bool, true, false, cond, ◌&&◌, ◌||◌, or_assoc}
use mathlib.Core.List.{List, [], ◌∷◌}
use mathlib.Core.Option.{none, some}
use Prim.Native.Nat.{ℕ, ◌*◌, ◌^◌, ◌≤◌, ◌<◌, min}
use native.Mathlib.Nat.{mod-eq_of_lt}
use native.Mathlib.Omega.{arith}
use lib.Bits.{bit_and, and_mask}
use lib.Dec.{T, eqb, leb, ltb}
use lib.ListN.{length}
use lib.Pow.{pow_mono}
use lib.Seq.{take_all}
use borrow.Author.Tests.{le-leb, lt-leb, le-ltb, lt-ltb, leb-true, leb-false}
use Rattle.bits.specs.Word.{word_of, ones}
use Rattle.bits.proofs.Laws.{Bytes}
use Rattle.bits.proofs.Table.{all, left, right}
use Rattle.isa.specs.Refusal.{refusal}
use Rattle.isa.specs.Find.{Form, forms, matches, goes_on, beats, best_of, any_goes_on, found, find_of}
use Rattle.isa.specs.Answer.{Find}
use Rattle.isa.proofs.Forms.{WellFormed, well_formed, well_formed_lem, all-well_formed, in_word_lem}
use Rattle.isa.proofs.Exclusive.{apart, pairs, exclusive, clash}

-- the fixed bits that are lent agree
abbrev pub form_agrees : Form → ℕ → ℕ → Bool
form_agrees f w n = eqb (bit_and w f.mask) (bit_and f.value (ones n))

-- the first form of a list that matches the word w of which n bytes are lent; whether one before it agreed, and is longer
abbrev pub first_form : List Form → Bool → ℕ → ℕ → Find
first_form [] more w n = cond more (Err (refusal 2)) (Err (refusal 3))
first_form (f ∷ fs) more w n =
    cond (leb f.bytes n && form_agrees f w n) (Ok (f.place, f.bytes)) (first_form fs (more || form_agrees f w n) w n)

-- a number within b bytes is not changed by the mask of n bytes
kept : (v b n : ℕ) → v < 2 ^ (8 * b) → b ≤ n → bit_and v (ones n) ≡ v
kept v b n h l =
    let q : 2 ^ (8 * b) ≤ 2 ^ (8 * n) = pow_mono (omega arith) in
    and_mask v (8 * n) ∙ mod-eq_of_lt (omega arith)

module _ (s : List ℕ) (hs : Bytes s) where
  abbrev lent : ℕ
  lent = min 8 (length s)

  -- the one test of the loop is the rule's, where the form is lent whole ..
  whole : (f : Form) → WellFormed f → f.bytes ≤ lent → form_agrees f (word_of s) lent ≡ matches f s
  whole f lf h =
      let m : leb f.bytes (length s) ≡ true = le-leb f.bytes (length s) (omega arith) in
      rw (m, kept f.value f.bytes lent lf.value_lt h, ← in_word_lem s hs f lf)

  -- .. and where it is not
  part : (f : Form) → WellFormed f → lent < f.bytes → form_agrees f (word_of s) lent ≡ goes_on f s
  part f lf h =
      let b = lf.short in
      let n : lent ≡ length s = omega arith in
      let l : length s ≤ 8 = omega arith in
      let m : ltb (length s) f.bytes ≡ true = lt-ltb (length s) f.bytes (omega arith) in
      rw (m, n, take_all 8 s l)

  test : (f : Form) → WellFormed f → (leb f.bytes lent && form_agrees f (word_of s) lent) ≡ matches f s
  test f lf = go (leb f.bytes lent) refl
    where
      go : (b : Bool) → leb f.bytes lent ≡ b → (b && form_agrees f (word_of s) lent) ≡ matches f s
      go true e = whole f lf (leb-true _ _ e)
      go false e =
          let h : lent < f.bytes = leb-false f.bytes lent e in
          let b = lf.short in
          let m : leb f.bytes (length s) ≡ false = lt-leb f.bytes (length s) (omega arith) in
          rw m

  waits : (f : Form) → WellFormed f → matches f s ≡ false → form_agrees f (word_of s) lent ≡ goes_on f s
  waits f lf m = go (leb f.bytes lent) refl
    where
      go : (b : Bool) → leb f.bytes lent ≡ b → form_agrees f (word_of s) lent ≡ goes_on f s
      go true e =
          let h : f.bytes ≤ lent = leb-true f.bytes lent e in
          let l : ltb (length s) f.bytes ≡ false = le-ltb (length s) f.bytes (omega arith) in
          whole f lf h ∙ m ∙ sym (rw l)
      go false e = part f lf (leb-false _ _ e)

  -- no form after one that matches takes its place
  stays : (f : Form) → WellFormed f → matches f s ≡ true → (gs : List Form) → T (all well_formed gs) → T (all (apart f) gs)
      → best_of gs s (some f) ≡ some f
  stays f lf m [] tl ta = refl
  stays f lf m (g ∷ gs) tl ta =
      go (matches g s) refl (stays f lf m gs (right (well_formed g) _ tl) (right (apart f g) _ ta))
    where
      go : (b : Bool) → matches g s ≡ b → best_of gs s (some f) ≡ some f
          → best_of gs s (cond (b && beats g (some f)) (some g) (some f)) ≡ some f
      go true e ih =
          absurd (clash s hs f g lf (well_formed_lem g (left (well_formed g) _ tl)) (left (apart f g) _ ta) m e)
      go false e ih = ih

  first : (fs : List Form) → T (all well_formed fs) → T (pairs fs) → (more : Bool)
      → first_form fs more (word_of s) lent ≡ found (best_of fs s none) (more || any_goes_on fs s)
  first [] tl tp true = refl
  first [] tl tp false = refl
  first (f ∷ fs) tl tp more =
      rw (test f lf)
      (go (matches f s) refl (first fs (right (well_formed f) _ tl) (right (all (apart f) fs) _ tp)))
    where
      lf : WellFormed f
      lf = well_formed_lem f (left (well_formed f) _ tl)

      go : (b : Bool) → matches f s ≡ b
          → ((more : Bool) → first_form fs more (word_of s) lent ≡ found (best_of fs s none) (more || any_goes_on fs s))
          → cond b (Ok (f.place, f.bytes)) (first_form fs (more || form_agrees f (word_of s) lent) (word_of s) lent)
          ≡ found (best_of fs s (cond (b && true) (some f) none)) (more || (goes_on f s || any_goes_on fs s))
      go true m ih =
          rw (stays f lf m fs (right (well_formed f) _ tl) (left (all (apart f) fs) _ tp))
      go false m ih =
          ih (more || form_agrees f (word_of s) lent)
          ∙ ap (λ (b : Bool). found (best_of fs s none) b)
          (ap (λ (b : Bool). (more || b) || any_goes_on fs s) (waits f lf m) ∙ or_assoc more (goes_on f s) (any_goes_on fs s))

  pub form_is_found : first_form forms false (word_of s) lent ≡ find_of s
  form_is_found = first forms all-well_formed exclusive false
