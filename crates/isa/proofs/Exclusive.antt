-- No two diagrams match the same bytes.
use mathlib.Core.Path.{◌≡◌, refl, sym, ap, ◌∙◌}
use mathlib.Core.Bool.{Bool, true, not, ◌&&◌}
use mathlib.Core.List.{List, [], ◌∷◌}
use Prim.Native.Nat.{ℕ, zero, suc, ◌<◌}
use native.Mathlib.Nat.{le_of_suc-le-suc, not-suc-le-zero}
use lib.Bits.{bit_and}
use lib.Dec.{T, eqb}
use lib.ListN.{length, get_or}
use borrow.Author.Tests.{eq-eqb}
use Rattle.bits.specs.Word.{word_of}
use Rattle.bits.proofs.Laws.{Bytes}
use Rattle.bits.proofs.Masks.{and_swap}
use Rattle.bits.proofs.Table.{all, all-at, left, right}
use Rattle.isa.specs.Rows.{rows}
use Rattle.isa.specs.Find.{Form, forms, matches}
use Rattle.isa.proofs.Forms.{WellFormed, well_formed, well_formed_lem, all-well_formed, agreed}

-- two forms differ in a bit that both fix
abbrev pub apart : Form → Form → Bool
apart f g = not (eqb (bit_and f.value g.mask) (bit_and g.value f.mask))

abbrev pub pairs : List Form → Bool
pairs [] = true
pairs (f ∷ fs) = all (apart f) fs && pairs fs

-- the statement over the list, closed by computation
pub exclusive : T (pairs forms)
unfolding rows forms
exclusive = tt

-- two forms that are apart do not match the same bytes
pub clash : (s : List ℕ) → Bytes s → (f g : Form) → WellFormed f → WellFormed g → T (apart f g) → matches f s ≡ true → matches g s ≡ true → ⊥
clash s hs f g lf lg a mf mg =
    let e : bit_and f.value g.mask ≡ bit_and g.value f.mask =
    ap (λ (x : ℕ). bit_and x g.mask) (sym (agreed s hs f lf mf))
    ∙ and_swap (word_of s) f.mask g.mask
    ∙ ap (λ (x : ℕ). bit_and x f.mask) (agreed s hs g lg mg) in
    rw (eq-eqb _ _ e) at a

two_of : (fs : List Form) (d : Form) → T (pairs fs) → T (all well_formed fs) → (s : List ℕ) → Bytes s → (i j : ℕ) → i < length fs → j < length fs
    → matches (get_or fs i d) s ≡ true → matches (get_or fs j d) s ≡ true → i ≡ j
two_of [] d p l s hs i j hi hj mi mj = absurd (not-suc-le-zero hi)
two_of (f ∷ fs) d p l s hs zero zero hi hj mi mj = refl
two_of (f ∷ fs) d p l s hs zero (suc j) hi hj mi mj =
    absurd
    (clash s hs f (get_or fs j d) (well_formed_lem f (left (well_formed f) _ l))
    (well_formed_lem (get_or fs j d) (all-at well_formed fs d (right (well_formed f) _ l) j (le_of_suc-le-suc hj)))
    (all-at (apart f) fs d (left (all (apart f) fs) _ p) j (le_of_suc-le-suc hj)) mi mj)
two_of (f ∷ fs) d p l s hs (suc i) zero hi hj mi mj =
    absurd
    (clash s hs f (get_or fs i d) (well_formed_lem f (left (well_formed f) _ l))
    (well_formed_lem (get_or fs i d) (all-at well_formed fs d (right (well_formed f) _ l) i (le_of_suc-le-suc hi)))
    (all-at (apart f) fs d (left (all (apart f) fs) _ p) i (le_of_suc-le-suc hi)) mj mi)
two_of (f ∷ fs) d p l s hs (suc i) (suc j) hi hj mi mj =
    ap suc
    (two_of fs d (right (all (apart f) fs) _ p) (right (well_formed f) _ l) s hs i j (le_of_suc-le-suc hi) (le_of_suc-le-suc hj) mi mj)

-- bytes match one form of one diagram at most
pub no_two_match : (s : List ℕ) → Bytes s → (d : Form) (i j : ℕ) → i < length forms → j < length forms
    → matches (get_or forms i d) s ≡ true → matches (get_or forms j d) s ≡ true → i ≡ j
no_two_match s hs d = two_of forms d exclusive all-well_formed s hs
