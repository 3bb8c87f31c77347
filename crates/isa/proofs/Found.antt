-- What is found: a form of the list that matches, and the only one. It is lent whole, and has four to eight bytes.
use Rattle.std.proofs.Common.{Ok, Err}
use mathlib.Core.Path.{◌≡◌, refl, sym, ap, ◌∙◌, subst}
use mathlib.Core.Bool.{Bool, true, false, cond, ◌&&◌}
use mathlib.Core.List.{List, [], ◌∷◌}
use mathlib.Core.Option.{Option, none, some}
use Prim.Native.Nat.{ℕ, zero, suc, ◌≤◌, zero-le, suc-le-suc, ◌<◌}
use native.Mathlib.Nat.{le_of_suc-le-suc, not-suc-le-zero}
use lib.Dec.{T}
use lib.ListN.{length, get_or}
use borrow.Author.Tests.{leb-true}
use Rattle.bits.proofs.Laws.{Bytes}
use Rattle.bits.proofs.Table.{all-at, and_left}
use Rattle.isa.specs.Find.{Form, forms, matches, beats, best_of, any_goes_on, found, find_of}
use Rattle.isa.specs.Decode.{decode_of}
use Rattle.isa.specs.Answer.{Find}
use Rattle.isa.specs.Answer.{Decoded}
use Rattle.isa.specs.declared.instruction.Instruction.{Instruction}
use Rattle.isa.proofs.Cases.{cases}
use Rattle.isa.proofs.Forms.{well_formed, well_formed_lem, all-well_formed}
use Rattle.isa.proofs.Exclusive.{no_two_match}

-- ---- the form that was found

-- what stands past the end of the forms
abbrev no_form : Form
no_form = record { place = 0; bytes = 0; mask = 0; value = 0; count = 0 }

abbrev pub form_at : ℕ → Form
form_at j = get_or forms j no_form

-- the form at j of the list matches
pub record Matched (s : List ℕ) (f : Form) : Type 0 where
  pub index : ℕ
  pub within : index < length forms
  pub is : form_at index ≡ f
  pub agrees : matches f s ≡ true

abbrev IfAny : (Form → Type 0) → Option Form → Type 0
IfAny Q none = Unit {0}
IfAny Q (some f) = Q f

module _ (s : List ℕ) (Q : Form → Type 0) where
  better : (f : Form) (b : Option Form) → (matches f s ≡ true → Q f) → IfAny Q b → (m t : Bool) → matches f s ≡ m
      → IfAny Q (cond (m && t) (some f) b)
  better f b q h true true e = q e
  better f b q h true false e = h
  better f b q h false t e = h

  -- the best of a list is one that matches
  best : (fs : List Form) (b : Option Form) → ((j : ℕ) → j < length fs → matches (get_or fs j no_form) s ≡ true → Q (get_or fs j no_form))
      → IfAny Q b → IfAny Q (best_of fs s b)
  best [] b q h = h
  best (f ∷ fs) b q h =
      best fs (cond (matches f s && beats f b) (some f) b) (λ j l m. q (suc j) (suc-le-suc l) m)
      (better f b (q 0 (suc-le-suc zero-le)) h (matches f s) (beats f b) refl)

abbrev Of : List ℕ → Find → Type 0
Of s (Ok (p, n)) = (f : Form) × Matched s f × (f.place ≡ p) × (f.bytes ≡ n)
Of s (Err r) = Unit {0}

of_best : (s : List ℕ) (b : Option Form) (more : Bool) → IfAny (Matched s) b → Of s (found b more)
of_best s none true h = tt
of_best s none false h = tt
of_best s (some f) more h = (f, h, refl, refl)

-- what is found is a form of the list that matches
pub found_form : (s : List ℕ) (p n : ℕ) → find_of s ≡ Ok (p, n) → (f : Form) × Matched s f × (f.place ≡ p) × (f.bytes ≡ n)
found_form s p n e =
    subst (Of s) e
    (of_best s (best_of forms s none) (any_goes_on forms s)
    (best s (Matched s) forms none (λ j l m. record { index = j; within = l; is = refl; agrees = m }) tt))

-- ---- the form that matches is found

abbrev IsSome : Option Form → Type 0
IsSome none = ⊥
IsSome (some f) = Unit {0}

module _ (s : List ℕ) where
  stays : (fs : List Form) (b : Option Form) → IsSome b → IsSome (best_of fs s b)
  stays [] b h = h
  stays (f ∷ fs) b h = stays fs (cond (matches f s && beats f b) (some f) b) (go (matches f s && beats f b))
    where
      go : (t : Bool) → IsSome (cond t (some f) b)
      go true = tt
      go false = h

  taken : (f : Form) (b : Option Form) → matches f s ≡ true → IsSome (cond (matches f s && beats f b) (some f) b)
  taken f none m = rw m tt
  taken f (some g) m = rw m (go (beats f (some g)))
    where
      go : (t : Bool) → IsSome (cond t (some f) (some g))
      go true = tt
      go false = tt

  some_best : (fs : List Form) (b : Option Form) (j : ℕ) → j < length fs → matches (get_or fs j no_form) s ≡ true → IsSome (best_of fs s b)
  some_best [] b j h m = absurd (not-suc-le-zero h)
  some_best (f ∷ fs) b zero h m = stays fs (cond (matches f s && beats f b) (some f) b) (taken f b m)
  some_best (f ∷ fs) b (suc j) h m = some_best fs (cond (matches f s && beats f b) (some f) b) j (le_of_suc-le-suc h) m

  pub only_form : Bytes s → (f : Form) → Matched s f → find_of s ≡ Ok (f.place, f.bytes)
  only_form hs f h =
      go (best_of forms s none) (any_goes_on forms s)
      (best s (Matched s) forms none (λ j l m. record { index = j; within = l; is = refl; agrees = m }) tt)
      (some_best forms none h.index h.within (rw h.is h.agrees))
    where
      go : (b : Option Form) (more : Bool) → IfAny (Matched s) b → IsSome b → found b more ≡ Ok (f.place, f.bytes)
      go none more q i = absurd i
      go (some g) more q i =
          let e : q.index ≡ h.index =
          no_two_match s hs no_form q.index h.index q.within h.within (rw q.is q.agrees) (rw h.is h.agrees) in
          let z : g ≡ f = sym q.is ∙ ap form_at e ∙ h.is in
          ap (λ (x : Form). Ok (x.place, x.bytes)) z

-- ---- its length

-- a place of the list, and a length that is lent
abbrev pub Lent : List ℕ → Find → Type 0
Lent s (Ok (p, n)) = (p < 22) × (4 ≤ n) × (n ≤ 8) × (n ≤ length s)
Lent s (Err r) = Unit {0}

pub found-lent : (s : List ℕ) → Lent s (find_of s)
found-lent s = go (find_of s) refl
  where
    go : (x : Find) → find_of s ≡ x → Lent s x
    go (Err r) e = tt
    go (Ok (p, n)) e =
        let q = found_form s p n e in
        let m = q.1 in
        let w = well_formed_lem q.0 (subst (λ (f : Form). T (well_formed f)) m.is (all-at well_formed forms no_form all-well_formed m.index m.within)) in
        let l = leb-true q.0.bytes (length s) (and_left _ _ m.agrees) in
        (rw (← q.2) w.placed, rw (← q.3) w.long, rw (← q.3) w.short, rw (← q.3) l)

abbrev Long : List ℕ → Decoded → Type 0
Long s (Ok (i, n)) = (4 ≤ n) × (n ≤ 8) × (n ≤ length s)
Long s (Err r) = Unit {0}

-- a decoded instruction has four to eight bytes, and they are lent
pub found-length : (s : List ℕ) (i : Instruction) (n : ℕ) → decode_of s ≡ Ok (i, n) → (4 ≤ n) × (n ≤ 8) × (n ≤ length s)
found-length s i n e =
    subst (Long s) e
    (cases (Long s) s (λ p m j f g. let l = subst (Lent s) f (found-lent s) in (l.1, l.2, l.3)) (λ r a b. tt))
