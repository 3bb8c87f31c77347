-- From what the functions on the word answer to what the bytes decode to.
use Rattle.std.proofs.Common.{◌≡◌, ◌<◌, ◌*◌, ℕ, List, false, Option, Result, Ok, Err, Some, None, refl, sym, ap, ap₂, ◌∙◌, subst, arith, length}
use Prim.Native.Nat.{min}
use lib.Bits.{bit_and, and_mask}
use lib.ListN.{take}
use Rattle.std.specs.Option.{ok_or}
use Rattle.bits.specs.Word.{le, word_of, ones}
use Rattle.bits.proofs.Laws.{Bytes, first_bytes}
use Rattle.isa.specs.Find.{find_of}
use Rattle.isa.specs.Decode.{read_at, decoded_of, read_found, decode_of}
use Rattle.isa.specs.Answer.{Find, Reading, Decoded}
use Rattle.isa.specs.declared.answer.Refusal.{Refusal}
use Rattle.rows.specs.Table.{table}
use Rattle.finding.specs.First.{first_of}
use Rattle.finding.proofs.Found.{found}
use Rattle.decode.specs.With.{with_length, ReadsFound}

-- ---- what was read, with the length that was found

pub has_meaning : {T : Type 0} (o : Option T) (n : ℕ) (x : T) → ◌≡◌ {A = Result T Refusal} (Ok x) (ok_or o Refusal.NoMeaning)
    → ◌≡◌ {A = Result (T × ℕ) Refusal} (Ok (x, n)) (with_length o n)
has_meaning {T = T} (Some y) n x e = let z : x ≡ y = cc in ap (λ (v : T). Ok (v, n)) z
has_meaning None n x e = cc

pub no_meaning : {T : Type 0} (o : Option T) (n : ℕ) (q : Refusal) → ◌≡◌ {A = Result T Refusal} (Err q) (ok_or o Refusal.NoMeaning)
    → ◌≡◌ {A = Result (T × ℕ) Refusal} (Err q) (with_length o n)
no_meaning (Some y) n q e = cc
no_meaning None n q e = let z : q ≡ Refusal.NoMeaning = cc in ap (λ (x : Refusal). Err x) z

read-length : (o : Reading) (n : ℕ) → with_length o n ≡ decoded_of o n
read-length (Some i) n = refl
read-length None n = refl

-- ---- what was found

module _ (s : List ℕ) (hs : Bytes s) (w n : ℕ) (ew : w ≡ word_of s) (en : n ≡ min 8 (length s)) where
  -- the word cut to the bytes that were found
  cut : (m o : ℕ) → m < 9 → o ≡ ones m → bit_and w o ≡ le (take m s)
  cut m o h e = ap₂ bit_and ew e ∙ and_mask (word_of s) (8 * m) ∙ sym (first_bytes m s hs (omega arith))

  pub decoded : (f : Find) → f ≡ first_of table 0 false w n → read_found f s ≡ decode_of s
  unfolding decode_of
  decoded f e = ap (λ (x : Find). read_found x s) (found s hs w n f ew en e)

  pub decoded-at : (p m o : ℕ) (r : Reading) → Ok (p, m) ≡ first_of table 0 false w n → m < 9 → o ≡ ones m → r ≡ read_at p (bit_and w o)
      → decoded_of r m ≡ decode_of s
  decoded-at p m o r e h eo er = ap (λ (x : Reading). decoded_of x m) (er ∙ ap (read_at p) (cut m o h eo)) ∙ decoded (Ok (p, m)) e

  module _ {T : Type 0} (reads : ℕ → ℕ → Option T → Type 0) (x : Result (T × ℕ) Refusal) where
    pub refused-with : (r : Refusal) → Err r ≡ first_of table 0 false w n → x ≡ Err r → ReadsFound reads (find_of s) s x
    refused-with r e ex = subst (λ (f : Find). ReadsFound reads f s x) (found s hs w n (Err r) ew en e) ex

    pub read-with : (p m o : ℕ) (r : Option T) → Ok (p, m) ≡ first_of table 0 false w n → m < 9 → o ≡ ones m → reads p (bit_and w o) r
        → x ≡ with_length r m → ReadsFound reads (find_of s) s x
    read-with p m o r e h eo er ex =
        subst (λ (f : Find). ReadsFound reads f s x) (found s hs w n (Ok (p, m)) ew en e)
        (r, subst (λ (v : ℕ). reads p v r) (cut m o h eo) er, ex)

-- ---- reading by the diagrams

pub by_diagrams : (s : List ℕ) (x : Decoded) → ReadsFound (λ p w o. o ≡ read_at p w) (find_of s) s x → x ≡ decode_of s
unfolding decode_of
by_diagrams s x h = go (find_of s) h
  where
    go : (f : Find) → ReadsFound (λ p w o. o ≡ read_at p w) f s x → x ≡ read_found f s
    go (Ok (p, n)) h = h.2 ∙ read-length h.0 n ∙ ap (λ (o : Reading). decoded_of o n) h.1
    go (Err r) h = h
