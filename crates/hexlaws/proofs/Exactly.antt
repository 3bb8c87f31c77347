-- Each kernel and each refusal is given in exactly its cases: `right` from the case to what reading finds, `always` from what it finds to the
-- case.
use mathlib.Core.Path.{◌≡◌, refl, sym, ap, ◌∙◌}
use mathlib.Core.Bool.{Bool, true, false, ◌&&◌}
use mathlib.Core.List.{List, [], ◌∷◌, ◌++◌, append_assoc, append-nil}
use mathlib.Core.Logic.{◌⊎◌, inl, inr}
use Prim.Native.Nat.{ℕ, suc, ◌%◌, ◌<◌}
use native.Mathlib.Omega.{arith}
use lib.Dec.{eqb}
use lib.ListN.{length, get_or, drop}
use borrow.Author.Tests.{eq-eqb, ne_eqb, eqb-true, eqb-false}
use Rattle.hexrow.proofs.Told.{never}
use Rattle.hexpairs.specs.Pairs.{total}
use Rattle.hexrow.specs.Row.{fault, bytes_in, formed, address_of, type_of, data_of, Says, holds, ends, bad, summed, says_of, line_of}
use Rattle.hexfile.specs.Read.{lines_of, Contents, bad_row, on_row, nothing_after, read_rows, read_of}
use Rattle.hexfile.proofs.Lines.{lines_first}
use Rattle.hexlaws.specs.Form.{IsRow, RightSum, IsData, IsEnd, DataRows, Holds, whole, no_row, wrong_sum, misplaced, no_end, followed}
use Rattle.hexlaws.proofs.Rows.{row_formed, row_bytes, formed_row, row_lines, line_splits}

-- ---- the tests of the definition, and the statements

-- a test that tells whether something holds
abbrev Tells : Bool → Type 0 → Type 0
Tells b P = ((b ≡ true) × P) ⊎ ((b ≡ false) × (P → ⊥))

refute : {P : Type 0} (b : Bool) → Tells b P → (P → ⊥) → b ≡ false
refute b (inl t) h = absurd (h t.1)
refute b (inr t) h = t.0

one : (a b : ℕ) → Tells (eqb a b) (a ≡ b)
one a b = go (eqb a b) refl
  where
    go : (t : Bool) → eqb a b ≡ t → Tells (eqb a b) (a ≡ b)
    go true e = inl (e, eqb-true a b e)
    go false e = inr (e, eqb-false a b e)

both : {P Q : Type 0} (a b : Bool) → Tells a P → Tells b Q → Tells (a && b) (P × Q)
both a b (inl s) (inl t) = inl (rw (s.0, t.0), (s.1, t.1))
both a b (inl s) (inr t) = inr (rw (s.0, t.0), λ p. t.1 p.1)
both a b (inr s) t = inr (rw s.0, λ p. s.1 p.0)

abbrev data_test : ℕ → List ℕ → Bool
data_test next bytes = eqb (type_of bytes) 0 && eqb (address_of bytes) next

abbrev end_test : List ℕ → Bool
end_test bytes = eqb (type_of bytes) 1 && (eqb (address_of bytes) 0 && eqb (get_or bytes 0 0) 0)

is_data : (next : ℕ) (bytes : List ℕ) → Tells (data_test next bytes) (IsData next bytes)
is_data next bytes = both _ _ (one (type_of bytes) 0) (one (address_of bytes) next)

is-end : (bytes : List ℕ) → Tells (end_test bytes) (IsEnd bytes)
is-end bytes = go (both _ _ (one (type_of bytes) 1) (both _ _ (one (address_of bytes) 0) (one (get_or bytes 0 0) 0)))
  where
    go : Tells (end_test bytes) ((type_of bytes ≡ 1) × ((address_of bytes ≡ 0) × (get_or bytes 0 0 ≡ 0))) → Tells (end_test bytes) (IsEnd bytes)
    go (inl x) = inl (x.0, (x.1.0, x.1.1.0, x.1.1.1))
    go (inr x) = inr (x.0, λ h. x.1 (h.0, (h.1, h.2)))

-- ---- what a line says, by the statements

no_row-says : (next : ℕ) (line : List ℕ) → ((bytes : List ℕ) → IsRow line bytes → ⊥) → says_of next line ≡ bad (fault 12)
unfolding says_of
no_row-says next line h = go (formed line) refl
  where
    go : (b : Bool) → formed line ≡ b → says_of next line ≡ bad (fault 12)
    go true e = absurd (h (bytes_in line) (formed_row line e))
    go false e = rw e

module _ (next : ℕ) (line bytes : List ℕ) (r : IsRow line bytes) where
  row_says : says_of next line ≡ summed next bytes
  unfolding says_of
  row_says = rw (row_formed line bytes r, row_bytes line bytes r)

  sum-says : (RightSum bytes → ⊥) → says_of next line ≡ bad (fault 13)
  sum-says h = row_says ∙ rw (ne_eqb (total bytes % 256) 0 h)

  data_says : RightSum bytes → IsData next bytes → says_of next line ≡ holds (data_of bytes)
  data_says s d = row_says ∙ rw (s, d.0, eq-eqb (address_of bytes) next d.1)

  end-says : RightSum bytes → IsEnd bytes → says_of next line ≡ ends
  end-says s e = row_says ∙ rw (s, e.0, e.1, e.2)

  neither_says : RightSum bytes → (IsData next bytes → ⊥) → (IsEnd bytes → ⊥) → says_of next line ≡ bad (fault 14)
  neither_says s d e = row_says ∙ rw (s, refute _ (is_data next bytes) d, refute _ (is-end bytes) e)

-- ---- from the case to what reading finds

reach : {front code : List ℕ} {n : ℕ} → DataRows front n code → (rest : List ℕ)
    → read_of (front ++ rest) ≡ read_rows (suc n) code (lines_of rest)
unfolding read_of read_rows
reach DataRows.none rest = refl
reach (DataRows.more {text = text} {line = line} {code = code} {bytes = bytes} {n = n} d r s p) rest =
    ap read_of (append_assoc text line rest)
    ∙ reach d (line ++ rest)
    ∙ rw (row_lines line bytes rest r, data_says (length code) line bytes r s p)

alone : (line bytes : List ℕ) → IsRow line bytes → lines_of line ≡ line ∷ []
unfolding lines_of
alone line bytes r = ap lines_of (sym (append-nil line)) ∙ row_lines line bytes [] r

pub right : {text : List ℕ} {c : Contents} → Holds text c → read_of text ≡ c
unfolding read_rows lines_of
right (whole {line = line} {bytes = bytes} {code = code} d r s e) =
    reach d line ∙ rw (alone line bytes r, end-says (length code) line bytes r s e)
right (no_row {code = code} rest d h f) =
    reach d rest ∙ rw (lines_first rest h, no_row-says (length code) (line_of rest) f)
right (wrong_sum {front = front} {line = line} {bytes = bytes} {code = code} rest d r s) =
    ap read_of (append_assoc front line rest) ∙ reach d (line ++ rest) ∙ rw (row_lines line bytes rest r, sum-says (length code) line bytes r s)
right (misplaced {front = front} {line = line} {bytes = bytes} {code = code} rest d r s p e) =
    ap read_of (append_assoc front line rest) ∙ reach d (line ++ rest) ∙ rw (row_lines line bytes rest r, neither_says (length code) line bytes r s p e)
right (no_end {front = front} d) = ap read_of (sym (append-nil front)) ∙ reach d []
right (followed {front = front} {line = line} {bytes = bytes} {code = code} rest d r s e h) =
    ap read_of (append_assoc front line rest) ∙ reach d (line ++ rest) ∙ rw (row_lines line bytes rest r, end-says (length code) line bytes r s e, lines_first rest h)

-- what is accepted has one kernel, and a text that is refused has none
pub one_answer : {text : List ℕ} {a b : Contents} → Holds text a → Holds text b → a ≡ b
one_answer x y = sym (right x) ∙ right y

-- ---- from what reading finds to the case

-- what is decided of a line that is a row, before `rest`
module _ (front line rest bytes code : List ℕ) (n : ℕ) (lines : List (List ℕ)) (d : DataRows front n code) (r : IsRow line bytes)
    (e : lines_of rest ≡ lines)
    (on : DataRows (front ++ line) (suc n) (code ++ data_of bytes)
    → Holds ((front ++ line) ++ rest) (read_rows (suc (suc n)) (code ++ data_of bytes) lines)) where
  after-end : RightSum bytes → IsEnd bytes → Holds (front ++ line ++ rest) (nothing_after (suc (suc n)) code lines)
  unfolding lines_of
  after-end s f = go rest lines e
    where
      go : (t : List ℕ) (ls : List (List ℕ)) → lines_of t ≡ ls → Holds (front ++ line ++ t) (nothing_after (suc (suc n)) code ls)
      go [] [] g = rw (append-nil (front ++ line)) (whole d r s f)
      go [] (l ∷ ls) g = never (cc)
      go (c ∷ t) [] g = let z = sym (lines_first (c ∷ t) (omega arith)) ∙ g in never (cc)
      go (c ∷ t) (l ∷ ls) g = followed (c ∷ t) d r s f (omega arith)

  Decided : Says → Type 0
  Decided x =
      Holds (front ++ line ++ rest)
      (on_row x (λ b. read_rows (suc (suc n)) (code ++ b) lines) (nothing_after (suc (suc n)) code lines) (bad_row (suc n)))

  decided : Decided (summed (length code) bytes)
  unfolding Decided
  decided = go (one (total bytes % 256) 0) (is_data (length code) bytes) (is-end bytes)
    where
      go : Tells (eqb (total bytes % 256) 0) (RightSum bytes) → Tells (data_test (length code) bytes) (IsData (length code) bytes)
          → Tells (end_test bytes) (IsEnd bytes)
          → Decided (summed (length code) bytes)
      go (inl s) (inl p) f = rw (s.0, p.0) (on (DataRows.more d r s.1 p.1))
      go (inl s) (inr p) (inl f) = rw (s.0, p.0, f.0) (after-end s.1 f.1)
      go (inl s) (inr p) (inr f) = rw (s.0, p.0, f.0) (misplaced rest d r s.1 p.1 f.1)
      go (inr s) p f = rw s.0 (wrong_sum rest d r s.1)

-- a line of a text, and what follows it
module _ (front text line rest code : List ℕ) (n : ℕ) (lines : List (List ℕ)) (d : DataRows front n code) (some : 0 < length text)
    (first : line_of text ≡ line) (splits : line ++ rest ≡ text) (e : lines_of rest ≡ lines)
    (on : DataRows (front ++ line) (suc n) (code ++ data_of (bytes_in line))
    → Holds ((front ++ line) ++ rest) (read_rows (suc (suc n)) (code ++ data_of (bytes_in line)) lines)) where
  turn : Holds (front ++ text) (read_rows (suc n) code (line ∷ lines))
  unfolding read_rows says_of Decided
  turn = go (formed line) refl
    where
      go : (b : Bool) → formed line ≡ b
          → Holds (front ++ text)
          (on_row (says_of (length code) line) (λ b. read_rows (suc (suc n)) (code ++ b) lines) (nothing_after (suc (suc n)) code lines) (bad_row (suc n)))
      go true f =
          rw (f, ← splits, ← (append_assoc front line rest)) (decided front line rest (bytes_in line) code n lines d (formed_row line f) e on)
      go false f =
          rw f
          (no_row text d some
          (λ b r. let g = sym (row_formed (line_of text) b r) ∙ ap formed first ∙ f in let z : ◌≡◌ {A = ℕ} 0 1 = cc in omega arith))

walk : (lines : List (List ℕ)) (front text code : List ℕ) (n : ℕ) → lines_of text ≡ lines → DataRows front n code
    → Holds (front ++ text) (read_rows (suc n) code lines)
unfolding read_rows lines_of
walk [] front [] code n e d = rw (append-nil front) (no_end d)
walk [] front (c ∷ t) code n e d = let f = sym (lines_first (c ∷ t) (omega arith)) ∙ e in never (cc)
walk (line ∷ lines) front [] code n e d = never (cc)
walk (line ∷ lines) front (c ∷ t) code n e d =
    let s = c ∷ t in
    let f = sym (lines_first s (omega arith)) ∙ e in
    let first : line_of s ≡ line = cc in
    let rest = drop (length (line_of s)) s in
    let g : lines_of rest ≡ lines = cc in
    turn front s line rest code n lines d (omega arith) first (ap (λ (l : List ℕ). l ++ rest) (sym first) ∙ line_splits s) g
    (walk lines (front ++ line) rest (code ++ data_of (bytes_in line)) (suc n) g)

pub always : (text : List ℕ) → Holds text (read_of text)
unfolding read_of
always text = walk (lines_of text) [] text [] 0 refl DataRows.none
