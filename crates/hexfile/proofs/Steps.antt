-- A walk over the rows of a text: what the text holds, from the place that was reached on.
use Rattle.std.specs.Prelude.{Result, Ok, Err}
use mathlib.Core.Path.{◌≡◌, refl, sym, ap, ◌∙◌}
use mathlib.Core.Bool.{Bool, true, false}
use mathlib.Core.List.{List, [], ◌∷◌, ◌++◌}
use Prim.Native.Nat.{ℕ, suc, ◌+◌, ◌*◌, ◌≤◌, ◌<◌}
use native.Mathlib.Numerals.{add-one}
use native.Mathlib.Omega.{arith}
use lib.ListN.{length, drop, length-drop, length-append, drop_of_length-le}
use lib.Seq.{drop-drop}
use lib.Dec.{eqb}
use borrow.Author.Tests.{eqb-true, eqb-false}
use Rattle.hexpairs.specs.Pairs.{spelled}
use Rattle.hexrow.specs.Row.{fault, Says, holds, ends, bad, says_of, line_of}
use Rattle.hexrow.specs.declared.Fault.{Fault}
use Rattle.hexrow.specs.Reads.{row_at}
use Rattle.hexrow.specs.declared.Row.{Row}
use Rattle.hexrow.proofs.Rows.{length-spelled}
use Rattle.hexrow.proofs.Told.{never, IsData, data_row, end_row_lem, bad_row_lem}
use Rattle.hexfile.specs.Read.{lines_of, kernel, bad_row, on_row, nothing_after, read_rows, read_of}
use Rattle.hexfile.proofs.Lines.{lines_first, line_within}

-- the rows before `at` are right, and hold the bytes of code
pub record Reached (text : List ℕ) (at row : ℕ) (code : List ℕ) : Type 0 where
  pub rest : read_rows row code (lines_of (drop at text)) ≡ read_of text

pub start : (text : List ℕ) → Reached text 0 1 []
unfolding read_of
start text = record { rest = refl }

module _ (text : List ℕ) (at row : ℕ) (code : List ℕ) (h : at < length text) (r : Reached text at row code) where
  -- what follows the line at the place that was reached
  next : drop (length (line_of (drop at text))) (drop at text) ≡ drop (at + length (line_of (drop at text))) text
  next = drop-drop (length (line_of (drop at text))) at text

  turn : read_of text
      ≡ on_row (says_of (length code) (line_of (drop at text)))
      (λ bytes. read_rows (row + 1) (code ++ bytes) (lines_of (drop (at + length (line_of (drop at text))) text)))
      (nothing_after (row + 1) code (lines_of (drop (at + length (line_of (drop at text))) text)))
      (bad_row row)
  unfolding read_rows
  turn =
      let e = lines_first (drop at text) (omega (arith, length-drop at text)) in
      sym r.rest ∙ rw (e, next, add-one row)

  pub within : at + length (line_of (drop at text)) ≤ length text
  within = omega (arith, line_within (drop at text), length-drop at text)

  pub more : (n k : ℕ) → IsData (length code) n k (drop at text) → Reached text (at + k) (row + 1) (code ++ spelled n (drop 9 (drop at text)))
  more n k d = record { rest = rw d.size (sym (turn ∙ rw d.says)) }

  pub refused : (f : Fault) → says_of (length code) (line_of (drop at text)) ≡ bad f → read_of text ≡ bad_row row f
  refused f e = turn ∙ rw e

  module _ (k : ℕ) (e : says_of (length code) (line_of (drop at text)) ≡ ends) (f : k ≡ length (line_of (drop at text))) where
    done : read_of text ≡ nothing_after (row + 1) code (lines_of (drop (at + k) text))
    done = turn ∙ rw (e, f)

    pub ended : at + k ≡ length text → read_of text ≡ kernel code
    unfolding lines_of
    ended z = done ∙ rw (drop_of_length-le text {i = at + k} (omega arith))

    pub followed : (at + k ≡ length text → ⊥) → read_of text ≡ bad_row (row + 1) (fault 14)
    followed z =
        let w = within in
        done ∙ rw (lines_first (drop (at + k) text) (omega (arith, length-drop (at + k) text)))

pub ran_out : (text : List ℕ) (at row : ℕ) (code : List ℕ) → length text ≤ at → Reached text at row code → read_of text ≡ bad_row row (fault 14)
unfolding read_rows lines_of
ran_out text at row code h r = sym r.rest ∙ rw (drop_of_length-le text {i = at} h)

-- ---- with the number of bytes in the place of the bytes

-- the rows before `at` are right, and hold n bytes
pub record Known (text : List ℕ) (at row n : ℕ) : Type 0 where
  pub code : List ℕ
  pub size : length code ≡ n
  pub reached : Reached text at row code

abbrev pub known_first : (text : List ℕ) → Known text 0 1 0
known_first text = record { code = []; size = refl; reached = start text }

module _ (text : List ℕ) (at row n : ℕ) (h : at < length text) (w : Known text at row n) where
  -- what was answered of the row, by the bytes before it
  of_code : (x : Result Row Fault) → row_at n (drop at text) ≡ x → row_at (length w.code) (drop at text) ≡ x
  of_code x e = rw w.size e

  pub row_data : (m k : ℕ) → row_at n (drop at text) ≡ Ok (Row.Data m k) → IsData (length w.code) m k (drop at text)
  row_data m k e = data_row (length w.code) m k (drop at text) (of_code (Ok (Row.Data m k)) e)

  pub room_for : (m k : ℕ) → row_at n (drop at text) ≡ Ok (Row.Data m k) → (2 * m + 12 ≤ k) × (at + k ≤ length text)
  room_for m k e =
      let d = row_data m k e in
      (d.room, omega (arith, within text at row w.code h w.reached, d.size))

  abbrev pub known_more : (m k : ℕ) → row_at n (drop at text) ≡ Ok (Row.Data m k) → Known text (at + k) (row + 1) (n + m)
  known_more m k e =
      let b = spelled m (drop 9 (drop at text)) in
      record {
        code = w.code ++ b;
        size = length-append w.code b ∙ omega (arith, w.size, length-spelled m (drop 9 (drop at text)));
        reached = more text at row w.code h w.reached m k (row_data m k e);
      }

  module _ (k : ℕ) (e : row_at n (drop at text) ≡ Ok (Row.End k)) where
    last : (says_of (length w.code) (line_of (drop at text)) ≡ ends) × (k ≡ length (line_of (drop at text)))
    last = end_row_lem (length w.code) k (drop at text) (of_code (Ok (Row.End k)) e)

    pub end-within : at + k ≤ length text
    end-within = omega (arith, within text at row w.code h w.reached, last.1)

    pub whole : at + k ≡ length text → read_of text ≡ kernel w.code
    whole = ended text at row w.code h w.reached k last.0 last.1

    pub not-whole : (at + k ≡ length text → ⊥) → read_of text ≡ bad_row (row + 1) (fault 14)
    not-whole = followed text at row w.code h w.reached k last.0 last.1

  pub bad-at : (f : Fault) → row_at n (drop at text) ≡ Err f → read_of text ≡ bad_row row f
  bad-at f e =
      refused text at row w.code h w.reached f (bad_row_lem (length w.code) (drop at text) f (of_code (Err f) e))

-- ---- a text that holds a kernel

-- the bytes so far are no more than those of the kernel
grows : (lines : List (List ℕ)) (row : ℕ) (code all : List ℕ) → read_rows row code lines ≡ kernel all → length code ≤ length all
unfolding read_rows
grows [] row code all e = never (cc)
grows (line ∷ lines) row code all e = go (says_of (length code) line) lines e (λ b. grows lines (suc row) (code ++ b) all)
  where
    go : (x : Says) (ls : List (List ℕ))
        → on_row x (λ b. read_rows (suc row) (code ++ b) lines) (nothing_after (suc row) code ls) (bad_row row) ≡ kernel all
        → ((b : List ℕ) → read_rows (suc row) (code ++ b) lines ≡ kernel all → length (code ++ b) ≤ length all)
        → length code ≤ length all
    go (holds b) ls f ih = omega (arith, ih b f, length-append code b)
    go ends [] f ih = let g : code ≡ all = cc in omega (arith, ap length g)
    go ends (l ∷ ls) f ih = never (cc)
    go (bad g) ls f ih = never (cc)

module _ (text all : List ℕ) (holds-it : read_of text ≡ kernel all) where
  pub fits_in : (at row n : ℕ) → Known text at row n → n ≤ length all
  fits_in at row n w =
      omega (arith, grows (lines_of (drop at text)) row w.code all (w.reached.rest ∙ holds-it), w.size)

  pub no_bad_row : (row : ℕ) (f : Fault) → read_of text ≡ bad_row row f → ⊥
  no_bad_row row f e = never (cc)

  pub all_there : (at row n k : ℕ) → at < length text → (w : Known text at row n) → row_at n (drop at text) ≡ Ok (Row.End k) → w.code ≡ all
  all_there at row n k h w e = go (eqb (at + k) (length text)) refl
    where
      go : (b : Bool) → eqb (at + k) (length text) ≡ b → w.code ≡ all
      go true f = let g = whole text at row n h w k e (eqb-true (at + k) (length text) f) in cc
      go false f = absurd (no_bad_row (row + 1) (fault 14) (not-whole text at row n h w k e (eqb-false (at + k) (length text) f)))
