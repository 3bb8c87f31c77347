-- What the call answers, in exactly its cases: `answered` from the case to the answer, `answers` from the answer to the case.
use Rattle.std.specs.Prelude.{Result, Ok, Err}
use mathlib.Core.Path.{◌≡◌, refl, ap, ◌∙◌}
use mathlib.Core.Bool.{Bool, true, false, cond, ◌&&◌}
use mathlib.Core.List.{List}
use mathlib.Core.Logic.{◌⊎◌, inl, inr}
use Prim.Native.Nat.{ℕ, ◌<◌}
use lib.Dec.{leb}
use lib.ListN.{length}
use borrow.Author.Tests.{le-leb, lt-leb, leb-true, leb-false}
use Rattle.hexfile.specs.Read.{Contents, kernel, bad_row, limit, read_of, reading_by, reading_of, left_by, kernel_left}
use Rattle.hexfile.specs.declared.ReadError.{ReadError}
use Rattle.hexlaws.specs.Form.{Holds, Answers, took, no_size, no_form}
use Rattle.hexlaws.proofs.Exactly.{right, always}

too_large : (code : List ℕ) (room : ℕ) → (limit < length code) ⊎ (room < length code) → reading_by (kernel code) room ≡ Err ReadError.BadSize
too_large code room (inl h) = rw (lt-leb (length code) limit h)
too_large code room (inr h) = go (leb (length code) limit) refl
  where
    go : (b : Bool) → leb (length code) limit ≡ b → reading_by (kernel code) room ≡ Err ReadError.BadSize
    go true e = rw (e, lt-leb (length code) room h)
    go false e = rw e

pub answered : {text : List ℕ} {room : ℕ} {r : Result ℕ ReadError} → Answers text room r → reading_of text room ≡ r
answered (took {code = code} {room = room} h l m) = rw (right h, le-leb (length code) limit l, le-leb (length code) room m)
answered (no_size {code = code} {room = room} h l) = ap (λ (c : Contents). reading_by c room) (right h) ∙ too_large code room l
answered (no_form {room = room} h) = ap (λ (c : Contents). reading_by c room) (right h)

by-contents : (text : List ℕ) (room : ℕ) (c : Contents) → Holds text c → Answers text room (reading_by c room)
by-contents text room (kernel code) h = go (leb (length code) limit) (leb (length code) room) refl refl
  where
    go : (a b : Bool) → leb (length code) limit ≡ a → leb (length code) room ≡ b
        → Answers text room (cond (a && b) (Ok (length code)) (Err ReadError.BadSize))
    go true true e f = took h (leb-true (length code) limit e) (leb-true (length code) room f)
    go true false e f = no_size h (inr (leb-false (length code) room f))
    go false b e f = no_size h (inl (leb-false (length code) limit e))
by-contents text room (bad_row row f) h = no_form h

pub answers : (text : List ℕ) (room : ℕ) → Answers text room (reading_of text room)
answers text room = by-contents text room (read_of text) (always text)

-- ---- a refusal leaves the buffer as it was

abbrev Untouched : Contents → List ℕ → Type 0
Untouched c old = ((n : ℕ) → reading_by c (length old) ≡ Ok n → ⊥) → left_by c old ≡ old

untouched_by : (c : Contents) (old : List ℕ) → Untouched c old
untouched_by (kernel code) old h = go (leb (length code) limit && leb (length code) (length old)) refl
  where
    go : (b : Bool) → (leb (length code) limit && leb (length code) (length old)) ≡ b → left_by (kernel code) old ≡ old
    go true e = absurd (h (length code) (rw e))
    go false e = rw e
untouched_by (bad_row row f) old h = refl

pub untouched : (text old : List ℕ) → ((n : ℕ) → reading_of text (length old) ≡ Ok n → ⊥) → kernel_left text old ≡ old
untouched text old = untouched_by (read_of text) old
