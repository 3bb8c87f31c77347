-- What is written is read again: the text of a kernel holds that kernel, and no two kernels have one text.
use Rattle.std.specs.Prelude.{Result, Ok}
use mathlib.Core.Path.{◌≡◌, refl, sym, ap, ◌∙◌}
use mathlib.Core.Bool.{Bool, true, false}
use mathlib.Core.List.{List, [], ◌∷◌, ◌++◌, append_assoc, append-nil}
use Prim.Native.Nat.{ℕ, zero, suc, ◌+◌, ◌*◌, ◌-◌, ◌/◌, ◌%◌, ◌≤◌, ◌<◌}
use native.Mathlib.Omega.{arith}
use lib.Dec.{leb, ltb}
use lib.IntN.{ℤ, pos, neg_ℤ}
use lib.ListN.{length, take, drop, length-append, length-take, length-drop, take-append-drop}
use lib.Seq.{take-append_seam}
use borrow.Author.Tests.{ltb-true, ltb-false, le-leb, leb-true}
use Rattle.bits.proofs.Laws.{Bytes, bytes_take, bytes_drop}
use Rattle.isa.specs.Text.{ascii}
use Rattle.digits.specs.Digits.{digit, hex_bytes}
use Rattle.hexpairs.specs.Pairs.{total}
use Rattle.hexrow.specs.Row.{data_of}
use Rattle.hexwrite.specs.Write.{sum_for, head_of, with_sum, row_for, end_row, rows_from, hex_of}
use Rattle.hexfile.specs.Read.{kernel, limit, read_of, reading_of, kernel_left}
use Rattle.hexcalls.specs.Calls.{reading_back, row_left, ReadsHex, WritesHex}
use Rattle.hexfile.specs.declared.ReadError.{ReadError}
use Rattle.hexlaws.specs.Form.{Digit, decimal, upper, Spells, none, pair, feed, IsRow, RightSum, DataRows, Holds, whole}
use Rattle.hexlaws.proofs.Exactly.{right}

-- ---- a row

at-digit : (m n c : ℕ) → c ≡ 48 + m → n ≡ m → m < 10 → Digit c n
at-digit m n c e f h = rw (e, f) (decimal m h)

at_letter : (m n c : ℕ) → c ≡ 65 + m → n ≡ 10 + m → m < 6 → Digit c n
at_letter m n c e f h = rw (e, f) (upper m h)

written_digit : (m : ℕ) → m < 16 → Digit (digit m) m
written_digit m h = go (ltb m 10) refl
  where
    go : (b : Bool) → ltb m 10 ≡ b → Digit (digit m) m
    go true e = rw e (at-digit m m (m + 48) (omega arith) refl (ltb-true m 10 e))
    go false e = let g = ltb-false m 10 e in rw e (at_letter (m - 10) m (m + 55) (omega arith) (omega arith) (omega arith))

as_byte : (b c : ℕ) {s t : List ℕ} → c ≡ b → Spells s (c ∷ t) → Spells s (b ∷ t)
as_byte b c {s} {t} e x = rw e at x

written_bytes : (s : List ℕ) → Bytes s → Spells (hex_bytes s) s
written_bytes [] h = none
written_bytes (b ∷ s) h =
    let k : b < 256 = h 0 in
    as_byte b (16 * (b / 16) + b % 16) (omega arith)
    (pair (written_digit (b / 16) (omega arith)) (written_digit (b % 16) (omega arith)) (written_bytes s (λ j. h (suc j))))

total-append : (s t : List ℕ) → total (s ++ t) ≡ total s + total t
total-append [] t = omega arith
total-append (b ∷ s) t = omega (arith, total-append s t)

pub right_sum : (s : List ℕ) → RightSum (with_sum s)
right_sum s = omega (arith, total-append s (sum_for s ∷ []))

bytes_after : (s t : List ℕ) → Bytes s → Bytes t → Bytes (s ++ t)
bytes_after [] t h g k = g k
bytes_after (b ∷ s) t h g zero = h 0
bytes_after (b ∷ s) t h g (suc k) = bytes_after s t (λ j. h (suc j)) g k

-- ---- a row as it is written

module _ (type at : ℕ) (bytes : List ℕ) (h : Bytes bytes) (few : length bytes < 256) (low : at < 65536) (small : type < 256) where
  all-bytes : Bytes (with_sum (head_of type at bytes))
  all-bytes zero = few
  all-bytes (suc zero) = omega arith
  all-bytes (suc (suc zero)) = omega arith
  all-bytes (suc (suc (suc zero))) = small
  all-bytes (suc (suc (suc (suc k)))) = bytes_after bytes (sum_for (head_of type at bytes) ∷ []) h last k
    where
      last : Bytes (sum_for (head_of type at bytes) ∷ [])
      last zero = omega arith
      last (suc j) = omega arith

  pub written_row : IsRow (row_for type at bytes) (with_sum (head_of type at bytes))
  unfolding row_for
  written_row =
      record {
        digits = hex_bytes (with_sum (head_of type at bytes));
        end = 10 ∷ [];
        whole = refl;
        spells = written_bytes (with_sum (head_of type at bytes)) all-bytes;
        ended = feed;
        count = omega (arith, length-append bytes (sum_for (head_of type at bytes) ∷ []));
      }

written_data : (at : ℕ) (bytes : List ℕ) → data_of (with_sum (head_of 0 at bytes)) ≡ bytes
written_data at bytes = take-append_seam bytes (sum_for (head_of 0 at bytes) ∷ [])

written_end : IsRow end_row (with_sum (head_of 1 0 []))
unfolding row_for
written_end = written_row 1 0 [] (λ k. omega arith) (omega arith) (omega arith) (omega arith)

-- ---- rows one after the other

module _ (front code : List ℕ) (n : ℕ) (d : DataRows front n code) where
  one_more : (at : ℕ) (bytes : List ℕ) → Bytes bytes → length bytes < 256 → at < 65536 → at ≡ length code
      → DataRows (front ++ row_for 0 at bytes) (suc n) (code ++ bytes)
  one_more at bytes h few low e =
      let p : DataRows (front ++ row_for 0 at bytes) (suc n) (code ++ data_of (with_sum (head_of 0 at bytes))) =
      DataRows.more d (written_row 0 at bytes h few low (omega arith)) (right_sum (head_of 0 at bytes)) (refl, omega arith) in
      rw (written_data at bytes) at p

  the_end : Holds (front ++ end_row) (kernel (code ++ []))
  the_end = rw (append-nil code) (whole d written_end (right_sum (head_of 1 0 [])) (refl, refl, refl))

-- the rows of what is left, after rows that hold the bytes before it
written : (k at : ℕ) (s front code : List ℕ) (n : ℕ) → length s ≤ k → Bytes s → (0 < length s → at ≡ length code)
    → length code + length s ≤ 65536 → DataRows front n code → Holds (front ++ rows_from k at s) (kernel (code ++ s))
unfolding rows_from
written zero at [] front code n l h e m d = the_end front code n d
written zero at (b ∷ s) front code n l h e m d = absurd (omega arith)
written (suc k) at [] front code n l h e m d = the_end front code n d
written (suc k) at (b ∷ s) front code n l h e m d =
    let t = b ∷ s in
    let c = take 16 t in
    let u = length-take 16 t in
    let v = length-drop 16 t in
    let p = e (omega arith) in
    let r = row_for 0 at c in
    let w =
    written k (at + 16) (drop 16 t) (front ++ r) (code ++ c) (suc n) (omega arith) (bytes_drop 16 t h)
    (λ q. omega (arith, length-append code c)) (omega (arith, length-append code c))
    (one_more front code n d at c (bytes_take 16 t h) (omega arith) (omega arith) p) in
    let f : (code ++ c) ++ drop 16 t ≡ code ++ t = append_assoc code c (drop 16 t) ∙ ap (λ (x : List ℕ). code ++ x) (take-append-drop 16 t) in
    rw (append_assoc front r (rows_from k (at + 16) (drop 16 t)), f) at w

-- ---- the theorems

module _ (code : List ℕ) (h : Bytes code) (short : length code ≤ limit) where
  -- the text of a kernel holds that kernel
  pub again : read_of (hex_of code) ≡ kernel code
  unfolding hex_of
  again = right (written (length code) 0 code [] [] 0 (omega arith) h (λ e. refl) (omega arith) DataRows.none)

  -- so reading it gives the kernel back, in every buffer with room
  pub read_again : (old : List ℕ) → length code ≤ length old
      → (reading_of (hex_of code) (length old) ≡ Ok (length code)) × (kernel_left (hex_of code) old ≡ code ++ drop (length code) old)
  read_again old room =
      let t = le-leb (length code) limit short in
      let u = le-leb (length code) (length old) room in
      (rw (again, t, u), rw (again, t, u))

-- two different kernels are never written alike
pub apart : (a b : List ℕ) → Bytes a → Bytes b → length a ≤ limit → length b ≤ limit → hex_of a ≡ hex_of b → a ≡ b
apart a b h g l m e = let f = sym (again a h l) ∙ ap read_of e ∙ again b g m in cc

-- the same of the exported functions: what was written into a text, read into a buffer with room
pub exported_again : (code text text' old row code' row' : List ℕ) (n : ℕ) (r : ℤ) → Bytes code → WritesHex code text (pos n) text'
    → length code ≤ length old → ReadsHex (take n text') old row r code' row'
    → (r ≡ pos (length code)) × (code' ≡ code ++ drop (length code) old) × (row' ≡ row)
exported_again code text text' old row code' row' n r h w room x =
    go (leb (length code) limit) (leb (length (hex_of code)) (length text)) refl refl
  where
    went : length code ≤ limit → take n text' ≡ hex_of code → (r ≡ pos (length code)) × (code' ≡ code ++ drop (length code) old) × (row' ≡ row)
    went l e =
        let a = read_again code h l old room in
        let f : reading_of (take n text') (length old) ≡ Ok (length code) =
        ap (λ (t : List ℕ). reading_of t (length old)) e ∙ a.0 in (
          x.returns ∙ ap reading_back f,
          x.leaves ∙ ap (λ (t : List ℕ). kernel_left t old) e ∙ a.1,
          x.tells ∙ ap (λ (y : Result ℕ ReadError). row_left y row) f,
        )

    go : (a b : Bool) → leb (length code) limit ≡ a → leb (length (hex_of code)) (length text) ≡ b
        → (r ≡ pos (length code)) × (code' ≡ code ++ drop (length code) old) × (row' ≡ row)
    go true true e f =
        let u : pos n ≡ pos (length (hex_of code)) = w.returns ∙ rw (e, f) in
        let v : text' ≡ hex_of code ++ drop (length (hex_of code)) text = w.leaves ∙ rw (e, f) in
        let m : n ≡ length (hex_of code) = cc in
        went (leb-true (length code) limit e)
        (rw (m, v) (take-append_seam (hex_of code) (drop (length (hex_of code)) text)))
    go true false e f =
        let u : pos n ≡ neg_ℤ (pos 1) = w.returns ∙ rw (e, f) in
        let z : ◌≡◌ {A = ℕ} 0 1 = cc in
        absurd (omega arith)
    go false b e f =
        let u : pos n ≡ neg_ℤ (pos 1) = w.returns ∙ rw e in
        let z : ◌≡◌ {A = ℕ} 0 1 = cc in
        absurd (omega arith)

-- the kernel of the listing's example
pub example : hex_of (0x62 ∷ 0x04 ∷ 0x34 ∷ 0x12 ∷ 0x62 ∷ 0x05 ∷ 0x78 ∷ 0x56 ∷ 0x34 ∷ 0x12 ∷ []) ≡ ascii ":0A00000062043412620578563412CF\n:00000001FF\n"
unfolding rows_from hex_of row_for
example = refl
