-- What reading answers and leaves, by what was seen of the text; how large an answer can be.
use Rattle.std.specs.Prelude.{Result, Ok, Err, Some, None}
use mathlib.Core.Path.{◌≡◌, refl, sym, ap}
use mathlib.Core.Bool.{Bool, true, false, cond, ◌&&◌}
use mathlib.Core.List.{List}
use Prim.Native.Nat.{ℕ, ◌≤◌, ◌<◌}
use native.Mathlib.Omega.{arith}
use lib.Dec.{leb}
use lib.ListN.{length}
use lib.Seq.{sets}
use borrow.Author.Tests.{le-leb, lt-leb, leb-true}
use Rattle.bits.proofs.Pieces.{put_first}
use Rattle.hexrow.proofs.Told.{never}
use Rattle.hexfile.specs.Read.{Contents, kernel, bad_row, limit, reading_by, left_by}
use Rattle.hexfile.specs.Rows.{seen_by, kernel_in}
use Rattle.hexwrite.specs.Write.{hex_of}
use Rattle.hexfile.specs.Write.{writing_of}
use Rattle.hexfile.specs.declared.ReadError.{ReadError}
use Rattle.hexwrite.proofs.Written.{length_hex}

-- an answer that is given, with what then stands in the buffer
abbrev pub Given : Contents → List ℕ → Result ℕ ReadError → List ℕ → Type 0
Given x old r new = (r ≡ reading_by x (length old)) × (new ≡ left_by x old)

module _ (old : List ℕ) where
  pub too_long : (x : Contents) (r : Result ℕ ReadError) (n : ℕ) → r ≡ seen_by x → r ≡ Ok n → limit < n → Given x old (Err ReadError.BadSize) old
  too_long (kernel code) r n e g h =
      let l : length code ≡ n = cc in
      let t = lt-leb (length code) limit (omega arith) in
      (rw t, rw t)
  too_long (bad_row k f) r n e g h = never (cc)

  pub no_room : (x : Contents) (r : Result ℕ ReadError) (n : ℕ) → r ≡ seen_by x → r ≡ Ok n → n ≤ limit → length old < n
      → Given x old (Err ReadError.BadSize) old
  no_room (kernel code) r n e g h k =
      let l : length code ≡ n = cc in
      let t = le-leb (length code) limit (omega arith) in
      let u = lt-leb (length code) (length old) (omega arith) in
      (rw (t, u), rw (t, u))
  no_room (bad_row k f) r n e g h l = never (cc)

  pub is-kernel : (x : Contents) (r : Result ℕ ReadError) (n : ℕ) → r ≡ seen_by x → r ≡ Ok n
      → (x ≡ kernel (kernel_in x)) × (length (kernel_in x) ≡ n)
  is-kernel (kernel code) r n e g = (refl, (cc))
  is-kernel (bad_row k f) r n e g = never (cc)

  pub taken_in : (x : Contents) (r : Result ℕ ReadError) (n : ℕ) → r ≡ seen_by x → r ≡ Ok n → n ≤ limit → n ≤ length old
      → Given x old (Ok n) (sets old 0 (kernel_in x))
  taken_in (kernel code) r n e g h k =
      let l : length code ≡ n = cc in
      let t = le-leb (length code) limit (omega arith) in
      let u = le-leb (length code) (length old) (omega arith) in
      (rw (t, u) (ap Ok (sym l)), rw (t, u) (put_first old code (length code) refl (omega arith)))
  taken_in (bad_row k f) r n e g h l = never (cc)

-- no more bytes are answered than a kernel may have, and than there is room for
pub most-read : (x : Contents) (room n : ℕ) → reading_by x room ≡ Ok n → (n ≤ limit) × (n ≤ room)
most-read (kernel code) room n e = go (leb (length code) limit) (leb (length code) room) refl refl e
  where
    go : (a b : Bool) → leb (length code) limit ≡ a → leb (length code) room ≡ b
        → cond (a && b) (Ok (length code)) (Err ReadError.BadSize) ≡ Ok n → (n ≤ limit) × (n ≤ room)
    go true true f g h =
        let l : length code ≡ n = cc in
        (omega (arith, leb-true (length code) limit f), omega (arith, leb-true (length code) room g))
    go true false f g h = never (cc)
    go false b f g h = never (cc)
most-read (bad_row k f) room n e = never (cc)

-- nor more characters than the text of such a kernel has
pub most-written : (code : List ℕ) (room n : ℕ) → writing_of code room ≡ Some n → n ≤ 22540
most-written code room n e = go (leb (length code) limit) (leb (length (hex_of code)) room) refl e
  where
    go : (a b : Bool) → leb (length code) limit ≡ a → cond (a && b) (Some (length (hex_of code))) None ≡ Some n
        → n ≤ 22540
    go true true f g =
        let l : length (hex_of code) ≡ n = cc in
        let h = leb-true (length code) limit f in
        omega (arith, length_hex code)
    go true false f g = never (cc)
    go false b f g = never (cc)
