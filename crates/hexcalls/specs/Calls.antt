-- Intel HEX for callers in other languages, reedtassel_hex_read and reedtassel_hex_write of docs/c-interface.md: what they return and leave.
use Rattle.std.specs.Prelude.{ℕ, ◌≡◌, cond, List, ◌++◌, leb, ℤ, pos, neg_ℤ, length, drop, Result, Ok, Err, Option, Some, None}
use Rattle.bits.specs.Word.{bytes_of}
use Rattle.hexrow.specs.Row.{fault_number}
use Rattle.hexfile.specs.Read.{reading_of, kernel_left}
use Rattle.hexfile.specs.Write.{writing_of, text_left}
use Rattle.hexfile.specs.declared.ReadError.{ReadError}

-- the number of bytes of the kernel, or minus the number of the refusal
abbrev pub reading_back : Result ℕ ReadError → ℤ
reading_back (Ok n) = pos n
reading_back (Err (ReadError.BadRow row f)) = neg_ℤ (pos (fault_number f))
reading_back (Err ReadError.BadSize) = neg_ℤ (pos 1)

abbrev pub writing_back : Option ℕ → ℤ
writing_back (Some n) = pos n
writing_back None = neg_ℤ (pos 1)

-- the number of a row in the first eight bytes of a buffer that has them
abbrev pub row_told : ℕ → List ℕ → List ℕ
row_told row old = cond (leb 8 (length old)) (bytes_of 8 row ++ drop 8 old) old

-- the number of a bad row is told
abbrev pub row_left : Result ℕ ReadError → List ℕ → List ℕ
row_left (Ok n) old = old
row_left (Err (ReadError.BadRow row f)) old = row_told row old
row_left (Err ReadError.BadSize) old = old

pub record ReadsHex (text code row : List ℕ) (returned : ℤ) (code' row' : List ℕ) : Type 0 where
  pub returns : returned ≡ reading_back (reading_of text (length code))
  pub leaves : code' ≡ kernel_left text code
  pub tells : row' ≡ row_left (reading_of text (length code)) row

pub record WritesHex (code text : List ℕ) (returned : ℤ) (text' : List ℕ) : Type 0 where
  pub returns : returned ≡ writing_back (writing_of code (length text))
  pub leaves : text' ≡ text_left code text
