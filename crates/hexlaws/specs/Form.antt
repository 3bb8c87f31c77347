-- The form of Intel HEX as statements, each by itself, without an order of tests: what a row is, which text holds a kernel, which row is bad and
-- why. Follows "Kernels arrive as Intel HEX" of the change requests. Of the definition of reading it takes the fields of a row's bytes and the
-- first line of a text, and no test.
use Rattle.std.specs.Prelude.{ℕ, suc, ◌+◌, ◌*◌, ◌%◌, ◌≤◌, ◌<◌, ◌≡◌, List, [], ◌∷◌, ◌++◌, ◌⊎◌, length, get_or, Result, Ok, Err}
use Rattle.hexpairs.specs.Pairs.{total}
use Rattle.hexrow.specs.Row.{fault, address_of, type_of, data_of, line_of}
use Rattle.hexrow.specs.declared.Fault.{Fault}
use Rattle.hexfile.specs.Read.{Contents, kernel, bad_row, limit}
use Rattle.hexfile.specs.declared.ReadError.{ReadError}

-- ---- a row

-- a character is the digit of a number, in either case
pub data Digit : ℕ → ℕ → Type 0 where
  decimal : (n : ℕ) → n < 10 → Digit (48 + n) n
  upper : (n : ℕ) → n < 6 → Digit (65 + n) (10 + n)
  lower : (n : ℕ) → n < 6 → Digit (97 + n) (10 + n)

-- pairs of digits spell bytes
pub data Spells : List ℕ → List ℕ → Type 0 where
  none : Spells [] []
  pair : {c d m n : ℕ} {s b : List ℕ} → Digit c m → Digit d n → Spells s b → Spells (c ∷ d ∷ s) ((16 * m + n) ∷ b)

pub data LineEnd : List ℕ → Type 0 where
  feed : LineEnd (10 ∷ [])
  returned : LineEnd (13 ∷ 10 ∷ [])

-- a line is a row of some bytes: a colon, their pairs of digits, the end of the line; the first byte counts all but five of them
pub record IsRow (line bytes : List ℕ) : Type 0 where
  pub digits : List ℕ
  pub end : List ℕ
  pub whole : line ≡ 58 ∷ digits ++ end
  pub spells : Spells digits bytes
  pub ended : LineEnd end
  pub count : length bytes ≡ get_or bytes 0 0 + 5

abbrev pub RightSum : List ℕ → Type 0
RightSum bytes = total bytes % 256 ≡ 0

-- data, in its place
abbrev pub IsData : ℕ → List ℕ → Type 0
IsData next bytes = (type_of bytes ≡ 0) × (address_of bytes ≡ next)

abbrev pub IsEnd : List ℕ → Type 0
IsEnd bytes = (type_of bytes ≡ 1) × (address_of bytes ≡ 0) × (get_or bytes 0 0 ≡ 0)

-- ---- rows one after the other

-- a text is n rows of data, each in its place, and they hold a kernel
pub data DataRows : List ℕ → ℕ → List ℕ → Type 0 where
  none : DataRows [] 0 []
  more : {text line code bytes : List ℕ} {n : ℕ} → DataRows text n code → IsRow line bytes → RightSum bytes → IsData (length code) bytes
      → DataRows (text ++ line) (suc n) (code ++ data_of bytes)

-- what a text holds; a bad row is the first, and 12 goes before 13, 13 before 14
pub data Holds : List ℕ → Contents → Type 0 where
  -- rows of data and the end row
  whole : {front line bytes code : List ℕ} {n : ℕ} → DataRows front n code → IsRow line bytes → RightSum bytes → IsEnd bytes
      → Holds (front ++ line) (kernel code)
  -- 12: the line after some rows is no row
  no_row : {front code : List ℕ} {n : ℕ} (rest : List ℕ) → DataRows front n code → 0 < length rest → ((bytes : List ℕ) → IsRow (line_of rest) bytes → ⊥)
      → Holds (front ++ rest) (bad_row (suc n) (fault 12))
  -- 13: it is a row, with a wrong sum
  wrong_sum : {front line bytes code : List ℕ} {n : ℕ} (rest : List ℕ) → DataRows front n code → IsRow line bytes → (RightSum bytes → ⊥)
      → Holds (front ++ line ++ rest) (bad_row (suc n) (fault 13))
  -- 14: it is neither data in its place nor an end row
  misplaced : {front line bytes code : List ℕ} {n : ℕ} (rest : List ℕ) → DataRows front n code → IsRow line bytes → RightSum bytes
      → (IsData (length code) bytes → ⊥) → (IsEnd bytes → ⊥) → Holds (front ++ line ++ rest) (bad_row (suc n) (fault 14))
  -- 14: there is no end row
  no_end : {front code : List ℕ} {n : ℕ} → DataRows front n code → Holds front (bad_row (suc n) (fault 14))
  -- 14: text stands after the end row, whatever it is
  followed : {front line bytes code : List ℕ} {n : ℕ} (rest : List ℕ) → DataRows front n code → IsRow line bytes → RightSum bytes → IsEnd bytes
      → 0 < length rest → Holds (front ++ line ++ rest) (bad_row (suc (suc n)) (fault 14))

-- ---- the call

-- what reading a text into a buffer with some room answers; 1 is given only where no row is bad
pub data Answers : List ℕ → ℕ → Result ℕ ReadError → Type 0 where
  took : {text code : List ℕ} {room : ℕ} → Holds text (kernel code) → length code ≤ limit → length code ≤ room
      → Answers text room (Ok (length code))
  no_size : {text code : List ℕ} {room : ℕ} → Holds text (kernel code) → (limit < length code) ⊎ (room < length code)
      → Answers text room (Err ReadError.BadSize)
  no_form : {text : List ℕ} {room row : ℕ} {f : Fault} → Holds text (bad_row row f) → Answers text room (Err (ReadError.BadRow row f))
