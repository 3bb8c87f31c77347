-- Reading Intel HEX: what a text holds, and what the call answers and leaves. Follows "Kernels arrive as Intel HEX" of the change requests.
-- The text is taken line by line; a line is a row.
use Rattle.std.specs.Prelude.{ℕ, suc, Bool, cond, ◌&&◌, List, [], ◌∷◌, ◌++◌, eqb, leb, length, drop, Result, Ok, Err}
use Rattle.hexrow.specs.Row.{fault, Says, holds, ends, bad, says_of}
use Rattle.hexrow.specs.declared.Fault.{Fault}
use Rattle.hexfile.specs.declared.ReadError.{ReadError}

-- ---- lines

abbrev pub onto : ℕ → List (List ℕ) → List (List ℕ)
onto c [] = (c ∷ []) ∷ []
onto c (line ∷ lines) = (c ∷ line) ∷ lines

-- the lines of a text, each with its line feed; the last may have none
unfoldable pub lines_of : List ℕ → List (List ℕ)
lines_of [] = []
lines_of (c ∷ s) = cond (eqb c 10) ((c ∷ []) ∷ lines_of s) (onto c (lines_of s))

-- ---- what a text holds

pub data Contents : Type 0 where
  kernel : List ℕ → Contents
  -- the first bad row, counted from 1, and why it is refused
  bad_row : ℕ → Fault → Contents

abbrev pub on_row : Says → (List ℕ → Contents) → Contents → (Fault → Contents) → Contents
on_row (holds bytes) more done refuse = more bytes
on_row ends more done refuse = done
on_row (bad f) more done refuse = refuse f

-- the kernel, where no line is left after the end row; a line that is left is a bad row
abbrev pub nothing_after : ℕ → List ℕ → List (List ℕ) → Contents
nothing_after row code [] = kernel code
nothing_after row code (line ∷ lines) = bad_row row (fault 14)

-- the rows from one on, by its number, where those before it hold the bytes of code
unfoldable pub read_rows : ℕ → List ℕ → List (List ℕ) → Contents
read_rows row code [] = bad_row row (fault 14)
read_rows row code (line ∷ lines) =
    on_row (says_of (length code) line)
    (λ bytes. read_rows (suc row) (code ++ bytes) lines)
    (nothing_after (suc row) code lines)
    (bad_row row)

unfoldable pub read_of : List ℕ → Contents
read_of text = read_rows 1 [] (lines_of text)

-- ---- the call

-- the most bytes of a kernel in this form
abbrev pub limit : ℕ
limit = 8192

-- whether a kernel is taken into a buffer with some room
abbrev pub taken : List ℕ → ℕ → Bool
taken code room = leb (length code) limit && leb (length code) room

abbrev pub reading_by : Contents → ℕ → Result ℕ ReadError
reading_by (kernel code) room = cond (taken code room) (Ok (length code)) (Err ReadError.BadSize)
reading_by (bad_row row f) room = Err (ReadError.BadRow row f)

abbrev pub left_by : Contents → List ℕ → List ℕ
left_by (kernel code) old = cond (taken code (length old)) (code ++ drop (length code) old) old
left_by (bad_row row f) old = old

-- what reading answers, and what it leaves in the buffer: the kernel at its start, or what stood there
abbrev pub reading_of : List ℕ → ℕ → Result ℕ ReadError
reading_of text room = reading_by (read_of text) room

abbrev pub kernel_left : List ℕ → List ℕ → List ℕ
kernel_left text old = left_by (read_of text) old
