-- What the two walks over the rows of a text answer, in the shape of the code.
use Rattle.std.specs.Prelude.{ℕ, List, [], length, Result, Ok, Err}
use Rattle.hexfile.specs.Read.{Contents, kernel, bad_row}
use Rattle.hexfile.specs.declared.ReadError.{ReadError}

abbrev pub seen_by : Contents → Result ℕ ReadError
seen_by (kernel code) = Ok (length code)
seen_by (bad_row row f) = Err (ReadError.BadRow row f)

-- the kernel; nothing where there is none
abbrev pub kernel_in : Contents → List ℕ
kernel_in (kernel code) = code
kernel_in (bad_row row f) = []
