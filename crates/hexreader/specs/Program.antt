-- What the program answers to a file and writes for it, where it is known what the file has: the kernel of the whole text; or nothing, where it
-- refuses the text. A text that is too long, or of which a read failed, is refused as one of bad size.
use Rattle.std.specs.Prelude.{ℕ, ◌≡◌, ◌≤◌, List, length, Option, IfSome, Result, Ok, Err}
use Rattle.std.specs.Io.KnownBytes.{Appends, Keeps}
use Rattle.hexfile.specs.Read.{kernel, bad_row, read_of, limit}
use Rattle.hexfile.specs.declared.ReadError.{ReadError}

-- what the file has, what has been written before and after, and the answer
abbrev pub Reads : Option (List ℕ) → Option (List ℕ) → Option (List ℕ) → Result ℕ ReadError → Type 0
Reads has old new (Ok k) =
    IfSome has (λ xs. (code : List ℕ) × (read_of xs ≡ kernel code) × (length code ≡ k) × (k ≤ limit) × Appends old new code)
Reads has old new (Err (ReadError.BadRow row f)) = IfSome has (λ xs. read_of xs ≡ bad_row row f) × Keeps old new
Reads has old new (Err ReadError.BadSize) = Keeps old new
