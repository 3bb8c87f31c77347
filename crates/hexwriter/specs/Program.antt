-- What the program writes for a kernel: its text, or nothing where it is refused.
use Rattle.std.specs.Prelude.{ℕ, ◌≤◌, Bool, true, false, cond, List, [], leb, length, Option, IfSome}
use Rattle.std.specs.Io.KnownBytes.{Appends, Keeps}
use Rattle.hexfile.specs.Read.{limit}
use Rattle.hexwrite.specs.Write.{hex_of}

-- What it writes for a file: the text of all that the file has, where that is known; or nothing, where it says that it refuses it. Arguments
-- are what the file has, what has been written before and after, and whether the text was written.
abbrev pub Writes : Option (List ℕ) → Option (List ℕ) → Option (List ℕ) → Bool → Type 0
Writes has old new true = IfSome has (λ xs. (length xs ≤ limit) × Appends old new (hex_of xs))
Writes has old new false = Keeps old new
