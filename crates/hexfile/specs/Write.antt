-- Writing Intel HEX: what the call answers and leaves. Follows "Kernels arrive as Intel HEX" of the change
-- requests.
use Rattle.std.specs.Prelude.{ℕ, Bool, cond, ◌&&◌, List, ◌++◌, leb, length, drop, Option, Some, None}
use Rattle.hexwrite.specs.Write.{hex_of}
use Rattle.hexfile.specs.Read.{limit}

-- whether a kernel is written into a text with some room
abbrev pub given : List ℕ → ℕ → Bool
given code room = leb (length code) limit && leb (length (hex_of code)) room

abbrev pub writing_of : List ℕ → ℕ → Option ℕ
writing_of code room = cond (given code room) (Some (length (hex_of code))) None

abbrev pub text_left : List ℕ → List ℕ → List ℕ
text_left code old = cond (given code (length old)) (hex_of code ++ drop (length (hex_of code)) old) old
