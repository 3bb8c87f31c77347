-- The lines of a listing, as "The lister" of the statement of what to build fixes them.
use Rattle.std.specs.Prelude.{ℕ, List, ◌∷◌, ◌++◌}
use Rattle.isa.specs.Text.{ascii}
use Rattle.isa.specs.Refusal.{number_of}
use Rattle.isa.specs.Decode.{row_at}
use Rattle.isa.specs.Parts.{place_of}
use Rattle.isa.specs.declared.answer.Refusal.{Refusal}
use Rattle.isa.specs.declared.instruction.Instruction.{Instruction}
use Rattle.digits.specs.Digits.{digit, hex_bytes, hex_address}

-- the end of an instruction's line: the heading word of the diagram at a place of the list
abbrev pub tail_at : ℕ → List ℕ
tail_at place = ascii " " ++ ascii (row_at place).heading ++ ascii "\n"

-- the line of an instruction: its address, its bytes, the heading word of its diagram
unfoldable pub line_at : ℕ → List ℕ → ℕ → List ℕ
line_at at bytes place = hex_address at ++ ascii " " ++ hex_bytes bytes ++ tail_at place

abbrev pub line_of : ℕ → List ℕ → Instruction → List ℕ
line_of at bytes i = line_at at bytes (place_of i)

-- the last line, at the place where the walk stopped: `end`, or `refused` with the number
unfoldable pub end_line : ℕ → List ℕ
end_line at = hex_address at ++ ascii " end\n"

unfoldable pub refused_line : ℕ → Refusal → List ℕ
refused_line at r = hex_address at ++ ascii " refused " ++ digit (number_of r) ∷ ascii "\n"
