-- Decoding: finding the diagram, then reading its operands and condition, then the instruction. Refusals in the order of their numbers.
use Rattle.std.specs.Prelude.{ℕ, List, [], get_or, take, Some, None, Ok, Err}
use Rattle.bits.specs.Word.{le}
use Rattle.isa.specs.Diagram.{Diagram, diagram, read_by}
use Rattle.isa.specs.Rows.{rows}
use Rattle.isa.specs.Refusal.{refusal}
use Rattle.isa.specs.Find.{find_of}
use Rattle.isa.specs.Answer.{Find}
use Rattle.isa.specs.Answer.{Reading}
use Rattle.isa.specs.Answer.{Decoded}

-- what stands past the end of the list, and is never found
abbrev pub no_diagram : Diagram
no_diagram = diagram "" 0 (λ f kept. None) []

abbrev pub row_at : ℕ → Diagram
row_at place = get_or rows place no_diagram

-- the word w, read by the diagram at a place of the list
abbrev pub read_at : ℕ → ℕ → Reading
read_at place w = read_by (row_at place) w

abbrev pub decoded_of : Reading → ℕ → Decoded
decoded_of (Some i) n = Ok (i, n)
decoded_of None n = Err (refusal 4)

-- what was found is read from its bytes; the absent ones are zero
abbrev pub read_found : Find → List ℕ → Decoded
read_found (Ok (place, n)) code = decoded_of (read_at place (le (take n code))) n
read_found (Err r) code = Err r

unfoldable pub decode_of : List ℕ → Decoded
decode_of code = read_found (find_of code) code
