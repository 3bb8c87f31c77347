-- The line of a comparison's answer, without a line feed, as the change request "The two-kernel comparison" fixes it.
use Rattle.std.specs.Prelude.{ℕ, ◌/◌, ◌%◌, ◌<◌, cond, List, [], ◌∷◌, ◌++◌, ltb, leb, length, drop, Option, Some, None}
use Rattle.isa.specs.Text.{ascii}
use Rattle.isa.specs.Refusal.{number_of}
use Rattle.isa.specs.declared.answer.Refusal.{Refusal}
use Rattle.digits.specs.Digits.{digit, hex_address}
use Rattle.comparison.specs.declared.Field.{Field}
use Rattle.comparison.specs.declared.Kernel.{Kernel}
use Rattle.comparison.specs.declared.Comparison.{Comparison}

-- a number below 100 in decimal digits
abbrev pub decimal : ℕ → List ℕ
decimal n = cond (ltb n 10) (digit n ∷ []) (digit (n / 10) ∷ digit (n % 10) ∷ [])

-- the word of a field
abbrev pub word_of : Field → List ℕ
word_of Field.Instruction = ascii "instruction"
word_of Field.Length = ascii "length"
word_of Field.Destination = ascii "destination"
word_of Field.SourceA = ascii "source A"
word_of Field.SourceB = ascii "source B"
word_of Field.SourceC = ascii "source C"
word_of Field.Immediate = ascii "immediate"
word_of (Field.Other bit) = ascii "field " ++ decimal bit
word_of Field.Hint = ascii "hint"
word_of Field.Bit = ascii "bit"

abbrev pub kernel_number : Kernel → ℕ
kernel_number Kernel.First = 1
kernel_number Kernel.Second = 2

-- the words of an answer after its address
abbrev pub ended_words : Kernel → List ℕ
ended_words k = ascii "ended " ++ digit (kernel_number k) ∷ []

abbrev pub refused_words : Refusal → Kernel → List ℕ
refused_words r k = ascii "refused " ++ digit (number_of r) ∷ ascii " " ++ digit (kernel_number k) ∷ []

abbrev pub at_address : ℕ → List ℕ → List ℕ
at_address at words = hex_address at ++ ascii " " ++ words

unfoldable pub line_of : Comparison → List ℕ
line_of Comparison.Same = ascii "same"
line_of (Comparison.Differs at f) = at_address at (word_of f)
line_of (Comparison.Ended at k) = at_address at (ended_words k)
line_of (Comparison.Refused at r k) = at_address at (refused_words r k)

-- ---- the call: where the buffer is too short for the line, nothing is written

-- the number of bytes written
abbrev pub written_of : List ℕ → ℕ → Option ℕ
written_of line room = cond (leb (length line) room) (Some (length line)) None

-- the line at the start of what stood there
abbrev pub line_left : List ℕ → List ℕ → List ℕ
line_left line old = cond (leb (length line) (length old)) (line ++ drop (length line) old) old

-- ---- which answers a line can tell

-- a bit number of at most two decimal digits
abbrev pub Short : Field → Type 0
Short Field.Instruction = Unit {0}
Short Field.Length = Unit {0}
Short Field.Destination = Unit {0}
Short Field.SourceA = Unit {0}
Short Field.SourceB = Unit {0}
Short Field.SourceC = Unit {0}
Short Field.Immediate = Unit {0}
Short (Field.Other bit) = bit < 100
Short Field.Hint = Unit {0}
Short Field.Bit = Unit {0}

-- and an address of at most four hexadecimal ones
abbrev pub Printable : Comparison → Type 0
Printable Comparison.Same = Unit {0}
Printable (Comparison.Differs at f) = (at < 65536) × Short f
Printable (Comparison.Ended at k) = at < 65536
Printable (Comparison.Refused at r k) = at < 65536
