-- The fields and the "?" bits that the diagram at a place of the list has in the word w.
use Rattle.std.specs.Prelude.{ℕ}
use Rattle.std.specs.Int.Bits.{bit_and}
use Rattle.isa.specs.Diagram.{Fields, field_in, mask}
use Rattle.isa.specs.Decode.{row_at}

abbrev pub fields_at : ℕ → ℕ → Fields
fields_at place w = field_in (row_at place).fields w

abbrev pub kept_at : ℕ → ℕ → ℕ
kept_at place w = bit_and w (mask (row_at place).unknowns)
