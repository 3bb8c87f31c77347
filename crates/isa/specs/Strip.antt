-- A bit diagram as document 002 prints it: a strip of cells, written from the top bit to bit 0. No cell has a bit number; it stands
-- where the widths of the cells to its right leave it.
use Rattle.std.specs.Prelude.{ℕ, ◌+◌, List, [], ◌∷◌, ◌++◌, length}
use Prim.Native.String.{String}
use Rattle.isa.specs.Text.{ascii}

pub data Cell : Type 0 where
  -- a run of fixed bits, as its digits
  fixed_cell : String → Cell
  -- a field, as its name and its number of bits
  field_cell : String → ℕ → Cell
  -- bits that are printed "?"
  unknown_cell : ℕ → Cell
  -- bits that are printed "0", "1" or "?", and the name of a field that is printed below them and has them all
  two_line_cell : String → String → Cell

-- the list begins with the cell of bit 0
abbrev pub Strip : Type 0
Strip = List Cell

-- ---- how a strip is written

infix 80 ◌of◌
infix 80 ◌above◌
infixl 40 ◌·◌
abbrev pub fixed : String → Strip
fixed digits = fixed_cell digits ∷ []

abbrev pub ◌of◌ : String → ℕ → Strip
◌of◌ name n = field_cell name n ∷ []

abbrev pub unknown : ℕ → Strip
unknown n = unknown_cell n ∷ []

abbrev pub ◌above◌ : String → String → Strip
◌above◌ bits name = two_line_cell bits name ∷ []

-- side by side
abbrev pub ◌·◌ : Strip → Strip → Strip
◌·◌ high low = low ++ high

-- ---- widths

abbrev pub cell_width : Cell → ℕ
cell_width (fixed_cell digits) = length (ascii digits)
cell_width (field_cell name n) = n
cell_width (unknown_cell n) = n
cell_width (two_line_cell bits name) = length (ascii bits)

abbrev pub strip_width : Strip → ℕ
strip_width [] = 0
strip_width (c ∷ cs) = cell_width c + strip_width cs
