-- The row at a place has what the diagram at that place of the document's list says.
use mathlib.Core.Path.{◌≡◌}
use Prim.Native.Nat.{ℕ}
use lib.ListN.{get_or, get_or-map}
use Rattle.isa.specs.Rows.{rows}
use Rattle.isa.specs.Decode.{no_diagram, row_at}
use Rattle.rows.specs.Table.{row_of, table, no_row}

pub of-diagram : (place : ℕ) → get_or table place no_row ≡ row_of (row_at place)
unfolding table
of-diagram place = get_or-map row_of rows place no_diagram
