-- What finding and encoding read of each diagram, one list in document order: its length, its bit L, its fixed bits and their values.
use Rattle.std.specs.Prelude.{List, map}
use Rattle.isa.specs.Diagram.{Diagram, field_mask, fixed_mask, fixed_value}
use Rattle.isa.specs.Rows.{rows}
use Rattle.rows.specs.declared.Row.{Row}

abbrev pub row_of : Diagram → Row
row_of d =
    record {
      bytes = d.bytes;
      bit_l = field_mask d.fields "L";
      fixed = fixed_mask d.fixeds;
      value = fixed_value d.fixeds;
    }

unfoldable pub table : List Row
table = map row_of rows

-- what stands past the end of the table
abbrev pub no_row : Row
no_row = record { bytes = 0; bit_l = 0; fixed = 0; value = 0 }
