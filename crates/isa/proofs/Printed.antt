-- The diagrams that the statement of what to build prints are rows of the list: its table under "Finding the instruction", with the
-- lengths and the Dt of the movs that it gives below the table.
use Prim.Native.Nat.{ℕ}
use Prim.Native.String.{String}
use mathlib.Core.Bool.{Bool, true, false, ◌&&◌, ◌||◌}
use mathlib.Core.List.{List, [], ◌∷◌}
use lib.Dec.{T, eqb}
use lib.ListN.{length}
use lib.Text.{eqt}
use Rattle.bits.proofs.Table.{all}
use Rattle.isa.specs.Diagram.{Diagram, Fixed, Field, fixed_mask, fixed_value}
use Rattle.isa.specs.Rows.{rows}
use Rattle.isa.specs.Find.{Form, forms_at}

-- fixed bits and a field, by their bit numbers
abbrev pub fixed_at : ℕ → ℕ → String → Fixed
fixed_at hi lo digits = record { at = record { hi = hi; lo = lo }; digits = digits }

abbrev pub field_at : String → ℕ → ℕ → Field
field_at name hi lo = record { name = name; at = record { hi = hi; lo = lo } }

-- a diagram as printed: the heading word, the lengths it can have, its fixed bits and its fields
pub record Printed : Type 0 where
  pub heading : String
  pub lengths : List ℕ
  pub fixeds : List Fixed
  pub fields : List Field

abbrev printed : String → List ℕ → List Fixed → List Field → Printed
printed h ls fx fs = record { heading = h; lengths = ls; fixeds = fx; fields = fs }

-- of asr and asrh, which share a line of the table
abbrev asr_fields : List Field
asr_fields =
    field_at "Dt" 8 7 ∷ field_at "D" 14 9 ∷ field_at "A" 21 16 ∷ field_at "At" 25 22 ∷ field_at "B" 33 28 ∷ field_at "Bt" 37 34 ∷ field_at "Bx" 57 56 ∷
    field_at "Ax" 59 58 ∷ field_at "Dx" 61 60 ∷ []

abbrev pub table : List Printed
table =
    printed "mov16" (4 ∷ 6 ∷ [])
    (fixed_at 6 0 "1100010" ∷ fixed_at 8 8 "0" ∷ [])
    (field_at "L" 15 15 ∷ field_at "D" 14 9 ∷ field_at "imm16" 31 16 ∷ field_at "Dx" 45 44 ∷ field_at "Dt" 8 7 ∷ [])
    ∷ printed "mov32" (6 ∷ 8 ∷ [])
    (fixed_at 6 0 "1100010" ∷ fixed_at 8 8 "1" ∷ [])
    (field_at "L" 15 15 ∷ field_at "D" 14 9 ∷ field_at "imm32" 47 16 ∷ field_at "Dx" 61 60 ∷ field_at "Dt" 8 7 ∷ [])
    ∷ printed "get_sr" (4 ∷ [])
    (fixed_at 6 0 "1110010" ∷ fixed_at 15 15 "0" ∷ [])
    (field_at "Dt" 8 7 ∷ field_at "D" 14 9 ∷ field_at "SR" 21 16 ∷ field_at "SRx" 27 26 ∷ field_at "Dx" 29 28 ∷ [])
    ∷ printed "asr" (8 ∷ [])
    (fixed_at 6 0 "0101110" ∷ fixed_at 15 15 "1" ∷ fixed_at 26 26 "1" ∷ fixed_at 27 27 "0" ∷ [])
    asr_fields
    ∷ printed "asrh" (8 ∷ [])
    (fixed_at 6 0 "0101110" ∷ fixed_at 15 15 "1" ∷ fixed_at 26 26 "1" ∷ fixed_at 27 27 "1" ∷ [])
    asr_fields
    ∷ []

-- the row has the field, at the same bits
abbrev has_same : List Field → Field → Bool
has_same [] f = false
has_same (g ∷ gs) f = eqt g.name f.name && (eqb g.at.hi f.at.hi && eqb g.at.lo f.at.lo) || has_same gs f

abbrev same_lengths : List Form → List ℕ → Bool
same_lengths [] [] = true
same_lengths [] (n ∷ ns) = false
same_lengths (f ∷ fs) [] = false
same_lengths (f ∷ fs) (n ∷ ns) = eqb f.bytes n && same_lengths fs ns

-- the same heading, fixed bits, fields and lengths
abbrev is_row : Printed → Diagram → Bool
is_row p d =
    eqt p.heading d.heading
    && (eqb (fixed_mask p.fixeds) (fixed_mask d.fixeds)
    && (eqb (fixed_value p.fixeds) (fixed_value d.fixeds)
    && (eqb (length p.fields) (length d.fields)
    && (all (has_same d.fields) p.fields && same_lengths (forms_at 0 d) p.lengths))))

abbrev among_rows : List Diagram → Printed → Bool
among_rows [] p = false
among_rows (d ∷ ds) p = is_row p d || among_rows ds p

-- the statement over the list, closed by computation
pub printed_are_rows : T (all (among_rows rows) table)
unfolding rows
printed_are_rows = tt
