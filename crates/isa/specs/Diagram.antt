-- A bit diagram of document 002: the fixed bits, the fields and the "?" bits of its strip, with their bit numbers; and what it says of a
-- word: its fields by name, its "?" bits, its fixed bits as a mask and a value.
use Rattle.std.specs.Prelude.{ℕ, suc, ◌+◌, ◌*◌, ◌-◌, ◌^◌, cond, List, [], ◌∷◌, ◌++◌, map, eqb, length}
use Prim.Native.Char.{code}
use Prim.Native.String.{String}
use Rattle.std.specs.Int.Bits.{bit_and, bit_or}
use lib.Text.{eqt}
use Rattle.bits.specs.Word.{field_of}
use Rattle.isa.specs.Text.{ascii}
use Rattle.isa.specs.Strip.{Cell, fixed_cell, field_cell, unknown_cell, two_line_cell, Strip, cell_width}
use Rattle.isa.specs.Bits.{Bits}
use Rattle.isa.specs.Answer.{Reading}

-- the bits hi to lo
pub record Span : Type 0 where
  pub hi : ℕ
  pub lo : ℕ

-- fixed bits, with the digits that are printed there
pub record Fixed : Type 0 where
  pub at : Span
  pub digits : String

pub record Field : Type 0 where
  pub name : String
  pub at : Span

-- n bits from lo up
abbrev pub span_from : ℕ → ℕ → Span
span_from lo n = record { hi = lo + n - 1; lo = lo }

abbrev pub fixed_from : ℕ → String → Fixed
fixed_from lo digits = record { at = span_from lo (length (ascii digits)); digits = digits }

abbrev pub field_from : ℕ → String → ℕ → Field
field_from lo name n = record { name = name; at = span_from lo n }

-- ---- what a strip has, whose lowest bit is lo: each list from the low bits up

-- the fixed ones of bits that are printed above a field
abbrev pub fixeds_above : ℕ → String → List Fixed
fixeds_above lo String.[] = []
fixeds_above lo (String.◌∷◌ c cs) =
    fixeds_above lo cs
    ++ cond (eqb (code c) (code "?")) [] (fixed_from (lo + length (ascii cs)) (String.◌∷◌ c String.[]) ∷ [])

abbrev pub fixeds_of : ℕ → Strip → List Fixed
fixeds_of lo [] = []
fixeds_of lo (c ∷ cs) = here c ++ fixeds_of (lo + cell_width c) cs
  where
    here : Cell → List Fixed
    here (fixed_cell digits) = fixed_from lo digits ∷ []
    here (field_cell name n) = []
    here (unknown_cell n) = []
    here (two_line_cell bits name) = fixeds_above lo bits

abbrev pub fields_of : ℕ → Strip → List Field
fields_of lo [] = []
fields_of lo (c ∷ cs) = here c ++ fields_of (lo + cell_width c) cs
  where
    here : Cell → List Field
    here (fixed_cell digits) = []
    here (field_cell name n) = field_from lo name n ∷ []
    here (unknown_cell n) = []
    here (two_line_cell bits name) = field_from lo name (length (ascii bits)) ∷ []

-- a "?" above a field is the field's
abbrev pub unknowns_of : ℕ → Strip → List Span
unknowns_of lo [] = []
unknowns_of lo (c ∷ cs) = here c ++ unknowns_of (lo + cell_width c) cs
  where
    here : Cell → List Span
    here (fixed_cell digits) = []
    here (field_cell name n) = []
    here (unknown_cell n) = span_from lo n ∷ []
    here (two_line_cell bits name) = []

-- ---- diagrams

-- what the fields of a word are, by name
abbrev pub Fields : Type 0
Fields = String → Bits

-- a diagram: its heading word, its length in bytes, its strip and what that has, and the instruction that its fields and its "?" bits
-- make
pub record Diagram : Type 0 where
  pub heading : String
  pub bytes : ℕ
  pub strip : Strip
  pub fixeds : List Fixed
  pub fields : List Field
  pub unknowns : List Span
  pub read : Fields → ℕ → Reading

abbrev pub diagram : String → ℕ → (Fields → ℕ → Reading) → Strip → Diagram
diagram heading bytes read strip =
    record {
      heading = heading;
      bytes = bytes;
      strip = strip;
      fixeds = fixeds_of 0 strip;
      fields = fields_of 0 strip;
      unknowns = unknowns_of 0 strip;
      read = read;
    }

-- ---- fields of a word

abbrev pub width_of : Span → ℕ
width_of at = suc at.hi - at.lo

abbrev pub bits_at : Span → ℕ → Bits
bits_at at w = record { width = width_of at; value = field_of w at.lo (width_of at) }

abbrev pub field_in : List Field → ℕ → Fields
field_in [] w name = record { width = 0; value = 0 }
field_in (f ∷ fs) w name = cond (eqt f.name name) (bits_at f.at w) (field_in fs w name)

-- ---- masks

-- ones at the bits of a span, and of several
abbrev pub span_mask : Span → ℕ
span_mask at = 2 ^ (width_of at + at.lo) - 2 ^ at.lo

abbrev pub mask : List Span → ℕ
mask [] = 0
mask (at ∷ ats) = bit_or (span_mask at) (mask ats)

-- of the field of a name; none where there is no such field
abbrev pub field_mask : List Field → String → ℕ
field_mask [] name = 0
field_mask (f ∷ fs) name = cond (eqt f.name name) (span_mask f.at) (field_mask fs name)

abbrev pub spans_of : List Fixed → List Span
spans_of fs = map (λ (f : Fixed). f.at) fs

abbrev pub fixed_mask : List Fixed → ℕ
fixed_mask fs = mask (spans_of fs)

-- the number that the characters of binary digits spell, after those that spell n
abbrev pub binary_from : ℕ → List ℕ → ℕ
binary_from n [] = n
binary_from n (c ∷ cs) = binary_from (2 * n + (c - code "0")) cs

abbrev pub binary_number : String → ℕ
binary_number digits = binary_from 0 (ascii digits)

abbrev pub fixed_value : List Fixed → ℕ
fixed_value [] = 0
fixed_value (f ∷ fs) = bit_or (binary_number f.digits * 2 ^ f.at.lo) (fixed_value fs)

abbrev pub fixed_count : List Fixed → ℕ
fixed_count [] = 0
fixed_count (f ∷ fs) = width_of f.at + fixed_count fs

-- ---- reading a word by a diagram

abbrev pub read_by : Diagram → ℕ → Reading
read_by r w = r.read (field_in r.fields w) (bit_and w (mask r.unknowns))
