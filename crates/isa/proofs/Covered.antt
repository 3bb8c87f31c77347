-- Every bit of a diagram is accounted for: it is fixed, or stands in one field, or is printed "?", and only one of these. The widths of its
-- strip add up to its length.
-- The movs are read as the statement of what to build reads them: bit 8 is fixed and is the upper bit of Dt, bit 7 is Dt's.
use Prim.Native.Nat.{ℕ, zero, suc, ◌+◌, ◌*◌}
use Prim.Native.Char.{code}
use mathlib.Core.Path.{◌≡◌, refl}
use mathlib.Core.Bool.{Bool, true, ◌&&◌, ◌||◌, cond}
use mathlib.Core.List.{List, [], ◌∷◌, ◌++◌, map}
use lib.Dec.{T, eqb, leb, ltb}
use lib.ListN.{length}
use lib.Text.{eqt}
use Rattle.bits.proofs.Table.{all}
use Rattle.isa.specs.Text.{ascii}
use Rattle.isa.specs.Strip.{strip_width}
use Rattle.isa.specs.Diagram.{Diagram, Span, Fixed, Field, fixeds_of, fields_of, unknowns_of, width_of, spans_of}
use Rattle.isa.specs.Rows.{rows}

-- the spans of a diagram: of its fixed bits, its fields and its "?" bits
abbrev spans : Diagram → List Span
spans d = spans_of d.fixeds ++ map (λ (f : Field). f.at) d.fields ++ d.unknowns

-- in how many of the spans the bit k stands
abbrev times : ℕ → List Span → ℕ
times k [] = 0
times k (at ∷ ats) = cond (leb at.lo k && leb k at.hi) 1 0 + times k ats

-- the bit that a mov fixes and Dt has too
abbrev shared : Diagram → ℕ → Bool
shared d k = eqb k 8 && (eqt d.heading "mov16" || eqt d.heading "mov32")

-- each of the first n bits stands in the diagram once, the shared one twice
abbrev each : Diagram → ℕ → Bool
each d zero = true
each d (suc k) = eqb (times k (spans d)) (cond (shared d k) 2 1) && each d k

abbrev within : ℕ → Span → Bool
within n at = ltb at.hi n

-- 0 or 1, as a character
abbrev is_digit : ℕ → Bool
is_digit c = eqb c (code "0") || eqb c (code "1")

abbrev one_digit_each : Fixed → Bool
one_digit_each f = eqb (length (ascii f.digits)) (width_of f.at) && all is_digit (ascii f.digits)

-- besides, no span goes past the length, and each fixed bit has one digit
abbrev pub covered : Diagram → Bool
covered d = each d (8 * d.bytes) && (all (within (8 * d.bytes)) (spans d) && all one_digit_each d.fixeds)

-- the statements over the list, closed by computation
pub all-covered : T (all covered rows)
unfolding rows
all-covered = tt

-- ---- strips

-- the widths of the cells add up to the length
abbrev pub adds_up : Diagram → Bool
adds_up d = eqb (strip_width d.strip) (8 * d.bytes)

pub all_add_up : T (all adds_up rows)
unfolding rows
all_add_up = tt

-- the three lists of a row are those of its strip
pub record Lists : Type 0 where
  pub fixeds : List Fixed
  pub fields : List Field
  pub unknowns : List Span

abbrev lists_in : Diagram → Lists
lists_in d = record { fixeds = d.fixeds; fields = d.fields; unknowns = d.unknowns }

abbrev lists_of_strip : Diagram → Lists
lists_of_strip d = record { fixeds = fixeds_of 0 d.strip; fields = fields_of 0 d.strip; unknowns = unknowns_of 0 d.strip }

pub lists_of_strips : map lists_in rows ≡ map lists_of_strip rows
unfolding rows
lists_of_strips = refl
