-- Finding the instruction at the start of some bytes: the rule of "Finding the instruction" in the statement of what to build.
use Rattle.std.specs.Prelude.{ℕ, suc, ◌-◌, Bool, true, false, cond, ◌&&◌, ◌||◌, List, [], ◌∷◌, ◌++◌, eqb, leb, ltb, length, take, Ok, Err}
use Rattle.std.proofs.Math.Option.{Option, none, some}
use Rattle.std.specs.Int.Bits.{bit_and, bit_or}
use Rattle.bits.specs.Word.{le, ones}
use Rattle.isa.specs.Diagram.{Diagram, field_mask, fixed_mask, fixed_value, fixed_count}
use Rattle.isa.specs.Rows.{rows}
use Rattle.isa.specs.Refusal.{refusal}
use Rattle.isa.specs.Answer.{Find}

-- ---- the forms of a diagram

-- a diagram has one length, or with a bit L two: a form is the diagram's place in the list, a length in bytes, the bits that bytes
-- of it must have, as a mask and a value, and the number of its fixed bits, absent ones counted
pub record Form : Type 0 where
  pub place : ℕ
  pub bytes : ℕ
  pub mask : ℕ
  pub value : ℕ
  pub count : ℕ

abbrev pub diagram_form : ℕ → Diagram → ℕ → ℕ → ℕ → Form
diagram_form i d bytes mask value =
    record {
      place = i;
      bytes = bytes;
      mask = bit_or mask (fixed_mask d.fixeds);
      value = bit_or value (fixed_value d.fixeds);
      count = fixed_count d.fixeds;
    }

-- the last two bytes are absent where L is 0, the last four of a twelve-byte instruction
abbrev pub absent : ℕ → ℕ
absent bytes = cond (eqb bytes 12) 4 2

-- of a diagram whose bit L, as a mask, is l: one form where it has none, else the short one with L = 0 and the long one with L = 1
abbrev pub forms_by : ℕ → ℕ → Diagram → List Form
forms_by l i d =
    cond (eqb l 0)
    (diagram_form i d d.bytes 0 0 ∷ [])
    (diagram_form i d (d.bytes - absent d.bytes) l 0 ∷ diagram_form i d d.bytes l l ∷ [])

abbrev pub forms_at : ℕ → Diagram → List Form
forms_at i d = forms_by (field_mask d.fields "L") i d

-- the forms of the diagrams of a list, whose first has the place i
abbrev pub forms_from : ℕ → List Diagram → List Form
forms_from i [] = []
forms_from i (d ∷ ds) = forms_at i d ++ forms_from (suc i) ds

unfoldable pub forms : List Form
unfolding rows
forms = forms_from 0 rows

-- ---- the rule

-- a form matches where its whole length is lent and every fixed bit agrees; those that are absent read as zero
abbrev pub matches : Form → List ℕ → Bool
matches f code = leb f.bytes (length code) && eqb (bit_and (le (take f.bytes code)) f.mask) f.value

-- a form agrees in all its fixed bits lent so far, and is longer than what is lent
abbrev pub goes_on : Form → List ℕ → Bool
goes_on f code = ltb (length code) f.bytes && eqb (bit_and (le code) f.mask) (bit_and f.value (ones (length code)))

-- a form has more fixed bits than the best so far; of two with as many, the earlier stays
abbrev pub beats : Form → Option Form → Bool
beats f none = true
beats f (some g) = ltb g.count f.count

-- of the forms that match, the one with most fixed bits, then the earlier in the document
abbrev pub best_of : List Form → List ℕ → Option Form → Option Form
best_of [] code best = best
best_of (f ∷ fs) code best = best_of fs code (cond (matches f code && beats f best) (some f) best)

abbrev pub any_goes_on : List Form → List ℕ → Bool
any_goes_on [] code = false
any_goes_on (f ∷ fs) code = goes_on f code || any_goes_on fs code

-- if none matches but one agrees so far and is longer, the answer is 2; otherwise it is 3
abbrev pub found : Option Form → Bool → Find
found (some f) more = Ok (f.place, f.bytes)
found none true = Err (refusal 2)
found none false = Err (refusal 3)

abbrev pub find_of : List ℕ → Find
find_of code = found (best_of forms code none) (any_goes_on forms code)
