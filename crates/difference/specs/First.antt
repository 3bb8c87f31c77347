-- The first field in which two instructions differ, by their parts, in the shape of the code: one test after the other.
use Rattle.std.specs.Prelude.{ℕ, Bool, ◌&&◌, cond, Option, Some, None, eqb, leb}
use Rattle.std.specs.Option.{option_or}
use Rattle.isa.specs.declared.parts.Slot.{Slot}
use Rattle.isa.specs.declared.parts.Signs.{Signs}
use Rattle.isa.specs.declared.parts.Truth.{Truth}
use Rattle.isa.specs.declared.parts.Condition.{Condition}
use Rattle.isa.specs.declared.parts.Parts.{Parts}
use Rattle.comparison.specs.declared.Field.{Field}

-- the field, unless the two are the same in it
abbrev pub unless : Bool → Field → Option Field
unless same field = cond same None (Some field)

-- what was found stays; else what is found next
infixl 30 ◌or◌
abbrev pub ◌or◌ : Option Field → Option Field → Option Field
found or next = option_or found next

abbrev pub same_operand : Slot → Slot → Bool
same_operand x y = eqb x.kind y.kind && eqb x.number y.number

-- the number of an instruction whose kind is from low to high
abbrev pub number_for : ℕ → ℕ → Parts → ℕ
number_for low high p = cond (leb low p.kind && leb p.kind high) p.immediate 0

abbrev pub by_form : Parts → ℕ → Parts → ℕ → Option Field
by_form p n q m =
    unless (eqb p.kind q.kind) Field.Instruction
    or unless (eqb n m) Field.Length
    or unless (eqb p.l q.l) Field.Length

abbrev pub by_operands : Parts → Parts → Option Field
by_operands p q =
    unless (same_operand p.d q.d) Field.Destination
    or unless (same_operand p.a q.a) Field.SourceA
    or unless (same_operand p.b q.b) Field.SourceB
    or unless (same_operand p.c q.c) Field.SourceC

abbrev pub by_number : ℕ → ℕ → Parts → Parts → Field → Option Field
by_number low high p q field = unless (eqb (number_for low high p) (number_for low high q)) field

abbrev pub by_signs : Signs → Signs → Option Field
by_signs x y =
    unless (eqb x.saturate y.saturate) (Field.Other 6)
    or unless (eqb x.sa y.sa) (Field.Other 26)
    or unless (eqb x.negate y.negate) (Field.Other 27)
    or unless (eqb x.sb y.sb) (Field.Other 38)
    or unless (eqb x.shift y.shift) (Field.Other 39)
    or unless (eqb x.sc y.sc) (Field.Other 50)

abbrev pub by_truth : Truth → Truth → Option Field
by_truth x y =
    unless (eqb x.tt0 y.tt0) (Field.Other 26)
    or unless (eqb x.tt1 y.tt1) (Field.Other 27)
    or unless (eqb x.tt2 y.tt2) (Field.Other 38)
    or unless (eqb x.tt3 y.tt3) (Field.Other 39)

abbrev pub by_condition : Condition → Condition → Option Field
by_condition x y =
    unless (eqb x.ccn y.ccn) (Field.Other 8)
    or unless (eqb x.n y.n) (Field.Other 11)
    or unless (eqb x.cc y.cc) (Field.Other 13)

abbrev pub by_fields : Parts → Parts → Option Field
by_fields p q =
    by_number 1 1 p q Field.Immediate
    or by_number 2 2 p q Field.Immediate
    or by_number 3 3 p q (Field.Other 16)
    or by_signs p.signs q.signs
    or unless (eqb p.m q.m) (Field.Other 38)
    or by_truth p.truth q.truth
    or by_number 17 18 p q (Field.Other 16)
    or by_condition p.condition q.condition

abbrev pub by_hints : Parts → Parts → Option Field
by_hints p q =
    unless (eqb p.d.hint q.d.hint) Field.Hint
    or unless (eqb p.a.hint q.a.hint) Field.Hint
    or unless (eqb p.b.hint q.b.hint) Field.Hint
    or unless (eqb p.c.hint q.c.hint) Field.Hint

-- of an instruction of n bytes and one of m bytes
abbrev pub first_by : Parts → ℕ → Parts → ℕ → Option Field
first_by p n q m =
    by_form p n q m or by_operands p q or by_fields p q or by_hints p q or unless (eqb p.kept q.kept) Field.Bit
