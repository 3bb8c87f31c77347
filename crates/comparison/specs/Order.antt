-- The fields of an instruction in the order in which two are compared, one list, and the first in which they differ. Follows the change
-- request "The two-kernel comparison" and docs/DECISIONS.md, entries 71 and 72. A field is called by the names that it has in its
-- diagram, and its lowest bit is looked up in the first diagram that has it.
use Rattle.std.specs.Prelude.{ℕ, Bool, cond, Option, Some, None, List, [], ◌∷◌, ◌++◌, map, eqb}
use Prim.Native.String.{String}
use lib.Text.{eqt}
use Rattle.bits.specs.Lists.{eq_list}
use Rattle.isa.specs.Diagram.{Diagram, Field as DiagramField, field_mask}
use Rattle.isa.specs.Rows.{rows}
use Rattle.isa.specs.Parts.{parts_of, place_of, kept_of}
use Rattle.isa.specs.declared.parts.Slot.{Slot}
use Rattle.isa.specs.declared.instruction.Instruction.{Instruction}
use Rattle.encoding.specs.Write.{fields_for, number_in}
use Rattle.comparison.specs.declared.Field.{Field}

-- ---- the lowest bit of a field

-- in a diagram's fields
abbrev pub low_in : List DiagramField → String → ℕ
low_in [] name = 0
low_in (f ∷ fs) name = cond (eqt f.name name) f.at.lo (low_in fs name)

-- in the first diagram of a list that has a field of that name
abbrev pub low_by : List Diagram → String → ℕ
low_by [] name = 0
low_by (r ∷ rs) name = cond (eqb (field_mask r.fields name) 0) (low_by rs name) (low_in r.fields name)

-- of joined fields, the most significant first: that of the last
abbrev pub lowest : List String → ℕ
lowest [] = 0
lowest (name ∷ []) = low_by rows name
lowest (name ∷ (next ∷ names)) = lowest (next ∷ names)

-- ---- an entry of the list

-- what the field is called in an answer, and the numbers by which two instructions are compared in it; those of an instruction i that
-- has n bytes
pub record Entry : Type 0 where
  pub called : Field
  pub numbers : Instruction → ℕ → List ℕ

abbrev pub entry : Field → (Instruction → ℕ → List ℕ) → Entry
entry f ns = record { called = f; numbers = ns }

-- what an operand names: a half, a register, a pair, a uniform or an immediate, and its number
abbrev pub named : Slot → List ℕ
named s = s.kind ∷ s.number ∷ []

-- what stands in the fields of some names; 0 where the instruction has no such field
abbrev pub fields_of : List String → Instruction → List ℕ
fields_of names i = map (number_in (fields_for i)) names

abbrev pub other : List String → Entry
other names = entry (Field.Other (lowest names)) (λ i n. fields_of names i)

-- ---- the list

-- the other fields, joined ones as one, by their lowest bit: of get_sr; of iadd and imadd; of bfi, bfeil, extr, shlhi and shrhi; of bitop;
-- of the jumps; of the mask instructions
unfoldable pub others : List (List String)
others =
    ("SRx" ∷ "SR" ∷ [])
    ∷ ("S" ∷ []) ∷ ("As" ∷ []) ∷ ("N" ∷ []) ∷ ("Bs" ∷ []) ∷ ("s2" ∷ "s1" ∷ []) ∷ ("Cs" ∷ [])
    ∷ ("m3" ∷ "m2" ∷ "m1" ∷ [])
    ∷ ("tt0" ∷ []) ∷ ("tt1" ∷ []) ∷ ("tt2" ∷ []) ∷ ("tt3" ∷ [])
    ∷ ("off" ∷ [])
    ∷ ("ccn" ∷ []) ∷ ("n" ∷ []) ∷ ("cc" ∷ [])
    ∷ []

unfoldable pub order : List Entry
unfolding rows others
order =
    entry Field.Instruction (λ i n. place_of i ∷ [])
    -- L of the movs says the length
    ∷ entry Field.Length (λ i n. n ∷ fields_of ("L" ∷ []) i)
    ∷ entry Field.Destination (λ i n. named (parts_of i).d)
    ∷ entry Field.SourceA (λ i n. named (parts_of i).a)
    ∷ entry Field.SourceB (λ i n. named (parts_of i).b)
    ∷ entry Field.SourceC (λ i n. named (parts_of i).c)
    ∷ entry Field.Immediate (λ i n. fields_of ("imm16" ∷ "imm32" ∷ []) i)
    ∷ map other others
    ++ entry Field.Hint (λ i n. (parts_of i).d.hint ∷ (parts_of i).a.hint ∷ (parts_of i).b.hint ∷ (parts_of i).c.hint ∷ [])
    -- any other bit
    ∷ entry Field.Bit (λ i n. kept_of i ∷ [])
    ∷ []

-- ---- the first difference

abbrev pub agrees : Entry → Instruction → ℕ → Instruction → ℕ → Bool
agrees e i n j m = eq_list (e.numbers i n) (e.numbers j m)

abbrev pub first_of : List Entry → Instruction → ℕ → Instruction → ℕ → Option Field
first_of [] i n j m = None
first_of (e ∷ es) i n j m = cond (agrees e i n j m) (first_of es i n j m) (Some e.called)

-- of the instruction i of n bytes and the instruction j of m bytes
unfoldable pub difference_of : Instruction → ℕ → Instruction → ℕ → Option Field
difference_of i n j m = first_of order i n j m
