-- The worked examples of docs/byte-form.md: what each encoding decodes to, the form of that, and what the form's bytes spell.
use Rattle.std.proofs.Common.{Some, Ok}
use mathlib.Core.Path.{◌≡◌, refl}
use mathlib.Core.List.{List, [], ◌∷◌}
use Prim.Native.Nat.{ℕ}
use Rattle.isa.specs.Operand.{destination_of, source_of, uniform_of}
use Rattle.isa.specs.Together.{unary, binary, with_dst, with_binary}
use Rattle.isa.specs.Rows.{rows}
use Rattle.isa.specs.Find.{forms}
use Rattle.isa.specs.Decode.{decode_of}
use Rattle.isa.specs.declared.operand.Destination.{Destination}
use Rattle.isa.specs.declared.operand.Source.{Source}
use Rattle.isa.specs.declared.operand.Hint.{Hint}
use Rattle.isa.specs.declared.instruction.Instruction.{Instruction}
use Rattle.isa.specs.Parts.{parts_of, length_for}
use Rattle.form.specs.Form.{form_of, spelled_of}
use Rattle.formread.specs.Read.{instruction_from}

-- mov16 of 1234 hex to r1l, in the long form with every "?" bit set
abbrev mov_code : List ℕ
mov_code = 0x62 ∷ 0x84 ∷ 0x34 ∷ 0x12 ∷ 0xFF ∷ 0xCF ∷ []

abbrev mov : Instruction
mov = Instruction.Mov16 (record { destination = Destination.Half 2; hint = Hint.None }) 0x1234 1 0xCFFF00000000

abbrev mov_bytes : List ℕ
mov_bytes =
    0x01 ∷ 0x06 ∷ 0x01 ∷ 0x00 ∷ 0x01 ∷ 0x00 ∷ 0x02 ∷ 0x00 ∷ 0x00 ∷ 0x00 ∷ 0x00 ∷ 0x00 ∷ 0x00 ∷ 0x00 ∷ 0x00 ∷ 0x00
    ∷ 0x00 ∷ 0x00 ∷ 0x00 ∷ 0x00 ∷ 0x34 ∷ 0x12 ∷ 0x00 ∷ 0x00 ∷ 0x00 ∷ 0x00 ∷ 0x00 ∷ 0x00 ∷ 0x00 ∷ 0x00 ∷ 0x00 ∷ 0x00
    ∷ 0x00 ∷ 0x00 ∷ 0x00 ∷ 0x00 ∷ 0x00 ∷ 0x00 ∷ 0x00 ∷ 0x00 ∷ 0x00 ∷ 0x00 ∷ 0x00 ∷ 0x00 ∷ 0xFF ∷ 0xCF ∷ 0x00 ∷ 0x00
    ∷ []

-- iadd to r3, with the cache hint: r5, signed and with the discard hint, less the uniform half 300 shifted by 2
abbrev sub_code : List ℕ
sub_code = 0x8E ∷ 0x0D ∷ 0xCA ∷ 0xCE ∷ 0x16 ∷ 0x00 ∷ 0x10 ∷ 0x00 ∷ []

abbrev sub : Instruction
sub =
    Instruction.Iadd
    (record {
      d = record { destination = Destination.Register 3; hint = Hint.Cache };
      a = record { source = Source.Register 5; hint = Hint.Discard };
      b = record { source = Source.UniformHalf 300; hint = Hint.None };
    })
    0 1 1 0 2 0

abbrev sub_bytes : List ℕ
sub_bytes =
    0x04 ∷ 0x08 ∷ 0x00 ∷ 0x00 ∷ 0x02 ∷ 0x01 ∷ 0x03 ∷ 0x00 ∷ 0x02 ∷ 0x02 ∷ 0x05 ∷ 0x00 ∷ 0x04 ∷ 0x00 ∷ 0x2C ∷ 0x01
    ∷ 0x00 ∷ 0x00 ∷ 0x00 ∷ 0x00 ∷ 0x00 ∷ 0x00 ∷ 0x00 ∷ 0x00 ∷ 0x00 ∷ 0x01 ∷ 0x01 ∷ 0x00 ∷ 0x00 ∷ 0x02 ∷ 0x00 ∷ 0x00
    ∷ 0x00 ∷ 0x00 ∷ 0x00 ∷ 0x00 ∷ 0x00 ∷ 0x00 ∷ 0x00 ∷ 0x00 ∷ 0x00 ∷ 0x00 ∷ 0x00 ∷ 0x00 ∷ 0x00 ∷ 0x00 ∷ 0x00 ∷ 0x00
    ∷ []

abbrev Worked : List ℕ → Instruction → ℕ → List ℕ → Type 0
Worked code i n b = (decode_of code ≡ Ok (i, n)) × (form_of i ≡ b) × (spelled_of b ≡ Some i)

pub forms_hold : Worked mov_code mov 6 mov_bytes × Worked sub_code sub 8 sub_bytes
unfolding rows forms decode_of destination_of source_of uniform_of unary binary with_dst with_binary parts_of length_for instruction_from spelled_of
forms_hold = ((refl, refl, refl), (refl, refl, refl))
