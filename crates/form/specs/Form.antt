-- The byte form of an instruction, as docs/byte-form.md lays it out: 48 bytes, numbers little-endian.
use Rattle.std.specs.Prelude.{ℕ, cond, ◌&&◌, List, eqb, ltb, length, Option, Some, None}
use Rattle.isa.specs.declared.instruction.Instruction.{Instruction}
use Rattle.isa.specs.Parts.{parts_of, length_for}
use Rattle.bits.specs.Lists.{eq_list}
use Rattle.layout.specs.Lay.{lay_with}
use Rattle.isa.specs.declared.parts.Parts.{Parts}
use Rattle.formread.specs.Read.{at, instruction_from}

-- ---- from the parts to bytes

abbrev pub lay_out : Parts → List ℕ
lay_out p = lay_with p (length_for p)

abbrev pub form_of : Instruction → List ℕ
form_of i = lay_out (parts_of i)

abbrev pub spelled_by : Instruction → List ℕ → Option Instruction
spelled_by i b = cond (eq_list (form_of i) b) (Some i) None

-- 48 bytes with a kind from 1 to 22 spell that instruction, if they are its form; all other bytes spell none
unfoldable pub spelled_of : List ℕ → Option Instruction
spelled_of b =
    cond (eqb (length b) 48 && (ltb 0 (at b 0) && ltb (at b 0) 23)) (spelled_by (instruction_from (at b 0) b) b) None
