-- Marks with those of some halves set, in some threads, a bit each as in a mask; and what an instruction sets, one operand after the other.
use Rattle.std.specs.Prelude.{ℕ, cond, List, eqb}
use Rattle.isa.specs.declared.operand.Destination.{Destination}
use Rattle.machine.specs.Lanes.{active_in}
use Rattle.machine.specs.Meaning.{both}
use Rattle.machine.specs.Marks.{halves_from, any_of, destination_halves, input_discards, each_mark}
use Rattle.machine.specs.declared.input.Input.{Input}

unfoldable pub halves_set : List ℕ → ℕ → ℕ → List ℕ → List ℕ
halves_set halves who v marks = each_mark (λ h t byte. cond (both (any_of (eqb h) halves) (active_in who t)) v byte) marks

-- the halves of a source with discard, in all threads
abbrev pub discards : Input → List ℕ → List ℕ
discards x marks = halves_set (input_discards x) 4294967295 1 marks

abbrev pub data_sets : Destination → Input → Input → Input → ℕ → List ℕ → List ℕ
data_sets d a b c mask marks = halves_set (destination_halves d) mask 0 (discards c (discards b (discards a marks)))

abbrev pub mask_sets : Input → Input → List ℕ → List ℕ
mask_sets a b marks = halves_set (halves_from 0 1) 4294967295 0 (discards b (discards a marks))
