-- The marked bench examples hold, whatever the mask before pop_exec 0 was: one statement over one list, closed by computation.
use mathlib.Core.Path.{◌≡◌, refl}
use mathlib.Core.List.{map}
use Prim.Native.Nat.{ℕ}
use Rattle.isa.specs.Operand.{destination_of, source_of, uniform_of}
use Rattle.isa.specs.Together.{unary, binary, with_dst, with_binary}
use Rattle.isa.specs.Rows.{rows}
use Rattle.isa.specs.Find.{forms}
use Rattle.isa.specs.Decode.{decode_of}
use Rattle.isa.specs.Parts.{parts_of, length_for}
use Rattle.encoding.specs.Write.{fields_for, word_for}
use Rattle.encode.specs.Encode.{accepts, encoded_of, encoding_left}
use Rattle.machine.specs.Integer.{sign_extend, modulo}
use Rattle.machine.specs.Lanes.{tab, each, active_in, pack, any_below}
use Rattle.machine.specs.Words.{source_value, value_of, store_of}
use Rattle.machine.specs.Meaning.{mov, get_sr, asr, asrh, pop_exec, meaning_of}
use Rattle.machine.specs.Marks.{reads_of, discards_of, clears_of, reads_marked, each_mark, mark_after, marks_after}
use Rattle.machine.specs.Step.{write_thread, next_of, gather_of, write_all, next_at, mask_all, threads_after, going_of, step_by, step_of}
use Rattle.machine.specs.Record.{record_of, records_of, room_after}
use Rattle.machine.specs.Run.{arranged, run_from, run_of, answer_of}
use Rattle.examples.specs.Examples.{Example, outcome_of, examples}

pub examples_hold : (mask : ℕ) → map (λ (e : Example). outcome_of e.call) (examples mask) ≡ map (λ (e : Example). e.outcome) (examples mask)
unfolding rows forms decode_of destination_of source_of uniform_of unary binary with_dst with_binary parts_of length_for fields_for word_for accepts encoded_of encoding_left sign_extend modulo tab each active_in pack any_below reads_of discards_of clears_of reads_marked each_mark mark_after marks_after source_value value_of store_of mov get_sr asr asrh pop_exec meaning_of write_thread next_of gather_of write_all next_at mask_all threads_after going_of step_by step_of record_of records_of room_after arranged run_from run_of answer_of
examples_hold mask = refl
