-- A kernel decoded and encoded again: one instruction after the other, each by the bytes of its encoding, to the end or to the first
-- refusal; what stands from there on, as it is.
use Rattle.std.specs.Prelude.{ℕ, zero, suc, cond, List, [], ◌∷◌, ◌++◌, leb, length, drop, Ok, Err}
use Rattle.isa.specs.Decode.{decode_of}
use Rattle.isa.specs.Refusal.{refusal}
use Rattle.isa.specs.Answer.{Decoded}
use Rattle.isa.specs.Answer.{Encoded}
use Rattle.isa.specs.declared.instruction.Instruction.{Instruction}
use Rattle.encode.specs.Encode.{bytes_for}

-- with the instruction and its length where one was decoded, else the rest
abbrev pub on_decoded : Decoded → (Instruction → ℕ → List ℕ) → List ℕ → List ℕ
on_decoded (Ok (i, n)) go rest = go i n
on_decoded (Err r) go rest = rest

-- the first number bounds the steps; an instruction has at least one byte, so as many steps as there are bytes are enough
unfoldable pub again_from : ℕ → List ℕ → List ℕ
again_from zero s = s
again_from (suc k) [] = []
again_from (suc k) (b ∷ s) =
    on_decoded (decode_of (b ∷ s)) (λ i n. bytes_for i ++ again_from k (drop n (b ∷ s))) (b ∷ s)

unfoldable pub recoded_of : List ℕ → List ℕ
recoded_of code = again_from (length code) code

-- ---- the call: a buffer that is shorter than the code is refused with 1, and nothing is written

abbrev pub answer_of : ℕ → ℕ → Encoded
answer_of n room = cond (leb n room) (Ok n) (Err (refusal 1))

abbrev pub left_of : List ℕ → List ℕ → List ℕ
left_of code out = cond (leb (length code) (length out)) (recoded_of code ++ drop (length code) out) out
