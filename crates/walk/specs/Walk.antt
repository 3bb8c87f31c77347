-- A walk through a kernel: one instruction after the other from address 0, to the end of the code or to the first refusal.
-- Follows "The lister" of the statement of what to build.
use Rattle.std.specs.Prelude.{ℕ, zero, suc, ◌+◌, cond, List, [], ◌∷◌, ◌++◌, leb, length, take, drop, Option, Some, None, Ok, Err}
use Rattle.isa.specs.Decode.{decode_of}
use Rattle.isa.specs.Refusal.{refusal}
use Rattle.isa.specs.declared.answer.Refusal.{Refusal}
use Rattle.isa.specs.Answer.{Decoded}
use Rattle.isa.specs.declared.instruction.Instruction.{Instruction}

pub data Walk : Type 0 where
  -- the end of the code, at an address
  ended : ℕ → Walk
  -- a refusal, at an address
  refused : ℕ → Refusal → Walk
  -- an instruction at an address, with its bytes, and the walk that follows
  stepped : ℕ → List ℕ → Instruction → Walk → Walk

abbrev pub on_decoded : Decoded → (Instruction → ℕ → Walk) → (Refusal → Walk) → Walk
on_decoded (Ok (i, n)) go stop = go i n
on_decoded (Err r) go stop = stop r

-- the walk from an address, where the code that is left is s. The first number bounds the steps; an instruction has at least one
-- byte, so as many steps as there are bytes are enough
unfoldable pub walk_from : ℕ → ℕ → List ℕ → Walk
walk_from zero at s = ended at
walk_from (suc k) at [] = ended at
walk_from (suc k) at (b ∷ s) =
    on_decoded (decode_of (b ∷ s))
    (λ i n. stepped at (take n (b ∷ s)) i (walk_from k (at + n) (drop n (b ∷ s))))
    (λ r. refused at r)

-- the most bytes of a kernel that is walked
abbrev pub limit : ℕ
limit = 8192

unfoldable pub walk_of : List ℕ → Walk
walk_of code = cond (leb (length code) limit) (walk_from (length code) 0 code) (refused 0 (refusal 1))

-- what stands at an address of the code; where the code is too long, a refusal
abbrev pub stands_at : List ℕ → ℕ → Decoded
stands_at code at = cond (leb (length code) limit) (decode_of (drop at code)) (Err (refusal 1))

-- ---- what a walk has seen

-- the bytes of its instructions
abbrev pub shown : Walk → List ℕ
shown (ended at) = []
shown (refused at r) = []
shown (stepped at bytes i w) = bytes ++ shown w

-- where it stopped, and the refusal if there was one
abbrev pub stop : Walk → ℕ
stop (ended at) = at
stop (refused at r) = at
stop (stepped at bytes i w) = stop w

abbrev pub refusal_of : Walk → Option Refusal
refusal_of (ended at) = None
refusal_of (refused at r) = Some r
refusal_of (stepped at bytes i w) = refusal_of w
