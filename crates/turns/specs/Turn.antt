-- What two places say, one of each kernel, at one address, in the shape of the code.
use Rattle.std.specs.Prelude.{ℕ, cond, leb, Option, Some, None, Result, Ok, Err, ⊤}
use Rattle.std.specs.declared.ops.ControlFlow.{ControlFlow}
use Rattle.std.specs.declared.ops.ControlFlow.TheVariants.{Continue, Break}
use Rattle.isa.specs.Refusal.{refusal}
use Rattle.isa.specs.declared.answer.Refusal.{Refusal}
use Rattle.isa.specs.declared.parts.Parts.{Parts}
use Rattle.walk.specs.Walk.{limit}
use Rattle.comparison.specs.declared.Field.{Field}
use Rattle.comparison.specs.declared.Kernel.{Kernel}
use Rattle.comparison.specs.declared.Comparison.{Comparison}
use Rattle.difference.specs.First.{first_by}

-- what stands at a place of a code
abbrev pub Here : Type 0
Here = Result (Option (Parts × ℕ)) Refusal

-- how two walks go on, or the answer
abbrev pub Turn : Type 0 → Type 0
Turn On = ControlFlow Comparison On

-- kernels of these lengths
abbrev pub beginning : ℕ → ℕ → Turn ⊤
beginning first second =
    cond (leb first limit)
    (cond (leb second limit) (Continue tt) (Break (Comparison.Refused 0 (refusal 1) Kernel.Second)))
    (Break (Comparison.Refused 0 (refusal 1) Kernel.First))

-- two instructions, of which the first has n bytes
abbrev pub agreed : Option Field → ℕ → ℕ → Turn ℕ
agreed None n at = Continue n
agreed (Some f) n at = Break (Comparison.Differs at f)

-- the same, without which instruction it is
abbrev pub Standing : Type 0
Standing = Result (Option ⊤) Refusal

abbrev pub standing_of : Here → Standing
standing_of (Err r) = Err r
standing_of (Ok None) = Ok None
standing_of (Ok (Some x)) = Ok (Some tt)

-- with the difference of the two instructions, of which the first has n bytes
abbrev pub turn_by : Standing → Standing → Option Field → ℕ → ℕ → Turn ℕ
turn_by (Err r) two d n at = Break (Comparison.Refused at r Kernel.First)
turn_by (Ok None) (Err r) d n at = Break (Comparison.Refused at r Kernel.Second)
turn_by (Ok None) (Ok None) d n at = Break Comparison.Same
turn_by (Ok None) (Ok (Some y)) d n at = Break (Comparison.Ended at Kernel.First)
turn_by (Ok (Some x)) (Err r) d n at = Break (Comparison.Refused at r Kernel.Second)
turn_by (Ok (Some x)) (Ok None) d n at = Break (Comparison.Ended at Kernel.Second)
turn_by (Ok (Some x)) (Ok (Some y)) d n at = agreed d n at

abbrev pub turn_between : Here → Here → ℕ → Turn ℕ
turn_between (Err r) two at = Break (Comparison.Refused at r Kernel.First)
turn_between (Ok None) (Err r) at = Break (Comparison.Refused at r Kernel.Second)
turn_between (Ok None) (Ok None) at = Break Comparison.Same
turn_between (Ok None) (Ok (Some y)) at = Break (Comparison.Ended at Kernel.First)
turn_between (Ok (Some x)) (Err r) at = Break (Comparison.Refused at r Kernel.Second)
turn_between (Ok (Some x)) (Ok None) at = Break (Comparison.Ended at Kernel.Second)
turn_between (Ok (Some (p, n))) (Ok (Some (q, m))) at = agreed (first_by p n q m) n at
