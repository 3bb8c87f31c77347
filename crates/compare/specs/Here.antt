-- What stands at a place of a code, and the walks of two codes side by side, in the shape of the code. No entry point's promise cites
-- them.
use Rattle.std.specs.Prelude.{ℕ, cond, Some, None, Ok, Err, List, ltb, length, drop}
use Rattle.isa.specs.Answer.{Decoded}
use Rattle.isa.specs.Decode.{decode_of}
use Rattle.isa.specs.Parts.{parts_of}
use Rattle.walk.specs.Walk.{walk_from}
use Rattle.comparison.specs.Compare.{between}
use Rattle.comparison.specs.declared.Comparison.{Comparison}
use Rattle.turns.specs.Turn.{Here}

-- an instruction by its parts
abbrev pub here_by : Decoded → Here
here_by (Ok (i, n)) = Ok (Some (parts_of i, n))
here_by (Err r) = Err r

abbrev pub here_at : List ℕ → ℕ → Here
here_at code address = cond (ltb address (length code)) (here_by (decode_of (drop address code))) (Ok None)

-- from their starts, of codes of any length
abbrev pub walks_of : List ℕ → List ℕ → Comparison
walks_of first second = between (walk_from (length first) 0 first) (walk_from (length second) 0 second)
