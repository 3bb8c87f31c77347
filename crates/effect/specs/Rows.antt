-- What stands in the rows after a step. They stand until those of a later step take their place.
use Rattle.std.specs.Prelude.{ℕ, List}
use Rattle.machine.specs.Lanes.{tab}
use Rattle.machine.specs.Words.{Tables}
use Rattle.machine.specs.Step.{own_r0l}
use Rattle.machine.specs.declared.input.Input.{Input}
use Rattle.operations.specs.declared.Operation.{Operation}
use Rattle.operations.specs.declared.action.Kind.{Kind}
use Rattle.operations.specs.declared.action.Action.{Action}
use Rattle.alu.specs.Results.{result_at}
use Rattle.lanes.specs.Sources.{gather_over}
use Rattle.effect.specs.declared.Rows.{Rows}

-- after an operation on three sources
unfoldable pub worked_on : Operation → Tables → List ℕ → Input → Input → Input → Rows → Rows
worked_on o tables registers a b c r =
    let sources = gather_over tables registers a b c r.sources in
    record { sources = sources; values = tab 32 (result_at o sources) }

abbrev pub rows_for : Kind → Input → Input → Input → Operation → Tables → List ℕ → Rows → Rows
rows_for Kind.Writes a b c o tables registers r = worked_on o tables registers a b c r
rows_for Kind.Masks a b c o tables registers r = worked_on o tables registers a b own_r0l r
rows_for Kind.JumpsIfAny a b c o tables registers r = r
rows_for Kind.JumpsIfNone a b c o tables registers r = r

-- after an action
abbrev pub rows_after : Action → Tables → List ℕ → Rows → Rows
rows_after x tables registers r = rows_for x.kind x.a x.b x.c x.operation tables registers r
