-- Whether a source of an action has the hint discard.
use Rattle.std.specs.Prelude.{Bool, true, false}
use Rattle.isa.specs.declared.operand.Hint.{Hint}
use Rattle.machine.specs.Meaning.{either}
use Rattle.machine.specs.declared.input.Input.{Input}
use Rattle.operations.specs.declared.action.Action.{Action}

abbrev pub is_discard : Hint → Bool
is_discard Hint.None = false
is_discard Hint.Cache = false
is_discard Hint.Discard = true

abbrev pub hinted : Input → Bool
hinted Input.Nothing = false
hinted (Input.Operand a) = is_discard a.hint
hinted (Input.Special k) = false

abbrev pub discarding : Action → Bool
discarding x = either (hinted x.a) (either (hinted x.b) (hinted x.c))
