-- The meaning of an action.
use Rattle.std.specs.Prelude.{ℕ, ◌≤◌, ◌≡◌, true, false}
use Rattle.isa.specs.declared.operand.Destination.{Destination}
use Rattle.machine.specs.Integer.{sign_extend}
use Rattle.machine.specs.Words.{input_size}
use Rattle.machine.specs.Meaning.{Meaning, writes, masks, jumps}
use Rattle.machine.specs.Step.{own_r0l}
use Rattle.machine.specs.declared.input.Input.{Input}
use Rattle.operations.specs.Operation.{result_by, compares_by, looks_by, sizes_by, SizedBy}
use Rattle.operations.specs.declared.Operation.{Operation}
use Rattle.operations.specs.declared.action.Kind.{Kind}
use Rattle.operations.specs.declared.action.Action.{Action}

abbrev pub meaning_for : Kind → Destination → Input → Input → Input → Operation → ℕ → Meaning
meaning_for Kind.Writes d a b c operation off = writes d a b c (result_by operation)
meaning_for Kind.Masks d a b c operation off = masks (compares_by operation) a b (result_by operation)
meaning_for Kind.JumpsIfAny d a b c operation off = jumps true (sign_extend off 32)
meaning_for Kind.JumpsIfNone d a b c operation off = jumps false (sign_extend off 32)

abbrev pub meaning_by : Action → Meaning
meaning_by x = meaning_for x.kind x.d x.a x.b x.c x.operation x.off

-- there is a source, of no more bits than the size
pub record Fits (x : Input) (size : ℕ) : Type 0 where
  pub there : x ≡ Input.Nothing → ⊥
  pub narrow : input_size x ≤ size

-- so is each source that the operation looks at, by the size that the operation goes by
pub record Fitting (o : Operation) (x y z : Input) : Type 0 where
  pub sized : SizedBy o
  pub a : (looks_by o).a ≡ true → Fits x (sizes_by o).a
  pub b : (looks_by o).b ≡ true → Fits y (sizes_by o).b
  pub c : (looks_by o).c ≡ true → Fits z (sizes_by o).c

abbrev pub FittingFor : Kind → Input → Input → Input → Operation → Type 0
FittingFor Kind.Writes a b c operation = Fitting operation a b c
FittingFor Kind.Masks a b c operation = Fitting operation a b own_r0l
FittingFor Kind.JumpsIfAny a b c operation = Unit {0}
FittingFor Kind.JumpsIfNone a b c operation = Unit {0}

abbrev pub FittingBy : Action → Type 0
FittingBy x = FittingFor x.kind x.a x.b x.c x.operation
