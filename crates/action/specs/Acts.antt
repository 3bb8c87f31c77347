-- An action that does what an instruction means, and its parts from the operands of the instruction.
use Rattle.std.specs.Prelude.{ℕ, ◌≤◌, ◌≡◌}
use Rattle.isa.specs.declared.operand.Destination.{Destination}
use Rattle.isa.specs.declared.operand.Dst.{Dst}
use Rattle.isa.specs.declared.operand.Binary.{Binary}
use Rattle.isa.specs.declared.operand.Ternary.{Ternary}
use Rattle.isa.specs.declared.instruction.Compare.{Compare}
use Rattle.isa.specs.declared.instruction.Instruction.{Instruction}
use Rattle.machine.specs.Words.{destination_size, source_size}
use Rattle.machine.specs.Meaning.{meaning_of, none, size}
use Rattle.machine.specs.declared.input.Input.{Input}
use Rattle.operations.specs.Action.{meaning_by, FittingBy}
use Rattle.operations.specs.declared.Sum.{Sum}
use Rattle.operations.specs.declared.Test.{Test}
use Rattle.operations.specs.declared.Operation.{Operation}
use Rattle.operations.specs.declared.action.Kind.{Kind}
use Rattle.operations.specs.declared.action.Action.{Action}

-- the factors of a multiplication are of 32 bits at most, as MulSrc has them
pub record Narrow (i : Instruction) : Type 0 where
  pub factors : (o : Ternary) (S N As Bs Cs shift kept : ℕ) → i ≡ Instruction.Imadd o S N As Bs Cs shift kept
      → (source_size o.a.source ≤ 32) × (source_size o.b.source ≤ 32)

-- an action that does what the instruction means
pub record Acts (r : Action) (i : Instruction) : Type 0 where
  pub meaning : meaning_by r ≡ meaning_of i
  pub fitting : FittingBy r

-- ---- the parts of an action, from the operands of an instruction

abbrev pub action_with : Kind → Destination → Input → Input → Input → Operation → ℕ → Action
action_with kind d a b c operation off = record { kind = kind; d = d; a = a; b = b; c = c; operation = operation; off = off }

abbrev pub writes_by : Dst → Input → Input → Input → Operation → Action
writes_by d a b c operation = action_with Kind.Writes d.destination a b c operation 0

abbrev pub masks_by : Input → Input → Operation → Action
masks_by a b operation = action_with Kind.Masks (Destination.Half 0) a b none operation 0

abbrev pub jumps_by : Kind → ℕ → Action
jumps_by kind off = action_with kind (Destination.Half 0) none none none (Operation.Mov 0) off

-- the flags of a sum and the bit sizes of its operands
abbrev pub sum_with : ℕ → ℕ → ℕ → ℕ → ℕ → ℕ → ℕ → ℕ → ℕ → ℕ → Sum
sum_with S N As Bs Cs shift a b c d = record {
  saturate = S;
  negate = N;
  asigned = As;
  bsigned = Bs;
  csigned = Cs;
  shift = shift;
  asize = a;
  bsize = b;
  csize = c;
  dsize = d;
}

-- of iadd, which has no C
abbrev pub sum_for : Binary → ℕ → ℕ → ℕ → ℕ → ℕ → Sum
sum_for o S N As Bs shift = sum_with S N As Bs 0 shift (size o.a) (size o.b) 0 (destination_size o.d.destination)

abbrev pub product_for : Ternary → ℕ → ℕ → ℕ → ℕ → ℕ → ℕ → Sum
product_for o S N As Bs Cs shift =
    sum_with S N As Bs Cs shift (size o.a) (size o.b) (size o.c) (destination_size o.d.destination)

abbrev pub test_for : Compare → Test
test_for o = record { cc = o.cc; ccn = o.ccn; asize = size o.operands.a; bsize = size o.operands.b; n = o.n }
