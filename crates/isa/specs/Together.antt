-- Operands read together: each has to have a meaning; and going on with what was read, where it has one.
use Rattle.std.specs.Prelude.{ℕ, cond, Option, Some, None}
use Rattle.isa.specs.Operand.{means_condition}
use Rattle.isa.specs.declared.operand.Dst.{Dst}
use Rattle.isa.specs.declared.operand.Unary.{Unary}
use Rattle.isa.specs.declared.operand.Binary.{Binary}
use Rattle.isa.specs.declared.operand.Ternary.{Ternary}
use Rattle.isa.specs.declared.operand.Compared.{Compared}
use Rattle.isa.specs.Answer.{Reading}
use Rattle.isa.specs.declared.operand.Src.{Src}

unfoldable pub unary : Option Dst → Option Src → Option Unary
unary (Some d) (Some a) = Some (record { d = d; a = a })
unary (Some d) None = None
unary None a = None

unfoldable pub binary : Option Unary → Option Src → Option Binary
binary (Some o) (Some b) = Some (record { d = o.d; a = o.a; b = b })
binary (Some o) None = None
binary None b = None

unfoldable pub ternary : Option Binary → Option Src → Option Ternary
ternary (Some o) (Some c) = Some (record { d = o.d; a = o.a; b = o.b; c = c })
ternary (Some o) None = None
ternary None c = None

unfoldable pub compared : Option Src → Option Src → Option Compared
compared (Some a) (Some b) = Some (record { a = a; b = b })
compared (Some a) None = None
compared None b = None

-- ---- going on with what was read

unfoldable pub with_dst : Option Dst → (Dst → Reading) → Reading
with_dst (Some d) k = k d
with_dst None k = None

unfoldable pub with_unary : Option Unary → (Unary → Reading) → Reading
with_unary (Some o) k = k o
with_unary None k = None

unfoldable pub with_binary : Option Binary → (Binary → Reading) → Reading
with_binary (Some o) k = k o
with_binary None k = None

unfoldable pub with_ternary : Option Ternary → (Ternary → Reading) → Reading
with_ternary (Some o) k = k o
with_ternary None k = None

unfoldable pub with_compared : Option Compared → (Compared → Reading) → Reading
with_compared (Some o) k = k o
with_compared None k = None

-- ICondition(cc, ccn): a condition with no meaning leaves none to the instruction
unfoldable pub with_condition : ℕ → Reading → Reading
with_condition cc r = cond (means_condition cc) r None
