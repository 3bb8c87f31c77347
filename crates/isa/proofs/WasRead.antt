-- What holds of whatever is read: going on with operands keeps it, and operands that were read together were each read.
use Rattle.std.proofs.Common.{Option, Some, None}
use mathlib.Core.Path.{◌≡◌, refl, ap, subst}
use mathlib.Core.Bool.{Bool, true, false, cond}
use Prim.Native.Nat.{ℕ}
use native.Mathlib.Omega.{arith}
use Rattle.isa.specs.Operand.{means_condition}
use Rattle.isa.specs.Together.{unary, binary, ternary, compared, with_dst, with_unary, with_binary, with_ternary, with_compared, with_condition}
use Rattle.isa.specs.declared.operand.Dst.{Dst}
use Rattle.isa.specs.declared.operand.Unary.{Unary}
use Rattle.isa.specs.declared.operand.Binary.{Binary}
use Rattle.isa.specs.declared.operand.Ternary.{Ternary}
use Rattle.isa.specs.declared.operand.Compared.{Compared}
use Rattle.isa.specs.declared.instruction.Instruction.{Instruction}
use Rattle.isa.specs.Answer.{Reading}
use Rattle.isa.specs.declared.operand.Src.{Src}

-- what was read, if anything, has the property P
pub record Reads (P : Instruction → Type 0) (r : Reading) : Type 0 where
  pub holds : (i : Instruction) → r ≡ Some i → P i

module _ (P : Instruction → Type 0) where
  pub none_reads : Reads P None
  none_reads = record { holds = λ i e. let z : ◌≡◌ {A = ℕ} 0 1 = cc in absurd (omega arith) }

  pub is_reads : (j : Instruction) → P j → Reads P (Some j)
  is_reads j h = record { holds = λ i e. let z : j ≡ i = cc in subst P z h }

  pub on_dst : (r : Option Dst) (k : Dst → Reading) → ((d : Dst) → r ≡ Some d → Reads P (k d)) → Reads P (with_dst r k)
  unfolding with_dst
  on_dst (Some d) k h = h d refl
  on_dst None k h = none_reads

  pub on_unary : (r : Option Unary) (k : Unary → Reading) → ((o : Unary) → r ≡ Some o → Reads P (k o)) → Reads P (with_unary r k)
  unfolding with_unary
  on_unary (Some o) k h = h o refl
  on_unary None k h = none_reads

  pub on_binary : (r : Option Binary) (k : Binary → Reading) → ((o : Binary) → r ≡ Some o → Reads P (k o)) → Reads P (with_binary r k)
  unfolding with_binary
  on_binary (Some o) k h = h o refl
  on_binary None k h = none_reads

  pub on_ternary : (r : Option Ternary) (k : Ternary → Reading) → ((o : Ternary) → r ≡ Some o → Reads P (k o)) → Reads P (with_ternary r k)
  unfolding with_ternary
  on_ternary (Some o) k h = h o refl
  on_ternary None k h = none_reads

  pub on_compared : (r : Option Compared) (k : Compared → Reading) → ((o : Compared) → r ≡ Some o → Reads P (k o))
      → Reads P (with_compared r k)
  unfolding with_compared
  on_compared (Some o) k h = h o refl
  on_compared None k h = none_reads

  pub on_condition : (cc : ℕ) (r : Reading) → (means_condition cc ≡ true → Reads P r) → Reads P (with_condition cc r)
  unfolding with_condition
  on_condition cc r h = go (means_condition cc) refl
    where
      go : (b : Bool) → means_condition cc ≡ b → Reads P (cond b r None)
      go true e = h e
      go false e = none_reads

-- ---- operands that were read together

-- the destination and the sources were read as these
abbrev pub OfUnary : Option Dst → Option Src → Unary → Type 0
OfUnary d a o = (d ≡ Some o.d) × (a ≡ Some o.a)

pub of-unary : (d : Option Dst) (a : Option Src) (o : Unary) → unary d a ≡ Some o → OfUnary d a o
unfolding unary
of-unary (Some d) (Some a) o e =
    let z : ◌≡◌ {A = Unary} (record { d = d; a = a }) o = cc in
    (ap (λ (x : Unary). Some x.d) z, ap (λ (x : Unary). Some x.a) z)
of-unary (Some d) None o e = let z : ◌≡◌ {A = ℕ} 0 1 = cc in absurd (omega arith)
of-unary None a o e = let z : ◌≡◌ {A = ℕ} 0 1 = cc in absurd (omega arith)

abbrev pub OfBinary : Option Dst → Option Src → Option Src → Binary → Type 0
OfBinary d a b o = (d ≡ Some o.d) × (a ≡ Some o.a) × (b ≡ Some o.b)

joined-binary : (u : Option Unary) (b : Option Src) (o : Binary) → binary u b ≡ Some o
    → (u ≡ Some (record { d = o.d; a = o.a })) × (b ≡ Some o.b)
unfolding binary
joined-binary (Some u) (Some b) o e =
    let z : ◌≡◌ {A = Binary} (record { d = u.d; a = u.a; b = b }) o = cc in
    (ap (λ (x : Binary). Some (record { d = x.d; a = x.a })) z, ap (λ (x : Binary). Some x.b) z)
joined-binary (Some u) None o e = let z : ◌≡◌ {A = ℕ} 0 1 = cc in absurd (omega arith)
joined-binary None b o e = let z : ◌≡◌ {A = ℕ} 0 1 = cc in absurd (omega arith)

pub of-binary : (d : Option Dst) (a b : Option Src) (o : Binary) → binary (unary d a) b ≡ Some o → OfBinary d a b o
of-binary d a b o e =
    let q = joined-binary (unary d a) b o e in
    let u = of-unary d a (record { d = o.d; a = o.a }) q.0 in
    (u.0, u.1, q.1)

abbrev pub OfTernary : Option Dst → Option Src → Option Src → Option Src → Ternary → Type 0
OfTernary d a b c o = (d ≡ Some o.d) × (a ≡ Some o.a) × (b ≡ Some o.b) × (c ≡ Some o.c)

joined-ternary : (u : Option Binary) (c : Option Src) (o : Ternary) → ternary u c ≡ Some o
    → (u ≡ Some (record { d = o.d; a = o.a; b = o.b })) × (c ≡ Some o.c)
unfolding ternary
joined-ternary (Some u) (Some c) o e =
    let z : ◌≡◌ {A = Ternary} (record { d = u.d; a = u.a; b = u.b; c = c }) o = cc in
    (ap (λ (x : Ternary). Some (record { d = x.d; a = x.a; b = x.b })) z, ap (λ (x : Ternary). Some x.c) z)
joined-ternary (Some u) None o e = let z : ◌≡◌ {A = ℕ} 0 1 = cc in absurd (omega arith)
joined-ternary None c o e = let z : ◌≡◌ {A = ℕ} 0 1 = cc in absurd (omega arith)

pub of-ternary : (d : Option Dst) (a b c : Option Src) (o : Ternary) → ternary (binary (unary d a) b) c ≡ Some o → OfTernary d a b c o
of-ternary d a b c o e =
    let q = joined-ternary (binary (unary d a) b) c o e in
    let u = of-binary d a b (record { d = o.d; a = o.a; b = o.b }) q.0 in
    (u.0, u.1, u.2, q.1)

abbrev pub OfCompared : Option Src → Option Src → Compared → Type 0
OfCompared a b o = (a ≡ Some o.a) × (b ≡ Some o.b)

pub of-compared : (a b : Option Src) (o : Compared) → compared a b ≡ Some o → OfCompared a b o
unfolding compared
of-compared (Some a) (Some b) o e =
    let z : ◌≡◌ {A = Compared} (record { a = a; b = b }) o = cc in
    (ap (λ (x : Compared). Some x.a) z, ap (λ (x : Compared). Some x.b) z)
of-compared (Some a) None o e = let z : ◌≡◌ {A = ℕ} 0 1 = cc in absurd (omega arith)
of-compared None b o e = let z : ◌≡◌ {A = ℕ} 0 1 = cc in absurd (omega arith)
