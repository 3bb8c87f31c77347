-- Operands: which register, uniform or immediate the joined number v and the flags t of an operand name, with its hint.
-- Follows the operand descriptions of document 002 as docs/DECISIONS.md has them, entry 1.
use Rattle.std.specs.Prelude.{ℕ, ◌+◌, ◌*◌, ◌/◌, ◌%◌, Bool, true, false, cond, not, eqb, Option, Some, None}
use Rattle.isa.specs.Bits.{Bits}
use Rattle.isa.specs.declared.operand.Destination.{Destination}
use Rattle.isa.specs.declared.operand.Source.{Source}
use Rattle.isa.specs.declared.operand.Hint.{Hint}
use Rattle.isa.specs.declared.operand.Dst.{Dst}
use Rattle.isa.specs.declared.operand.Src.{Src}

-- ---- hints

-- the one bit of a destination
abbrev pub cache_hint : ℕ → Hint
cache_hint b = cond (eqb b 1) Hint.Cache Hint.None

-- the low two flags of a register that is read: 01 none, 10 cache, 11 discard
abbrev pub source_hint : ℕ → Hint
source_hint h = cond (eqb h 2) Hint.Cache (cond (eqb h 3) Hint.Discard Hint.None)

-- ---- destinations

abbrev pub dst : Destination → Hint → Option Dst
dst d h = Some (record { destination = d; hint = h })

-- Dt bit 0 is the cache hint. Dt bit 1: 0, the half v; 1 and v even, the register v/2; 1 and v odd, in a place that takes 64 bits,
-- the pair that starts at (v-1)/2
unfoldable pub destination_of : Bool → ℕ → ℕ → Option Dst
destination_of wide v t =
    cond (eqb (t / 2) 0)
    (dst (Destination.Half v) (cache_hint (t % 2)))
    (cond (eqb (v % 2) 0)
    (dst (Destination.Register (v / 2)) (cache_hint (t % 2)))
    (cond wide (dst (Destination.Pair (v / 2)) (cache_hint (t % 2))) None))

abbrev pub ALUDst : Bits → Bits → Option Dst
ALUDst v t = destination_of false v.value t.value

abbrev pub ALUDst64 : Bits → Bits → Option Dst
ALUDst64 v t = destination_of true v.value t.value

-- ---- sources

abbrev pub src : Source → Hint → Option Src
src s h = Some (record { source = s; hint = h })

-- t3 t2 = 01: u = v + 256 x t0. t1 = 0, the half u; t1 = 1 and u even, the register u/2; t1 = 1 and u odd, in a place that takes
-- 64 bits, the pair that starts at (u-1)/2, unless that is u255
unfoldable pub uniform_of : Bool → ℕ → ℕ → Option Src
uniform_of wide u t1 =
    cond (eqb t1 0)
    (src (Source.UniformHalf u) Hint.None)
    (cond (eqb (u % 2) 0)
    (src (Source.UniformRegister (u / 2)) Hint.None)
    (cond (eqb (u / 2) 255) None
    (cond wide (src (Source.UniformPair (u / 2)) Hint.None) None)))

-- t3 t2 = 00: the immediate v where the hint bits t1 t0 are 00, else the half v; 01: a uniform; 10 and 11, with a hint and v even:
-- the register v/2, and in a place that takes 64 bits the pair that starts there
unfoldable pub source_of : Bool → ℕ → ℕ → Option Src
source_of wide v t =
    cond (eqb (t / 4) 0)
    (cond (eqb (t % 4) 0) (src (Source.Immediate v) Hint.None) (src (Source.Half v) (source_hint (t % 4))))
    (cond (eqb (t / 4) 1)
    (uniform_of wide (v + 256 * (t % 2)) (t / 2 % 2))
    (cond (eqb (t % 4) 0) None
    (cond (eqb (v % 2) 1) None
    (cond (eqb (t / 4) 2)
    (src (Source.Register (v / 2)) (source_hint (t % 4)))
    (cond wide (src (Source.Pair (v / 2)) (source_hint (t % 4))) None)))))

abbrev pub ALUSrc : Bits → Bits → Option Src
ALUSrc v t = source_of false v.value t.value

-- AddSrc(v, t, s) and MulSrc(v, t, s): s says how the value is read, and not which
abbrev pub AddSrc : Bits → Bits → Option Src
AddSrc v t = source_of true v.value t.value

abbrev pub MulSrc : Bits → Bits → Option Src
MulSrc v t = source_of false v.value t.value

-- ---- conditions

-- ICondition(cc, ccn): 011 and 111 have no meaning
abbrev pub means_condition : ℕ → Bool
means_condition cc = not (eqb (cc % 4) 3)
