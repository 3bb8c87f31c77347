-- What an operation computes from the values of three sources, and which threads compare, by the definitions of the machine; which of the
-- three it looks at; and of which operands that is the definition: the bit sizes beside an operation are those of its operands, and each value is within its size.
use Rattle.std.specs.Prelude.{ℕ, ◌≤◌, ◌<◌, ◌^◌, ◌≡◌, Bool, true, false, List, [], get_or}
use Rattle.machine.specs.Step.{Result}
use Rattle.machine.specs.Meaning as meaning
use Rattle.operations.specs.declared.Sum.{Sum}
use Rattle.operations.specs.declared.Test.{Test}
use Rattle.operations.specs.declared.Operation.{Operation}

abbrev pub sum_of : Sum → meaning.Sum
sum_of o = record {
  S = o.saturate;
  N = o.negate;
  As = o.asigned;
  Bs = o.bsigned;
  Cs = o.csigned;
  shift = o.shift;
  size_a = o.asize;
  size_b = o.bsize;
  size_c = o.csize;
  size_d = o.dsize;
}

abbrev pub condition_of : Test → meaning.Condition
condition_of o = record { cc = o.cc; ccn = o.ccn; size_a = o.asize; size_b = o.bsize }

abbrev pub result_by : Operation → Result
result_by (Operation.Mov imm) = meaning.mov imm
result_by Operation.GetSr = meaning.get_sr
result_by (Operation.Iadd o) = meaning.iadd (sum_of o)
result_by (Operation.Imadd o) = meaning.imadd (sum_of o)
result_by (Operation.Bfi m) = meaning.bfi m
result_by (Operation.Bfeil m) = meaning.bfeil m
result_by (Operation.Extr m) = meaning.extr m
result_by (Operation.Shlhi m) = meaning.shlhi m
result_by (Operation.Shrhi m) = meaning.shrhi m
result_by (Operation.Asr size) = meaning.asr size
result_by (Operation.Asrh size) = meaning.asrh size
result_by (Operation.Bitop o) = meaning.bitop o.tt0 o.tt1 o.tt2 o.tt3
result_by Operation.Bitrev = meaning.bitrev
result_by Operation.Popcount = meaning.popcount
result_by Operation.Ffs = meaning.ffs
result_by (Operation.PopExec n) = meaning.pop_exec n
result_by (Operation.IfIcmp o) = meaning.if_icmp (condition_of o) o.n
result_by (Operation.WhileIcmp o) = meaning.while_icmp (condition_of o) o.n
result_by (Operation.ElseIcmp o) = meaning.else_icmp (condition_of o) o.n

-- ---- which threads compare, by their r0l

abbrev pub compares_by : Operation → ℕ → Bool
compares_by (Operation.Mov imm) = meaning.never_compares
compares_by Operation.GetSr = meaning.never_compares
compares_by (Operation.Iadd o) = meaning.never_compares
compares_by (Operation.Imadd o) = meaning.never_compares
compares_by (Operation.Bfi m) = meaning.never_compares
compares_by (Operation.Bfeil m) = meaning.never_compares
compares_by (Operation.Extr m) = meaning.never_compares
compares_by (Operation.Shlhi m) = meaning.never_compares
compares_by (Operation.Shrhi m) = meaning.never_compares
compares_by (Operation.Asr size) = meaning.never_compares
compares_by (Operation.Asrh size) = meaning.never_compares
compares_by (Operation.Bitop o) = meaning.never_compares
compares_by Operation.Bitrev = meaning.never_compares
compares_by Operation.Popcount = meaning.never_compares
compares_by Operation.Ffs = meaning.never_compares
compares_by (Operation.PopExec n) = meaning.never_compares
compares_by (Operation.IfIcmp o) = meaning.if_compares o.n
compares_by (Operation.WhileIcmp o) = meaning.while_compares o.n
compares_by (Operation.ElseIcmp o) = meaning.else_compares o.n

-- ---- which sources an operation looks at

pub record Looks : Type 0 where
  pub a : Bool
  pub b : Bool
  pub c : Bool

abbrev pub looks : Bool → Bool → Bool → Looks
looks a b c = record { a = a; b = b; c = c }

abbrev pub looks_by : Operation → Looks
looks_by (Operation.Mov imm) = looks false false false
looks_by Operation.GetSr = looks true false false
looks_by (Operation.Iadd o) = looks true true false
looks_by (Operation.Imadd o) = looks true true true
looks_by (Operation.Bfi m) = looks true true true
looks_by (Operation.Bfeil m) = looks true true true
looks_by (Operation.Extr m) = looks true true true
looks_by (Operation.Shlhi m) = looks true true true
looks_by (Operation.Shrhi m) = looks true true true
looks_by (Operation.Asr size) = looks true true false
looks_by (Operation.Asrh size) = looks true true false
looks_by (Operation.Bitop o) = looks true true false
looks_by Operation.Bitrev = looks true false false
looks_by Operation.Popcount = looks true false false
looks_by Operation.Ffs = looks true false false
looks_by (Operation.PopExec n) = looks false false true
looks_by (Operation.IfIcmp o) = looks true true true
looks_by (Operation.WhileIcmp o) = looks true true true
looks_by (Operation.ElseIcmp o) = looks true true true

-- ---- sizes and values

-- the bit sizes that an operation goes by; 64 where it goes by none. The factors of a product have 32 bits at most.
pub record Sizes : Type 0 where
  pub a : ℕ
  pub b : ℕ
  pub c : ℕ
  pub d : ℕ
  pub factor : ℕ

abbrev pub sizes : ℕ → ℕ → ℕ → ℕ → ℕ → Sizes
sizes a b c d factor = record { a = a; b = b; c = c; d = d; factor = factor }

abbrev pub any_sizes : Sizes
any_sizes = sizes 64 64 64 64 64

abbrev pub test_sizes : Test → Sizes
test_sizes o = sizes o.asize o.bsize 16 64 64

abbrev pub sizes_by : Operation → Sizes
sizes_by (Operation.Mov imm) = any_sizes
sizes_by Operation.GetSr = any_sizes
sizes_by (Operation.Iadd o) = sizes o.asize o.bsize 64 o.dsize 64
sizes_by (Operation.Imadd o) = sizes o.asize o.bsize o.csize o.dsize 32
sizes_by (Operation.Bfi m) = any_sizes
sizes_by (Operation.Bfeil m) = any_sizes
sizes_by (Operation.Extr m) = any_sizes
sizes_by (Operation.Shlhi m) = any_sizes
sizes_by (Operation.Shrhi m) = any_sizes
sizes_by (Operation.Asr size) = sizes size 64 64 64 64
sizes_by (Operation.Asrh size) = sizes size 64 64 64 64
sizes_by (Operation.Bitop o) = any_sizes
sizes_by Operation.Bitrev = any_sizes
sizes_by Operation.Popcount = any_sizes
sizes_by Operation.Ffs = any_sizes
sizes_by (Operation.PopExec n) = sizes 64 64 16 64 64
sizes_by (Operation.IfIcmp o) = test_sizes o
sizes_by (Operation.WhileIcmp o) = test_sizes o
sizes_by (Operation.ElseIcmp o) = test_sizes o

abbrev pub Sized : ℕ → Type 0
Sized size = (0 < size) × (size ≤ 64)

pub record SizedBy (o : Operation) : Type 0 where
  pub a : Sized (sizes_by o).a
  pub b : Sized (sizes_by o).b
  pub c : Sized (sizes_by o).c
  pub d : Sized (sizes_by o).d
  pub factors : ((sizes_by o).a ≤ (sizes_by o).factor) × ((sizes_by o).b ≤ (sizes_by o).factor)

-- the values of one thread are within their sizes
pub record ValuesWithin (o : Operation) (x y z : ℕ) : Type 0 where
  pub a : x < 2 ^ (sizes_by o).a
  pub b : y < 2 ^ (sizes_by o).b
  pub c : z < 2 ^ (sizes_by o).c

-- the values of a row have no more bits than the size
abbrev pub Within : List ℕ → ℕ → Type 0
Within row size = (t : ℕ) → t < 32 → get_or row t 0 < 2 ^ size

-- of each source that the operation looks at, the values of all 32 threads are within their size
pub record RowsWithin (o : Operation) (sources : List (List ℕ)) : Type 0 where
  pub a : (looks_by o).a ≡ true → Within (get_or sources 0 []) (sizes_by o).a
  pub b : (looks_by o).b ≡ true → Within (get_or sources 1 []) (sizes_by o).b
  pub c : (looks_by o).c ≡ true → Within (get_or sources 2 []) (sizes_by o).c
