-- What each instruction means for one thread: the pseudocode of document 002 after its operand lines, in document order. a, b and c
-- are the values that the thread reads, without sign; the result is an unbounded integer. In a mask instruction v is the thread's
-- r0l. Where the page as printed has two readings, or does not end, docs/DECISIONS.md says which is followed.
use Rattle.std.specs.Prelude.{ℕ, zero, suc, ◌+◌, ◌-◌, ◌/◌, ◌%◌, ◌^◌, min, Bool, true, false, cond, not, eqb, leb, ltb, ℤ, pos, negsuc, neg_ℤ, ◌+ℤ◌, ◌*ℤ◌}
use Rattle.std.specs.Int.Bits.{bit_and, bit_or}
use Rattle.std.specs.Int.Signed.{lt_z}
use Rattle.isa.specs.declared.operand.Destination.{Destination}
use Rattle.isa.specs.declared.operand.Dst.{Dst}
use Rattle.isa.specs.declared.operand.Src.{Src}
use Rattle.isa.specs.declared.operand.Unary.{Unary}
use Rattle.isa.specs.declared.operand.Binary.{Binary}
use Rattle.isa.specs.declared.operand.Ternary.{Ternary}
use Rattle.isa.specs.declared.instruction.Instruction.{Instruction}
use Rattle.isa.specs.declared.instruction.Compare.{Compare}
use Rattle.machine.specs.Integer.{◌<<◌, ◌>>◌, ~◌, ◌&◌, ◌∣◌, sign_extend, saturate_integer}
use Rattle.machine.specs.Words.{destination_size, source_size}
use Rattle.machine.specs.declared.input.Input.{Input}

abbrev pub both : Bool → Bool → Bool
both p q = cond p q false

abbrev pub either : Bool → Bool → Bool
either p q = cond p true q

-- a flag of one bit
abbrev pub is_set : ℕ → Bool
is_set bit = eqb bit 1

-- ---- Move Instructions

-- D.broadcast_to_active(imm16), D.broadcast_to_active(imm32)
unfoldable pub mov : ℕ → ℕ → ℕ → ℕ → ℤ
mov imm a b c = pos imm

-- D[thread] = SR.read(thread)
unfoldable pub get_sr : ℕ → ℕ → ℕ → ℤ
get_sr a b c = pos a

-- ---- Integer Arithmetic Instructions

-- AddSrc(v, t, s), MulSrc(v, t, s): sign-extended from the source's own bit size where s is 1
unfoldable pub extended : ℕ → ℕ → ℕ → ℤ
extended s size x = cond (is_set s) (sign_extend x size) (pos x)

-- if N == 1: b = -b
unfoldable pub negated : ℕ → ℤ → ℤ
negated N b = cond (is_set N) (neg_ℤ b) b

-- if shift < 5: b <<= shift, else: b = 0
unfoldable pub scaled : ℕ → ℤ → ℤ
scaled shift b = cond (ltb shift 5) (b << shift) (pos 0)

-- the flags of iadd and imadd, and the bit sizes of their operands; iadd has no C
pub record Sum : Type 0 where
  pub S : ℕ
  pub N : ℕ
  pub As : ℕ
  pub Bs : ℕ
  pub Cs : ℕ
  pub shift : ℕ
  pub size_a : ℕ
  pub size_b : ℕ
  pub size_c : ℕ
  pub size_d : ℕ

-- saturating = (S == 1 and shift == 0 and A.thread_bit_size <= 32 and B.thread_bit_size <= 32 and D.thread_bit_size <= 32)
-- signed = (As == 1 or Bs == 1)
unfoldable pub iadd : Sum → ℕ → ℕ → ℕ → ℤ
iadd o a b c =
    let saturating = both (is_set o.S) (both (eqb o.shift 0)
    (both (leb o.size_a 32) (both (leb o.size_b 32) (leb o.size_d 32)))) in
    let signed = either (is_set o.As) (is_set o.Bs) in
    let result = extended o.As o.size_a a +ℤ scaled o.shift (negated o.N (extended o.Bs o.size_b b)) in
    cond saturating (saturate_integer result o.size_d signed) result

-- saturating = (S == 1 and shift == 0 and C.thread_bit_size <= 32 and D.thread_bit_size <= 32)
-- signed = (As == 1 or Bs == 1 or Cs == 1)
unfoldable pub imadd : Sum → ℕ → ℕ → ℕ → ℤ
imadd o a b c =
    let saturating = both (is_set o.S) (both (eqb o.shift 0) (both (leb o.size_c 32) (leb o.size_d 32))) in
    let signed = either (is_set o.As) (either (is_set o.Bs) (is_set o.Cs)) in
    let product = extended o.As o.size_a a *ℤ extended o.Bs o.size_b b in
    let result = product +ℤ scaled o.shift (negated o.N (extended o.Cs o.size_c c)) in
    cond saturating (saturate_integer result o.size_d signed) result

-- ---- Shift/Bitfield Instructions

-- shift_amount = (c & 0x7F)
abbrev pub shift_amount : ℕ → ℕ
shift_amount c = bit_and c 127

-- if m == 0: mask = 0xFFFFFFFF, else: mask = (1 << m) - 1
abbrev pub mask_of : ℕ → ℤ
mask_of m = pos (cond (eqb m 0) 4294967295 (2 ^ m - 1))

-- result = (a & ~(mask << shift_amount)) | ((b & mask) << shift_amount)
unfoldable pub bfi : ℕ → ℕ → ℕ → ℕ → ℤ
bfi m a b c = (pos a & ~ (mask_of m << shift_amount c)) ∣ ((pos b & mask_of m) << shift_amount c)

-- result = (a & ~mask) | ((b >> shift_amount) & mask)
unfoldable pub bfeil : ℕ → ℕ → ℕ → ℕ → ℤ
bfeil m a b c = (pos a & ~ mask_of m) ∣ ((pos b >> shift_amount c) & mask_of m)

-- result = (((b << 32) | a) >> shift_amount) & mask
unfoldable pub extr : ℕ → ℕ → ℕ → ℕ → ℤ
extr m a b c = (((pos b << 32) ∣ pos a) >> shift_amount c) & mask_of m

-- shifted_mask = mask << max(shift_amount-32, 0)
-- result = (((b << shift_amount) >> 32) & shifted_mask) | (a & ~shifted_mask)
unfoldable pub shlhi : ℕ → ℕ → ℕ → ℕ → ℤ
shlhi m a b c =
    let shifted_mask = mask_of m << (shift_amount c - 32) in
    (((pos b << shift_amount c) >> 32) & shifted_mask) ∣ (pos a & ~ shifted_mask)

-- shifted_mask = (mask << 32) >> min(shift_amount, 32)
-- result = (((b << 32) >> shift_amount) & shifted_mask) | (a & ~shifted_mask)
unfoldable pub shrhi : ℕ → ℕ → ℕ → ℕ → ℤ
shrhi m a b c =
    let shifted_mask = (mask_of m << 32) >> min (shift_amount c) 32 in
    (((pos b << 32) >> shift_amount c) & shifted_mask) ∣ (pos a & ~ shifted_mask)

-- shift_amount = (b & 0x7F)
-- result = sign_extend(a, A.thread_bit_size) >> shift_amount
unfoldable pub asr : ℕ → ℕ → ℕ → ℕ → ℤ
asr size_a a b c = sign_extend a size_a >> shift_amount b

-- result = (sign_extend(a, A.thread_bit_size) << 32) >> shift_amount
unfoldable pub asrh : ℕ → ℕ → ℕ → ℕ → ℤ
asrh size_a a b c = (sign_extend a size_a << 32) >> shift_amount b

-- ---- Bit Manipulation Instructions

-- if tt0 == tt1 and tt2 == tt3 and tt0 != tt2: UNDEFINED(), result = a
-- else: result = 0; if tt0: result |= ~a & ~b; if tt1: result |= a & ~b; if tt2: result |= ~a & b; if tt3: result |= a & b
unfoldable pub bitop : ℕ → ℕ → ℕ → ℕ → ℕ → ℕ → ℕ → ℤ
bitop tt0 tt1 tt2 tt3 a b c =
    cond (both (eqb tt0 tt1) (both (eqb tt2 tt3) (not (eqb tt0 tt2)))) (pos a)
    (pos 0
    ∣ cond (is_set tt0) (~ (pos a) & ~ (pos b)) (pos 0)
    ∣ cond (is_set tt1) (pos a & ~ (pos b)) (pos 0)
    ∣ cond (is_set tt2) (~ (pos a) & pos b) (pos 0)
    ∣ cond (is_set tt3) (pos a & pos b) (pos 0))

-- a & (1 << i)
abbrev pub has_bit : ℕ → ℕ → Bool
has_bit a i = eqb (a / 2 ^ i % 2) 1

-- for each i below n, if a & (1 << i): result |= (1 << (31-i))
unfoldable pub reversed : ℕ → ℕ → ℕ
reversed zero a = 0
reversed (suc i) a = bit_or (reversed i a) (cond (has_bit a i) (2 ^ (31 - i)) 0)

unfoldable pub bitrev : ℕ → ℕ → ℕ → ℤ
bitrev a b c = pos (reversed 32 a)

-- for each i below n, if a & (1 << i): result += 1
unfoldable pub counted : ℕ → ℕ → ℕ
counted zero a = 0
counted (suc i) a = counted i a + cond (has_bit a i) 1 0

unfoldable pub popcount : ℕ → ℕ → ℕ → ℤ
popcount a b c = pos (counted 32 a)

-- result = -1; for each i below n, downwards, if a & (1 << i): result = i, break
unfoldable pub highest : ℕ → ℕ → ℤ
highest zero a = negsuc 0
highest (suc i) a = cond (has_bit a i) (pos i) (highest i a)

unfoldable pub ffs : ℕ → ℕ → ℕ → ℤ
ffs a b c = highest 32 a

-- ---- Flow Control: pop_exec, if_icmp, while_icmp and else_icmp; the result is what r0l becomes, before it is kept modulo 65536

-- v -= n; if v < 0: v = 0
unfoldable pub pop_exec : ℕ → ℕ → ℕ → ℕ → ℤ
pop_exec n a b v =
    let less = pos v +ℤ neg_ℤ (pos n) in
    cond (lt_z less (pos 0)) (pos 0) less

-- ICondition(cc, ccn): equal, less, greater; from 100 on of values that are sign-extended from their own bit size
abbrev pub compared : ℕ → ℤ → ℤ → Bool
compared relation x y =
    cond (eqb relation 0) (both (not (lt_z x y)) (not (lt_z y x))) (cond (eqb relation 1) (lt_z x y) (lt_z y x))

-- the condition and the bit sizes of what it compares; ccn = 1 turns the answer round
pub record Condition : Type 0 where
  pub cc : ℕ
  pub ccn : ℕ
  pub size_a : ℕ
  pub size_b : ℕ

unfoldable pub holds : Condition → ℕ → ℕ → Bool
holds o a b =
    let signed = o.cc / 4 in
    let answer = compared (o.cc % 4) (extended signed o.size_a a) (extended signed o.size_b b) in
    cond (is_set o.ccn) (not answer) answer

-- if v != 0: v += n, elif not cc.compare(A[thread], B[thread]): v = 1
unfoldable pub if_icmp : Condition → ℕ → ℕ → ℕ → ℕ → ℤ
if_icmp o n a b v = cond (not (eqb v 0)) (pos (v + n)) (cond (not (holds o a b)) (pos 1) (pos v))

-- if v < n: if cc.compare(A[thread], B[thread]): v = 0, else: v = n
unfoldable pub while_icmp : Condition → ℕ → ℕ → ℕ → ℕ → ℤ
while_icmp o n a b v = cond (ltb v n) (cond (holds o a b) (pos 0) (pos n)) (pos v)

-- if v == 0: v = n, elif v == 1: if cc.compare(A[thread], B[thread]): v = 0, else: v = 1
unfoldable pub else_icmp : Condition → ℕ → ℕ → ℕ → ℕ → ℤ
else_icmp o n a b v = cond (eqb v 0) (pos n) (cond (eqb v 1) (cond (holds o a b) (pos 0) (pos 1)) (pos v))

-- ---- which threads compare: those whose r0l, v, leads to cc.compare(A[thread], B[thread]) above

-- if v != 0: ..; elif not cc.compare(..)
abbrev pub if_compares : ℕ → ℕ → Bool
if_compares n v = eqb v 0

-- if v < n: if cc.compare(..)
abbrev pub while_compares : ℕ → ℕ → Bool
while_compares n v = ltb v n

-- if v == 0: ..; elif v == 1: if cc.compare(..)
abbrev pub else_compares : ℕ → ℕ → Bool
else_compares n v = eqb v 1

abbrev pub never_compares : ℕ → Bool
never_compares v = false

-- ---- the meaning of an instruction

pub data Meaning : Type 0 where
  -- for each active thread: D[thread] = result
  writes : Destination → Input → Input → Input → (ℕ → ℕ → ℕ → ℤ) → Meaning
  -- for each thread: v = D[thread], D[thread] = result, exec_mask[thread] = (result == 0); A and B are compared by the threads with
  -- these v
  masks : (ℕ → Bool) → Input → Input → (ℕ → ℕ → ℕ → ℤ) → Meaning
  -- if any(exec_mask), or if not any(exec_mask): next_pc = pc + offset
  jumps : Bool → ℤ → Meaning

-- ---- the operands of an instruction

abbrev pub input : Src → Input
input a = Input.Operand a

abbrev pub none : Input
none = Input.Nothing

abbrev pub size : Src → ℕ
size a = source_size a.source

abbrev pub no_sources : Dst → (ℕ → ℕ → ℕ → ℤ) → Meaning
no_sources d result = writes d.destination none none none result

abbrev pub one_source : Unary → (ℕ → ℕ → ℕ → ℤ) → Meaning
one_source o result = writes o.d.destination (input o.a) none none result

abbrev pub two_sources : Binary → (ℕ → ℕ → ℕ → ℤ) → Meaning
two_sources o result = writes o.d.destination (input o.a) (input o.b) none result

abbrev pub three-sources : Ternary → (ℕ → ℕ → ℕ → ℤ) → Meaning
three-sources o result = writes o.d.destination (input o.a) (input o.b) (input o.c) result

abbrev pub comparison : Compare → (ℕ → ℕ → Bool) → (Condition → ℕ → ℕ → ℕ → ℕ → ℤ) → Meaning
comparison o compares result =
    let a = o.operands.a in
    let b = o.operands.b in
    masks (compares o.n) (input a) (input b) (result (record { cc = o.cc; ccn = o.ccn; size_a = size a; size_b = size b }) o.n)

-- ---- the 22 instructions, in document order

unfoldable pub meaning_of : Instruction → Meaning
meaning_of (Instruction.Mov16 d imm16 l k) = no_sources d (mov imm16)
meaning_of (Instruction.Mov32 d imm32 l k) = no_sources d (mov imm32)
meaning_of (Instruction.GetSr d sr k) = writes d.destination (Input.Special sr) none none get_sr
meaning_of (Instruction.Iadd o S N As Bs shift k) =
    two_sources o (iadd record {
      S = S;
      N = N;
      As = As;
      Bs = Bs;
      Cs = 0;
      shift = shift;
      size_a = size o.a;
      size_b = size o.b;
      size_c = 0;
      size_d = destination_size o.d.destination;
    })
meaning_of (Instruction.Imadd o S N As Bs Cs shift k) =
    three-sources o (imadd record {
      S = S;
      N = N;
      As = As;
      Bs = Bs;
      Cs = Cs;
      shift = shift;
      size_a = size o.a;
      size_b = size o.b;
      size_c = size o.c;
      size_d = destination_size o.d.destination;
    })
meaning_of (Instruction.Bfi o) = three-sources o.operands (bfi o.m)
meaning_of (Instruction.Bfeil o) = three-sources o.operands (bfeil o.m)
meaning_of (Instruction.Extr o) = three-sources o.operands (extr o.m)
meaning_of (Instruction.Shlhi o) = three-sources o.operands (shlhi o.m)
meaning_of (Instruction.Shrhi o) = three-sources o.operands (shrhi o.m)
meaning_of (Instruction.Asr o) = two_sources o.operands (asr (size o.operands.a))
meaning_of (Instruction.Asrh o) = two_sources o.operands (asrh (size o.operands.a))
meaning_of (Instruction.Bitop o tt0 tt1 tt2 tt3 k) = two_sources o (bitop tt0 tt1 tt2 tt3)
meaning_of (Instruction.Bitrev o) = one_source o.operands bitrev
meaning_of (Instruction.Popcount o) = one_source o.operands popcount
meaning_of (Instruction.Ffs o) = one_source o.operands ffs
meaning_of (Instruction.JmpExecAny off) = jumps true (sign_extend off 32)
meaning_of (Instruction.JmpExecNone off) = jumps false (sign_extend off 32)
meaning_of (Instruction.PopExec hint n k) = masks never_compares none none (pop_exec n)
meaning_of (Instruction.IfIcmp o) = comparison o if_compares if_icmp
meaning_of (Instruction.WhileIcmp o) = comparison o while_compares while_icmp
meaning_of (Instruction.ElseIcmp o) = comparison o else_compares else_icmp
