-- The first difference by the list of the definition is the one that the code's tests find, one after the other, in the parts of the
-- two instructions; and where there is none, the lengths are equal.
use mathlib.Core.Path.{◌≡◌, refl, sym, ap, ap₂, ◌∙◌}
use Rattle.std.specs.Prelude.{Option, Some, None}
use mathlib.Core.Bool.{Bool, true, false, cond, ◌&&◌}
use mathlib.Core.List.{List, [], ◌∷◌, map}
use Prim.Native.Nat.{ℕ, ◌-◌, ◌/◌, ◌%◌, ◌<◌}
use Prim.Native.String.{String}
use native.Mathlib.Omega.{arith}
use lib.Dec.{eqb}
use lib.ListN.{get_or}
use borrow.Author.Tests.{eqb-true, eq-eqb, ne_eqb}
use Rattle.bits.specs.Lists.{eq_list}
use Rattle.bits.proofs.Lists.{eq_list-is, eq_list_self}
use Rattle.isa.specs.Rows.{rows}
use Rattle.isa.specs.Parts.{parts_of}
use Rattle.isa.specs.declared.parts.Slot.{Slot}
use Rattle.isa.specs.declared.parts.Parts.{Parts}
use Rattle.isa.specs.declared.instruction.Instruction.{Instruction}
use Rattle.isa.proofs.Placed.{kind_within}
use Rattle.encoding.specs.Write.{fields_for}
use Rattle.comparison.specs.Order.{Entry, others, order, agrees, first_of, difference_of, fields_of, named}
use Rattle.comparison.specs.declared.Field.{Field}
use Rattle.difference.specs.First.{◌or◌, unless, same_operand, number_for, first_by}

-- ---- the fields of an instruction are in its parts

abbrev pub names : List String
names =
    "L" ∷ "imm16" ∷ "imm32" ∷ "SRx" ∷ "SR" ∷ "S" ∷ "As" ∷ "N" ∷ "Bs" ∷ "s2" ∷ "s1" ∷ "Cs" ∷ "m3" ∷ "m2" ∷ "m1" ∷ "tt0" ∷ "tt1" ∷ "tt2"
    ∷ "tt3" ∷ "off" ∷ "ccn" ∷ "n" ∷ "cc" ∷ []

-- joined fields, SRx:SR, s2:s1 and m3:m2:m1: what each holds of the number
abbrev pub sr_fields : ℕ → List ℕ
sr_fields x = x / 64 ∷ x % 64 ∷ []

abbrev pub shift_fields : ℕ → List ℕ
shift_fields x = x / 2 ∷ x % 2 ∷ []

abbrev pub mFields : ℕ → List ℕ
mFields x = x / 16 ∷ x / 4 % 4 ∷ x % 4 ∷ []

abbrev pub told : Parts → List ℕ
told p =
    p.l ∷ number_for 1 1 p ∷ number_for 2 2 p ∷ number_for 3 3 p / 64 ∷ number_for 3 3 p % 64
    ∷ p.signs.saturate ∷ p.signs.sa ∷ p.signs.negate ∷ p.signs.sb ∷ p.signs.shift / 2 ∷ p.signs.shift % 2 ∷ p.signs.sc
    ∷ p.m / 16 ∷ p.m / 4 % 4 ∷ p.m % 4 ∷ p.truth.tt0 ∷ p.truth.tt1 ∷ p.truth.tt2 ∷ p.truth.tt3
    ∷ number_for 17 18 p ∷ p.condition.ccn ∷ p.condition.n ∷ p.condition.cc ∷ []

pub in_parts : (i : Instruction) → fields_of names i ≡ told (parts_of i)
unfolding fields_for parts_of
in_parts (Instruction.Mov16 d imm l kept) = refl
in_parts (Instruction.Mov32 d imm l kept) = refl
in_parts (Instruction.GetSr d sr kept) = refl
in_parts (Instruction.Iadd o s n sa sb shift kept) = refl
in_parts (Instruction.Imadd o s n sa sb sc shift kept) = refl
in_parts (Instruction.Bfi x) = refl
in_parts (Instruction.Bfeil x) = refl
in_parts (Instruction.Extr x) = refl
in_parts (Instruction.Shlhi x) = refl
in_parts (Instruction.Shrhi x) = refl
in_parts (Instruction.Asr x) = refl
in_parts (Instruction.Asrh x) = refl
in_parts (Instruction.Bitop o t0 t1 t2 t3 kept) = refl
in_parts (Instruction.Bitrev x) = refl
in_parts (Instruction.Popcount x) = refl
in_parts (Instruction.Ffs x) = refl
in_parts (Instruction.JmpExecAny off) = refl
in_parts (Instruction.JmpExecNone off) = refl
in_parts (Instruction.PopExec h n kept) = refl
in_parts (Instruction.IfIcmp x) = refl
in_parts (Instruction.WhileIcmp x) = refl
in_parts (Instruction.ElseIcmp x) = refl

-- ---- tests one after the other

record Test : Type 0 where
  same : Bool
  field : Field

abbrev test : Bool → Field → Test
test s f = record { same = s; field = f }

tests : List Test → Option Field
tests [] = None
tests (t ∷ ts) = cond t.same (tests ts) (Some t.field)

-- the list of the definition, as tests
test_of : Instruction → ℕ → Instruction → ℕ → Entry → Test
test_of i n j m e = test (agrees e i n j m) e.called

first_tests : (es : List Entry) (i : Instruction) (n : ℕ) (j : Instruction) (m : ℕ)
    → first_of es i n j m ≡ tests (map (test_of i n j m) es)
unfolding test_of tests
first_tests [] i n j m = refl
first_tests (e ∷ es) i n j m =
    ap (λ (d : Option Field). cond (agrees e i n j m) d (Some e.called)) (first_tests es i n j m)

-- what is found first, by a test and then the others
before : (s : Bool) (f : Field) (d : Option Field) → (unless s f or d) ≡ cond s d (Some f)
before true f d = refl
before false f d = refl

grouped : (d e g : Option Field) → (d or e or g) ≡ (d or (e or g))
grouped None e g = refl
grouped (Some f) e g = refl

-- ---- a test of the list is a test of the code

one : (s : Bool) → (s && true) ≡ s
one true = refl
one false = refl

pair : (s t : Bool) → (s && (t && true)) ≡ (s && t)
pair true t = one t
pair false t = refl

operand : (x y : Slot) → eq_list (named x) (named y) ≡ same_operand x y
operand x y = pair (eqb x.kind y.kind) (eqb x.number y.number)

-- numbers that determine x, and that x determines
joined : (f : ℕ → List ℕ) → ((x y : ℕ) → f x ≡ f y → x ≡ y) → (x y : ℕ) → eq_list (f x) (f y) ≡ eqb x y
joined f injective x y = go (eq_list (f x) (f y)) refl (eqb x y) refl
  where
    go : (s : Bool) → eq_list (f x) (f y) ≡ s → (t : Bool) → eqb x y ≡ t → s ≡ t
    go true e true g = refl
    go true e false g =
        let z : false ≡ true = sym g ∙ eq-eqb x y (injective x y (eq_list-is (f x) (f y) e)) in
        let w : ◌≡◌ {A = ℕ} 0 1 = cc in
        absurd (omega arith)
    go false e true g =
        let z : false ≡ true = sym e ∙ ap (λ (k : ℕ). eq_list (f x) (f k)) (sym (eqb-true x y g)) ∙ eq_list_self (f x) in
        let w : ◌≡◌ {A = ℕ} 0 1 = cc in
        absurd (omega arith)
    go false e false g = refl

abbrev nth : ℕ → List ℕ → ℕ
nth k l = get_or l k 0

by_sr : (x y : ℕ) → eq_list (sr_fields x) (sr_fields y) ≡ eqb x y
by_sr = joined sr_fields (λ x y e. let h : x / 64 ≡ y / 64 = ap (nth 0) e in let l : x % 64 ≡ y % 64 = ap (nth 1) e in omega arith)

by-shift : (x y : ℕ) → eq_list (shift_fields x) (shift_fields y) ≡ eqb x y
by-shift = joined shift_fields (λ x y e. let h : x / 2 ≡ y / 2 = ap (nth 0) e in let l : x % 2 ≡ y % 2 = ap (nth 1) e in omega arith)

pub deeper : (x : ℕ) → x / 16 ≡ x / 4 / 4
deeper x = omega arith

pub quarters : (x y : ℕ) → x / 4 ≡ y / 4 → x % 4 ≡ y % 4 → x ≡ y
quarters x y h l = omega arith

by_m : (x y : ℕ) → eq_list (mFields x) (mFields y) ≡ eqb x y
by_m =
    joined mFields
    (λ x y e.
    quarters x y (quarters (x / 4) (y / 4) (sym (deeper x) ∙ ap (nth 0) e ∙ deeper y) (ap (nth 1) e)) (ap (nth 2) e))

-- ---- two lists of tests that find the same

record ◌≈◌ (ts us : List Test) : Type 0 where
  finds : tests ts ≡ tests us

infix 20 ◌≈◌
end : [] ≈ []
end = record { finds = refl }

infixr 30 ◌then◌
◌then◌ : {s t : Bool} {f : Field} {ts us : List Test} → s ≡ t → ts ≈ us → (test s f ∷ ts) ≈ (test t f ∷ us)
unfolding tests
◌then◌ {f = f} e h = record { finds = ap₂ (λ (x : Bool) (d : Option Field). cond x d (Some f)) e h.finds }

-- a test that is two
two : (s t : Bool) (f : Field) (d : Option Field) → cond (s && t) d (Some f) ≡ cond s (cond t d (Some f)) (Some f)
two true t f d = refl
two false t f d = refl

infixr 30 ◌both◌
◌both◌ : {r s t : Bool} {f : Field} {ts us : List Test} → r ≡ (s && t) → (test t f ∷ ts) ≈ us → (test r f ∷ ts) ≈ (test s f ∷ us)
unfolding tests
◌both◌ {s = s} {t = t} {f = f} {ts = ts} e h =
    record {
      finds =
          ap (λ (x : Bool). cond x (tests ts) (Some f)) e ∙ two s t f (tests ts)
          ∙ ap (λ (d : Option Field). cond s d (Some f)) h.finds;
    }

-- ---- the tests of the definition and those of the code

abbrev hints : Parts → List ℕ
hints p = p.d.hint ∷ p.a.hint ∷ p.b.hint ∷ p.c.hint ∷ []

-- with the fields by their names
list_tests : List ℕ → Parts → ℕ → List ℕ → Parts → ℕ → List Test
list_tests xs p n ys q m =
    test (eq_list ((p.kind - 1) ∷ []) ((q.kind - 1) ∷ [])) Field.Instruction
    ∷ test (eq_list (n ∷ nth 0 xs ∷ []) (m ∷ nth 0 ys ∷ [])) Field.Length
    ∷ test (eq_list (named p.d) (named q.d)) Field.Destination
    ∷ test (eq_list (named p.a) (named q.a)) Field.SourceA
    ∷ test (eq_list (named p.b) (named q.b)) Field.SourceB
    ∷ test (eq_list (named p.c) (named q.c)) Field.SourceC
    ∷ test (eq_list (nth 1 xs ∷ nth 2 xs ∷ []) (nth 1 ys ∷ nth 2 ys ∷ [])) Field.Immediate
    ∷ test (eq_list (nth 3 xs ∷ nth 4 xs ∷ []) (nth 3 ys ∷ nth 4 ys ∷ [])) (Field.Other 16)
    ∷ at 5 6 ∷ at 6 26 ∷ at 7 27 ∷ at 8 38
    ∷ test (eq_list (nth 9 xs ∷ nth 10 xs ∷ []) (nth 9 ys ∷ nth 10 ys ∷ [])) (Field.Other 39)
    ∷ at 11 50
    ∷ test (eq_list (nth 12 xs ∷ nth 13 xs ∷ nth 14 xs ∷ []) (nth 12 ys ∷ nth 13 ys ∷ nth 14 ys ∷ [])) (Field.Other 38)
    ∷ at 15 26 ∷ at 16 27 ∷ at 17 38 ∷ at 18 39 ∷ at 19 16 ∷ at 20 8 ∷ at 21 11 ∷ at 22 13
    ∷ test (eq_list (hints p) (hints q)) Field.Hint
    ∷ test (eq_list (p.kept ∷ []) (q.kept ∷ [])) Field.Bit
    ∷ []
  where
    at : ℕ → ℕ → Test
    at k bit = test (eq_list (nth k xs ∷ []) (nth k ys ∷ [])) (Field.Other bit)

code_tests : Parts → ℕ → Parts → ℕ → List Test
code_tests p n q m =
    test (eqb p.kind q.kind) Field.Instruction
    ∷ test (eqb n m) Field.Length
    ∷ test (eqb p.l q.l) Field.Length
    ∷ test (same_operand p.d q.d) Field.Destination
    ∷ test (same_operand p.a q.a) Field.SourceA
    ∷ test (same_operand p.b q.b) Field.SourceB
    ∷ test (same_operand p.c q.c) Field.SourceC
    ∷ test (eqb (number_for 1 1 p) (number_for 1 1 q)) Field.Immediate
    ∷ test (eqb (number_for 2 2 p) (number_for 2 2 q)) Field.Immediate
    ∷ test (eqb (number_for 3 3 p) (number_for 3 3 q)) (Field.Other 16)
    ∷ test (eqb p.signs.saturate q.signs.saturate) (Field.Other 6)
    ∷ test (eqb p.signs.sa q.signs.sa) (Field.Other 26)
    ∷ test (eqb p.signs.negate q.signs.negate) (Field.Other 27)
    ∷ test (eqb p.signs.sb q.signs.sb) (Field.Other 38)
    ∷ test (eqb p.signs.shift q.signs.shift) (Field.Other 39)
    ∷ test (eqb p.signs.sc q.signs.sc) (Field.Other 50)
    ∷ test (eqb p.m q.m) (Field.Other 38)
    ∷ test (eqb p.truth.tt0 q.truth.tt0) (Field.Other 26)
    ∷ test (eqb p.truth.tt1 q.truth.tt1) (Field.Other 27)
    ∷ test (eqb p.truth.tt2 q.truth.tt2) (Field.Other 38)
    ∷ test (eqb p.truth.tt3 q.truth.tt3) (Field.Other 39)
    ∷ test (eqb (number_for 17 18 p) (number_for 17 18 q)) (Field.Other 16)
    ∷ test (eqb p.condition.ccn q.condition.ccn) (Field.Other 8)
    ∷ test (eqb p.condition.n q.condition.n) (Field.Other 11)
    ∷ test (eqb p.condition.cc q.condition.cc) (Field.Other 13)
    ∷ test (eqb p.d.hint q.d.hint) Field.Hint
    ∷ test (eqb p.a.hint q.a.hint) Field.Hint
    ∷ test (eqb p.b.hint q.b.hint) Field.Hint
    ∷ test (eqb p.c.hint q.c.hint) Field.Hint
    ∷ test (eqb p.kept q.kept) Field.Bit
    ∷ []

by_code : (p : Parts) (n : ℕ) (q : Parts) (m : ℕ) → first_by p n q m ≡ tests (code_tests p n q m)
unfolding tests code_tests
by_code p n q m = simp grouped (simp before)

by_list : (i : Instruction) (n : ℕ) (j : Instruction) (m : ℕ)
    → map (test_of i n j m) order ≡ list_tests (fields_of names i) (parts_of i) n (fields_of names j) (parts_of j) m
unfolding rows others order test_of list_tests
by_list i n j m = refl

-- kinds count from 1
same_place : (k l : ℕ) → 0 < k → 0 < l → eqb (k - 1) (l - 1) ≡ eqb k l
same_place k l h g = go (eqb k l) refl
  where
    go : (s : Bool) → eqb k l ≡ s → eqb (k - 1) (l - 1) ≡ s
    go true e = eq-eqb _ _ (ap (λ (x : ℕ). x - 1) (eqb-true k l e))
    go false e =
        ne_eqb (k - 1) (l - 1)
        (λ (f : k - 1 ≡ l - 1).
        let z : k ≡ l = omega arith in
        let w : false ≡ true = sym e ∙ eq-eqb k l z in
        let v : ◌≡◌ {A = ℕ} 0 1 = cc in
        omega arith)

list_code : (p : Parts) (n : ℕ) (q : Parts) (m : ℕ) → 0 < p.kind → 0 < q.kind
    → list_tests (told p) p n (told q) q m ≈ code_tests p n q m
unfolding list_tests code_tests
list_code p n q m h g =
    (one _ ∙ same_place p.kind q.kind h g)
    then refl both one _
    then operand p.d q.d
    then operand p.a q.a
    then operand p.b q.b
    then operand p.c q.c
    then refl both one _
    then by_sr (number_for 3 3 p) (number_for 3 3 q)
    then one _ then one _ then one _ then one _
    then by-shift p.signs.shift q.signs.shift
    then one _
    then by_m p.m q.m
    then one _ then one _ then one _ then one _ then one _ then one _ then one _ then one _
    then refl both refl both refl both one _
    then one _
    then end

-- ---- the two laws

pub difference_by-parts : (i : Instruction) (n : ℕ) (j : Instruction) (m : ℕ)
    → difference_of i n j m ≡ first_by (parts_of i) n (parts_of j) m
unfolding difference_of
difference_by-parts i n j m =
    let p = parts_of i in
    let q = parts_of j in
    let l = by_list i n j m ∙ ap₂ (λ (xs ys : List ℕ). list_tests xs p n ys q m) (in_parts i) (in_parts j) in
    let c = (list_code p n q m (kind_within i).0 (kind_within j).0).finds in
    first_tests order i n j m ∙ ap tests l ∙ c ∙ sym (by_code p n q m)

-- a test that finds nothing, and what follows
agreed_in : (s : Bool) (f : Field) (d : Option Field) → cond s d (Some f) ≡ None → (s ≡ true) × (d ≡ None)
agreed_in true f d e = (refl, e)
agreed_in false f d e = absurd (cc)

pub agreed_lengths : (p : Parts) (n : ℕ) (q : Parts) (m : ℕ) → first_by p n q m ≡ None → n ≡ m
unfolding tests code_tests
agreed_lengths p n q m e =
    let z : tests (code_tests p n q m) ≡ None = sym (by_code p n q m) ∙ e in
    eqb-true n m (agreed_in _ _ _ (agreed_in _ _ _ z).1).0
