-- The list of fields is complete: two instructions that agree in every entry of it are the same.
use Rattle.std.proofs.Common.{Some, None}
use mathlib.Core.Path.{◌≡◌, refl, sym, ap, ap₂, ◌∙◌}
use mathlib.Core.Bool.{Bool, true, false, cond}
use mathlib.Core.List.{List, [], ◌∷◌}
use Prim.Native.Nat.{ℕ, ◌+◌, ◌-◌, ◌/◌, ◌%◌, ◌<◌}
use native.Mathlib.Omega.{arith}
use lib.ListN.{get_or}
use Rattle.bits.proofs.Lists.{eq_list-is, eq_list_self}
use Rattle.isa.specs.Rows.{rows}
use Rattle.isa.specs.Parts.{numbers_of, parts_of}
use Rattle.isa.specs.declared.instruction.Instruction.{Instruction}
use Rattle.isa.proofs.Placed.{kind_within}
use Rattle.parts.proofs.Back.{back, parts-back, numbers-back}
use Rattle.comparison.specs.Order.{Entry, others, order, agrees, first_of, difference_of, fields_of}
use Rattle.difference.specs.First.{number_for}
use Rattle.difference.proofs.Law.{names, told, in_parts, quarters, deeper}

-- two instructions, of n and of m bytes, agree in every entry of a list
abbrev pub Agree : List Entry → Instruction → ℕ → Instruction → ℕ → Type 0
Agree [] i n j m = Unit {0}
Agree (e ∷ es) i n j m = (agrees e i n j m ≡ true) × Agree es i n j m

none_agree : (es : List Entry) (i : Instruction) (n : ℕ) (j : Instruction) (m : ℕ) → first_of es i n j m ≡ None → Agree es i n j m
none_agree [] i n j m h = tt
none_agree (e ∷ es) i n j m h = go (agrees e i n j m) refl h (λ f. none_agree es i n j m f)
  where
    go : (s : Bool) → agrees e i n j m ≡ s → cond s (first_of es i n j m) (Some e.called) ≡ None
        → (first_of es i n j m ≡ None → Agree es i n j m) → (agrees e i n j m ≡ true) × Agree es i n j m
    go true f h k = (f, k h)
    go false f h k = let z : ◌≡◌ {A = ℕ} 0 1 = cc in absurd (omega arith)

-- the number of mov16, mov32, get_sr and the jumps; the others have none
number_of : (i : Instruction) → let p = parts_of i in
    p.immediate ≡ number_for 1 1 p + number_for 2 2 p + number_for 3 3 p + number_for 17 18 p
unfolding parts_of
number_of (Instruction.Mov16 d imm l kept) = omega arith
number_of (Instruction.Mov32 d imm l kept) = omega arith
number_of (Instruction.GetSr d sr kept) = omega arith
number_of (Instruction.Iadd o s n sa sb shift kept) = refl
number_of (Instruction.Imadd o s n sa sb sc shift kept) = refl
number_of (Instruction.Bfi x) = refl
number_of (Instruction.Bfeil x) = refl
number_of (Instruction.Extr x) = refl
number_of (Instruction.Shlhi x) = refl
number_of (Instruction.Shrhi x) = refl
number_of (Instruction.Asr x) = refl
number_of (Instruction.Asrh x) = refl
number_of (Instruction.Bitop o t0 t1 t2 t3 kept) = refl
number_of (Instruction.Bitrev x) = refl
number_of (Instruction.Popcount x) = refl
number_of (Instruction.Ffs x) = refl
number_of (Instruction.JmpExecAny off) = omega arith
number_of (Instruction.JmpExecNone off) = omega arith
number_of (Instruction.PopExec h n kept) = refl
number_of (Instruction.IfIcmp x) = refl
number_of (Instruction.WhileIcmp x) = refl
number_of (Instruction.ElseIcmp x) = refl

-- ---- from the entries to the parts

abbrev nth : ℕ → List ℕ → ℕ
nth k l = get_or l k 0

infixr 30 ◌&◌
◌&◌ : {x y : ℕ} {xs ys : List ℕ} → x ≡ y → xs ≡ ys → x ∷ xs ≡ y ∷ ys
◌&◌ e f = ap₂ (λ (x : ℕ) (xs : List ℕ). x ∷ xs) e f

sr_fields-back : (x y : ℕ) → x / 64 ≡ y / 64 → x % 64 ≡ y % 64 → x ≡ y
sr_fields-back x y h l = omega arith

halves_back : (x y : ℕ) → x / 2 ≡ y / 2 → x % 2 ≡ y % 2 → x ≡ y
halves_back x y h l = omega arith

quarters_back : (x y : ℕ) → x / 16 ≡ y / 16 → x / 4 % 4 ≡ y / 4 % 4 → x % 4 ≡ y % 4 → x ≡ y
quarters_back x y g h l = quarters x y (quarters (x / 4) (y / 4) (sym (deeper x) ∙ g ∙ deeper y) h) l

same_kind : (x y : ℕ) → 0 < x → 0 < y → x - 1 ≡ y - 1 → x ≡ y
same_kind x y h g e = omega arith

-- the numbers of every entry of a list are equal
abbrev Same : List Entry → Instruction → ℕ → Instruction → ℕ → Type 0
Same [] i n j m = Unit {0}
Same (e ∷ es) i n j m = (e.numbers i n ≡ e.numbers j m) × Same es i n j m

agree_same : (es : List Entry) (i : Instruction) (n : ℕ) (j : Instruction) (m : ℕ) → Agree es i n j m → Same es i n j m
agree_same [] i n j m a = tt
agree_same (e ∷ es) i n j m a = (eq_list-is (e.numbers i n) (e.numbers j m) a.0, agree_same es i n j m a.1)

-- the fields by name
fields-same : (i : Instruction) (n : ℕ) (j : Instruction) (m : ℕ) → Same order i n j m → fields_of names i ≡ fields_of names j
unfolding rows others order
fields-same i n j m a₁ =
    let a₂ = a₁.1 in
    let a₃ = a₂.1 in
    let a₄ = a₃.1 in
    let a₅ = a₄.1 in
    let a₆ = a₅.1 in
    let a₇ = a₆.1 in
    let a₈ = a₇.1 in
    let a₉ = a₈.1 in
    let a₁₀ = a₉.1 in
    let a₁₁ = a₁₀.1 in
    let a₁₂ = a₁₁.1 in
    let a₁₃ = a₁₂.1 in
    let a₁₄ = a₁₃.1 in
    let a₁₅ = a₁₄.1 in
    let a₁₆ = a₁₅.1 in
    let a₁₇ = a₁₆.1 in
    let a₁₈ = a₁₇.1 in
    let a₁₉ = a₁₈.1 in
    let a₂₀ = a₁₉.1 in
    let a₂₁ = a₂₀.1 in
    let a₂₂ = a₂₁.1 in
    let a₂₃ = a₂₂.1 in
    ap (nth 1) a₂.0 & ap (nth 0) a₇.0 & ap (nth 1) a₇.0 & ap (nth 0) a₈.0 & ap (nth 1) a₈.0
    & ap (nth 0) a₉.0 & ap (nth 0) a₁₀.0 & ap (nth 0) a₁₁.0 & ap (nth 0) a₁₂.0 & ap (nth 0) a₁₃.0
    & ap (nth 1) a₁₃.0 & ap (nth 0) a₁₄.0 & ap (nth 0) a₁₅.0 & ap (nth 1) a₁₅.0 & ap (nth 2) a₁₅.0
    & ap (nth 0) a₁₆.0 & ap (nth 0) a₁₇.0 & ap (nth 0) a₁₈.0 & ap (nth 0) a₁₉.0 & ap (nth 0) a₂₀.0
    & ap (nth 0) a₂₁.0 & ap (nth 0) a₂₂.0 & ap (nth 0) a₂₃.0 & refl

numbers-same : (i : Instruction) (n : ℕ) (j : Instruction) (m : ℕ) → Same order i n j m → numbers_of (parts_of i) ≡ numbers_of (parts_of j)
unfolding rows others order
numbers-same i n j m a₁ =
    let p = parts_of i in
    let q = parts_of j in
    let told_same : told p ≡ told q = sym (in_parts i) ∙ fields-same i n j m a₁ ∙ in_parts j in
    let f : (k : ℕ) → nth k (told p) ≡ nth k (told q) = λ k. ap (nth k) told_same in
    let sr : number_for 3 3 p ≡ number_for 3 3 q = sr_fields-back _ _ (f 3) (f 4) in
    let one : number_for 1 1 p ≡ number_for 1 1 q = f 1 in
    let two : number_for 2 2 p ≡ number_for 2 2 q = f 2 in
    let off : number_for 17 18 p ≡ number_for 17 18 q = f 19 in
    let number : p.immediate ≡ q.immediate = omega (arith, number_of i, number_of j) in
    let a₂ = a₁.1 in
    let a₃ = a₂.1 in
    let a₄ = a₃.1 in
    let a₅ = a₄.1 in
    let a₆ = a₅.1 in
    let a₂₄ = a₆.1.1.1.1.1.1.1.1.1.1.1.1.1.1.1.1.1.1 in
    same_kind _ _ (kind_within i).0 (kind_within j).0 (ap (nth 0) a₁.0) & ap (nth 0) a₃.0 & ap (nth 0) a₂₄.0
    & ap (nth 1) a₃.0 & ap (nth 0) a₄.0 & ap (nth 1) a₂₄.0 & ap (nth 1) a₄.0 & ap (nth 0) a₅.0
    & ap (nth 2) a₂₄.0 & ap (nth 1) a₅.0 & ap (nth 0) a₆.0 & ap (nth 3) a₂₄.0 & ap (nth 1) a₆.0 & number & f 0
    & quarters_back p.m q.m (f 12) (f 13) (f 14) & f 5 & f 7 & f 6 & f 8 & f 11
    & halves_back p.signs.shift q.signs.shift (f 9) (f 10) & f 15 & f 16 & f 17 & f 18 & f 22 & f 20 & f 21
    & ap (nth 0) a₂₄.1.0 & refl

-- Two instructions that agree in every entry are the same.
pub complete : (i : Instruction) (n : ℕ) (j : Instruction) (m : ℕ) → Agree order i n j m → (i ≡ j) × (n ≡ m)
unfolding rows others order
complete i n j m a =
    let s = agree_same order i n j m a in
    (sym (parts-back i) ∙ ap back (numbers-back (parts_of i) (parts_of j) (numbers-same i n j m s)) ∙ parts-back j, ap (nth 0) s.1.0)

-- So they have no difference exactly where they are the same.
pub no_difference : (i : Instruction) (n : ℕ) (j : Instruction) (m : ℕ) → difference_of i n j m ≡ None → (i ≡ j) × (n ≡ m)
unfolding difference_of
no_difference i n j m e = complete i n j m (none_agree order i n j m e)

self : (es : List Entry) (i : Instruction) (n : ℕ) → first_of es i n i n ≡ None
self [] i n = refl
self (e ∷ es) i n = rw (eq_list_self (e.numbers i n)) (self es i n)

pub no_difference_self : (i : Instruction) (n : ℕ) → difference_of i n i n ≡ None
unfolding difference_of
no_difference_self i n = self order i n
