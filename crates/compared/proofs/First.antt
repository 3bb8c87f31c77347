-- The field that is named: the two instructions differ in it, and in no entry before it. And the order of the other fields: by their
-- lowest bits, in every diagram.
use Rattle.std.proofs.Common.{Some}
use mathlib.Core.Path.{◌≡◌, refl, sym, ap, ap₂, ◌∙◌, subst}
use mathlib.Core.Bool.{Bool, true, false, cond, ◌&&◌, ◌||◌}
use mathlib.Core.List.{List, [], ◌∷◌, ◌++◌, map}
use mathlib.Core.Logic.{◌⊎◌, inl, inr}
use Prim.Native.Nat.{ℕ, suc}
use Prim.Native.String.{String}
use native.Mathlib.Omega.{arith}
use lib.Dec.{T, eqb, ltb}
use lib.ListN.{get_or, take, drop}
use Rattle.bits.specs.Lists.{eq_list}
use Rattle.bits.proofs.Lists.{eq_list-is, eq_list_self}
use Rattle.bits.proofs.Table.{all, left, right}
use Rattle.isa.specs.Diagram.{Diagram, field_mask}
use Rattle.isa.specs.Rows.{rows}
use Rattle.isa.specs.Decode.{row_at}
use Rattle.isa.specs.Parts.{parts_of, place_of}
use Rattle.isa.specs.declared.instruction.Instruction.{Instruction}
use Rattle.encoding.specs.Write.{fields_for}
use Rattle.comparison.specs.Order.{Entry, entry, others, order, other, fields_of, agrees, first_of, difference_of, low_in, lowest}
use Rattle.comparison.specs.declared.Field.{Field}
use Rattle.compared.proofs.Complete.{Agree}

-- ---- the field that is named

-- an entry of a list that has this name: the two differ in it, and agree in every entry before it
pub record FirstIn (es : List Entry) (i : Instruction) (n : ℕ) (j : Instruction) (m : ℕ) (f : Field) : Type 0 where
  pub before : List Entry
  pub entry : Entry
  pub after : List Entry
  pub is : es ≡ before ++ entry ∷ after
  pub called : entry.called ≡ f
  pub agree : Agree before i n j m
  pub differ : agrees entry i n j m ≡ false

first_in_lem : (es : List Entry) (i : Instruction) (n : ℕ) (j : Instruction) (m : ℕ) (f : Field) → first_of es i n j m ≡ Some f
    → FirstIn es i n j m f
first_in_lem [] i n j m f h = let z : ◌≡◌ {A = ℕ} 0 1 = cc in absurd (omega arith)
first_in_lem (e ∷ es) i n j m f h = go (agrees e i n j m) refl h (λ g. first_in_lem es i n j m f g)
  where
    go : (s : Bool) → agrees e i n j m ≡ s → cond s (first_of es i n j m) (Some e.called) ≡ Some f
        → (first_of es i n j m ≡ Some f → FirstIn es i n j m f) → FirstIn (e ∷ es) i n j m f
    go true g h k =
        let r = k h in
        record {
          before = e ∷ r.before;
          entry = r.entry;
          after = r.after;
          is = ap (λ (l : List Entry). e ∷ l) r.is;
          called = r.called;
          agree = (g, r.agree);
          differ = r.differ;
        }
    go false g h k =
        record { before = []; entry = e; after = es; is = refl; called = (let z : e.called ≡ f = cc in z); agree = tt; differ = g }

-- what holds of every name of a list holds of the one that is told
pub named_in : (P : Field → Bool) (es : List Entry) → T (all (λ (e : Entry). P e.called) es) → (i : Instruction) (n : ℕ)
    (j : Instruction) (m : ℕ) (f : Field) → first_of es i n j m ≡ Some f → T (P f)
named_in P [] h i n j m f e = let z : ◌≡◌ {A = ℕ} 0 1 = cc in absurd (omega arith)
named_in P (x ∷ es) h i n j m f e = go (agrees x i n j m) e (named_in P es (right (P x.called) _ h) i n j m f)
  where
    go : (s : Bool) → cond s (first_of es i n j m) (Some x.called) ≡ Some f
        → (first_of es i n j m ≡ Some f → T (P f)) → T (P f)
    go true e k = k e
    go false e k = let z : x.called ≡ f = cc in subst (λ (y : Field). T (P y)) z (left (P x.called) _ h)

pub named_first : (i : Instruction) (n : ℕ) (j : Instruction) (m : ℕ) (f : Field) → difference_of i n j m ≡ Some f
    → FirstIn order i n j m f
unfolding difference_of
named_first i n j m f h = first_in_lem order i n j m f h

-- ---- the order of the other fields

abbrev has_all : Diagram → List String → Bool
has_all r [] = true
has_all r (name ∷ names) = (ltb 0 (field_mask r.fields name)) && has_all r names

-- the lowest bits of those fields that a diagram has, in the list's order
abbrev lows_in : Diagram → List (List String) → List ℕ
lows_in r [] = []
lows_in r (names ∷ rest) = cond (has_all r names) (lowest names ∷ lows_in r rest) (lows_in r rest)

abbrev rising : List ℕ → Bool
rising [] = true
rising (x ∷ []) = true
rising (x ∷ (y ∷ ys)) = ltb x y && rising (y ∷ ys)

-- In every diagram they rise.
pub by_lowest_bit : T (all (λ (r : Diagram). rising (lows_in r others)) rows)
unfolding rows others
by_lowest_bit = tt

-- the last of joined fields, and whether a bit number is below those of the others
abbrev is_low : Diagram → ℕ → List String → Bool
is_low r low [] = true
is_low r low (name ∷ names) = (eqb low (low_in r.fields name) || ltb low (low_in r.fields name)) && is_low r low names

abbrev last_low : Diagram → List String → ℕ
last_low r [] = 0
last_low r (name ∷ []) = low_in r.fields name
last_low r (name ∷ (next ∷ names)) = last_low r (next ∷ names)

-- The number in an answer is the lowest bit of the field, joined or not, in every diagram that has it.
pub lowest-everywhere :
    T (all (λ (r : Diagram). all (λ (names : List String).
    cond (has_all r names) (eqb (last_low r names) (lowest names) && is_low r (lowest names) names) true) others) rows)
unfolding rows others
lowest-everywhere = tt

-- ---- the field that a number tells

-- where field b is told: fields of the list, whose lowest bit is b; the diagram of the instruction has them, and they differ
pub record FieldTold (i j : Instruction) (b : ℕ) : Type 0 where
  pub place : ℕ
  pub names : List String
  pub listed : get_or others place [] ≡ names
  pub bit : lowest names ≡ b
  pub there : has_all (row_at (place_of i)) names ≡ true
  pub differ : eq_list (fields_of names i) (fields_of names j) ≡ false

abbrev zeros : List String → List ℕ
zeros [] = []
zeros (name ∷ names) = 0 ∷ zeros names

-- fields that a diagram does not have are 0
abbrev missing : Instruction → List String → List ℕ
missing i names = cond (has_all (row_at (place_of i)) names) [] (fields_of names i)

abbrev noughts : Instruction → List String → List ℕ
noughts i names = cond (has_all (row_at (place_of i)) names) [] (zeros names)

abbrev Noughts : Instruction → List (List String) → Type 0
Noughts i ns = map (missing i) ns ≡ map (noughts i) ns

not_there : (i : Instruction) → Noughts i others
unfolding rows others fields_for parts_of
not_there (Instruction.Mov16 d imm l kept) = refl
not_there (Instruction.Mov32 d imm l kept) = refl
not_there (Instruction.GetSr d sr kept) = refl
not_there (Instruction.Iadd o s n sa sb shift kept) = refl
not_there (Instruction.Imadd o s n sa sb sc shift kept) = refl
not_there (Instruction.Bfi x) = refl
not_there (Instruction.Bfeil x) = refl
not_there (Instruction.Extr x) = refl
not_there (Instruction.Shlhi x) = refl
not_there (Instruction.Shrhi x) = refl
not_there (Instruction.Asr x) = refl
not_there (Instruction.Asrh x) = refl
not_there (Instruction.Bitop o t0 t1 t2 t3 kept) = refl
not_there (Instruction.Bitrev x) = refl
not_there (Instruction.Popcount x) = refl
not_there (Instruction.Ffs x) = refl
not_there (Instruction.JmpExecAny off) = refl
not_there (Instruction.JmpExecNone off) = refl
not_there (Instruction.PopExec h n kept) = refl
not_there (Instruction.IfIcmp x) = refl
not_there (Instruction.WhileIcmp x) = refl
not_there (Instruction.ElseIcmp x) = refl

module _ (i : Instruction) (n : ℕ) (j : Instruction) (m : ℕ) (same : place_of i ≡ place_of j) where
  -- fields that differ are in the diagram
  has : (names : List String) → missing i names ≡ noughts i names → missing j names ≡ noughts j names
      → eq_list (fields_of names i) (fields_of names j) ≡ false → has_all (row_at (place_of i)) names ≡ true
  has names x y d = go (has_all (row_at (place_of i)) names) refl
    where
      go : (s : Bool) → has_all (row_at (place_of i)) names ≡ s → has_all (row_at (place_of i)) names ≡ true
      go true e = e
      go false e =
          let f : has_all (row_at (place_of j)) names ≡ false = ap (λ (k : ℕ). has_all (row_at k) names) (sym same) ∙ e in
          let u : fields_of names i ≡ zeros names = rw e at x in
          let v : fields_of names j ≡ zeros names = rw f at y in
          let w : false ≡ true = sym d ∙ ap₂ eq_list u v ∙ eq_list_self (zeros names) in
          let z : ◌≡◌ {A = ℕ} 0 1 = cc in
          absurd (omega arith)

  abbrev tail : List (List ℕ) → List (List ℕ)
  tail [] = []
  tail (x ∷ xs) = xs

  record ToldIn (ns : List (List String)) (f : Field) : Type 0 where
    place : ℕ
    called : f ≡ Field.Other (lowest (get_or ns place []))
    there : has_all (row_at (place_of i)) (get_or ns place []) ≡ true
    differ : eq_list (fields_of (get_or ns place []) i) (fields_of (get_or ns place []) j) ≡ false

  told_in : (ns : List (List String)) → Noughts i ns → Noughts j ns → (f : Field) → first_of (map other ns) i n j m ≡ Some f
      → ToldIn ns f
  told_in [] x y f e = let z : ◌≡◌ {A = ℕ} 0 1 = cc in absurd (omega arith)
  told_in (names ∷ ns) x y f e =
      go (agrees (other names) i n j m) refl e (told_in ns (ap tail x) (ap tail y) f)
    where
      go : (s : Bool) → agrees (other names) i n j m ≡ s
          → cond s (first_of (map other ns) i n j m) (Some (Field.Other (lowest names))) ≡ Some f
          → (first_of (map other ns) i n j m ≡ Some f → ToldIn ns f) → ToldIn (names ∷ ns) f
      go true g e k =
          let r = k e in
          record { place = suc r.place; called = r.called; there = r.there; differ = r.differ }
      go false g e k =
          let z : f ≡ Field.Other (lowest names) = cc in
          record {
            place = 0;
            called = z;
            there = has names (ap (λ (l : List (List ℕ)). get_or l 0 []) x) (ap (λ (l : List (List ℕ)). get_or l 0 []) y) g;
            differ = g;
          }

-- the list is three lists
first_append : (xs ys : List Entry) (i : Instruction) (n : ℕ) (j : Instruction) (m : ℕ) (f : Field)
    → first_of (xs ++ ys) i n j m ≡ Some f → (first_of xs i n j m ≡ Some f) ⊎ (first_of ys i n j m ≡ Some f)
first_append [] ys i n j m f e = inr e
first_append (x ∷ xs) ys i n j m f e = go (agrees x i n j m) e (first_append xs ys i n j m f)
  where
    go : (s : Bool) → cond s (first_of (xs ++ ys) i n j m) (Some x.called) ≡ Some f
        → (first_of (xs ++ ys) i n j m ≡ Some f → (first_of xs i n j m ≡ Some f) ⊎ (first_of ys i n j m ≡ Some f))
        → (cond s (first_of xs i n j m) (Some x.called) ≡ Some f) ⊎ (first_of ys i n j m ≡ Some f)
    go true e k = k e
    go false e k = inl e

abbrev not_other : Field → Bool
not_other Field.Instruction = true
not_other Field.Length = true
not_other Field.Destination = true
not_other Field.SourceA = true
not_other Field.SourceB = true
not_other Field.SourceC = true
not_other Field.Immediate = true
not_other (Field.Other bit) = false
not_other Field.Hint = true
not_other Field.Bit = true

heads : List Entry
heads = take 7 order

tails : List Entry
tails = drop 23 order

three : order ≡ heads ++ (map other others ++ tails)
unfolding rows others order heads tails
three = refl

others-alone : T (all (λ (e : Entry). not_other e.called) heads) × T (all (λ (e : Entry). not_other e.called) tails)
unfolding rows others order heads tails
others-alone = (tt, tt)

-- the two agree in the first entry, unless it is told
first_agrees : (e : Entry) (es : List Entry) (i : Instruction) (n : ℕ) (j : Instruction) (m : ℕ) (f : Field)
    → first_of (e ∷ es) i n j m ≡ Some f → (e.called ≡ f → ⊥) → agrees e i n j m ≡ true
first_agrees e es i n j m f h k = go (agrees e i n j m) refl h
  where
    go : (s : Bool) → agrees e i n j m ≡ s → cond s (first_of es i n j m) (Some e.called) ≡ Some f → agrees e i n j m ≡ true
    go true g h = g
    go false g h = absurd (k (let z : e.called ≡ f = cc in z))

-- another field is told only of instructions of one diagram
same-diagram : (i : Instruction) (n : ℕ) (j : Instruction) (m b : ℕ) → first_of order i n j m ≡ Some (Field.Other b)
    → place_of i ≡ place_of j
unfolding rows others order
same-diagram i n j m b e =
    let x = entry Field.Instruction (λ i n. place_of i ∷ []) in
    let a = first_agrees x (drop 1 order) i n j m (Field.Other b) e (λ (z : Field.Instruction ≡ Field.Other b). let v : ◌≡◌ {A = ℕ} 0 1 = cc in omega arith) in
    ap (λ (l : List ℕ). get_or l 0 0) (eq_list-is (place_of i ∷ []) (place_of j ∷ []) a)

-- The number tells fields that the diagram of the instruction has, and in these the two differ.
pub field_told : (i : Instruction) (n : ℕ) (j : Instruction) (m b : ℕ) → difference_of i n j m ≡ Some (Field.Other b)
    → FieldTold i j b
unfolding difference_of
field_told i n j m b e = go (first_append heads (map other others ++ tails) i n j m (Field.Other b) (ap (λ (es : List Entry). first_of es i n j m) (sym three) ∙ e))
  where
    found : ToldIn i n j m (same-diagram i n j m b e) others (Field.Other b) → FieldTold i j b
    found r =
        record {
          place = r.place;
          names = get_or others r.place [];
          listed = refl;
          bit = (let z : b ≡ lowest (get_or others r.place []) = cc in sym z);
          there = r.there;
          differ = r.differ;
        }

    rest : (first_of (map other others) i n j m ≡ Some (Field.Other b)) ⊎ (first_of tails i n j m ≡ Some (Field.Other b))
        → FieldTold i j b
    rest (inl f) = found (told_in i n j m (same-diagram i n j m b e) others (not_there i) (not_there j) (Field.Other b) f)
    rest (inr f) = absurd (named_in not_other tails others-alone.1 i n j m (Field.Other b) f)

    go : (first_of heads i n j m ≡ Some (Field.Other b)) ⊎ (first_of (map other others ++ tails) i n j m ≡ Some (Field.Other b))
        → FieldTold i j b
    go (inl f) = absurd (named_in not_other heads others-alone.0 i n j m (Field.Other b) f)
    go (inr f) = rest (first_append (map other others) tails i n j m (Field.Other b) f)
