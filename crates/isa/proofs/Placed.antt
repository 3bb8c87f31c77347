-- A decoded instruction is of the diagram that was found: its place in the list is the one that the finding rule answers.
use Rattle.std.proofs.Common.{Option, Some, Ok, Err}
use mathlib.Core.Path.{◌≡◌, refl, sym, ap, ap₂, ◌∙◌, subst}
use mathlib.Core.Bool.{Bool, ◌&&◌}
use mathlib.Core.List.{List, [], ◌∷◌}
use Prim.Native.Nat.{ℕ, zero, suc, ◌+◌, ◌≤◌, ◌<◌}
use native.Mathlib.Nat.{le_of_suc-le-suc, not-suc-le-zero, add-zero, zero-add, add-suc, suc-add}
use native.Mathlib.Omega.{arith}
use lib.Dec.{T, ltb, ltb→lt}
use lib.ListN.{length, get_or, take}
use Rattle.bits.specs.Word.{le}
use Rattle.bits.proofs.Table.{◌&◌, left, right}
use Rattle.isa.specs.Diagram.{Diagram, Fields, read_by}
use Rattle.isa.specs.Together.{with_dst, with_unary, with_binary, with_ternary, with_compared, with_condition}
use Rattle.isa.specs.Read.{bitfield, shift, scan, compare}
use Rattle.isa.specs.Rows.{rows}
use Rattle.isa.specs.Refusal.{number_of}
use Rattle.isa.specs.Find.{find_of}
use Rattle.isa.specs.Decode.{no_diagram, read_at, decode_of}
use Rattle.isa.specs.Parts.{parts_of, place_of}
use Rattle.isa.specs.declared.operand.Dst.{Dst}
use Rattle.isa.specs.declared.operand.Unary.{Unary}
use Rattle.isa.specs.declared.operand.Binary.{Binary}
use Rattle.isa.specs.declared.operand.Ternary.{Ternary}
use Rattle.isa.specs.declared.operand.Compared.{Compared}
use Rattle.isa.specs.declared.instruction.Bitfield.{Bitfield}
use Rattle.isa.specs.declared.instruction.Shift.{Shift}
use Rattle.isa.specs.declared.instruction.Scan.{Scan}
use Rattle.isa.specs.declared.instruction.Compare.{Compare}
use Rattle.isa.specs.declared.instruction.Instruction.{Instruction}
use Rattle.isa.specs.declared.answer.Refusal.{Refusal}
use Rattle.isa.specs.Answer.{Reading, Decoded}
use Rattle.isa.proofs.Pairs.{ok_pair_parts}
use Rattle.isa.proofs.Cases.{cases}
use Rattle.isa.proofs.Found.{Lent, found-lent}
use Rattle.isa.proofs.WasRead.{Reads, is_reads, on_dst, on_unary, on_binary, on_ternary, on_compared, on_condition}

-- what was read, if anything, has the place p
abbrev At : ℕ → Reading → Type 0
At p = Reads (λ i. place_of i ≡ p)

is_at : (p : ℕ) (j : Instruction) → place_of j ≡ p → At p (Some j)
is_at p = is_reads (λ i. place_of i ≡ p)

-- whatever the operands are
module _ (p : ℕ) where
  dst-at : (r : Option Dst) (k : Dst → Reading) → ((d : Dst) → At p (k d)) → At p (with_dst r k)
  dst-at r k h = on_dst (λ i. place_of i ≡ p) r k (λ d e. h d)

  unary-at : (r : Option Unary) (k : Unary → Reading) → ((o : Unary) → At p (k o)) → At p (with_unary r k)
  unary-at r k h = on_unary (λ i. place_of i ≡ p) r k (λ o e. h o)

  binary-at : (r : Option Binary) (k : Binary → Reading) → ((o : Binary) → At p (k o)) → At p (with_binary r k)
  binary-at r k h = on_binary (λ i. place_of i ≡ p) r k (λ o e. h o)

  ternary-at : (r : Option Ternary) (k : Ternary → Reading) → ((o : Ternary) → At p (k o)) → At p (with_ternary r k)
  ternary-at r k h = on_ternary (λ i. place_of i ≡ p) r k (λ o e. h o)

  compared_at_lem : (r : Option Compared) (k : Compared → Reading) → ((o : Compared) → At p (k o)) → At p (with_compared r k)
  compared_at_lem r k h = on_compared (λ i. place_of i ≡ p) r k (λ o e. h o)

  condition_at : (cc : ℕ) (r : Reading) → At p r → At p (with_condition cc r)
  condition_at cc r h = on_condition (λ i. place_of i ≡ p) cc r (λ e. h)

-- the layouts of several diagrams
module _ (p : ℕ) (f : Fields) (k : ℕ) where
  bitfield-at : (make : Bitfield → Instruction) → ((x : Bitfield) → place_of (make x) ≡ p) → At p (bitfield make f k)
  bitfield-at make h = ternary-at p _ _ (λ o. is_at p _ (h _))

  shift-at : (make : Shift → Instruction) → ((x : Shift) → place_of (make x) ≡ p) → At p (shift make f k)
  shift-at make h = binary-at p _ _ (λ o. is_at p _ (h _))

  scan-at : (make : Scan → Instruction) → ((x : Scan) → place_of (make x) ≡ p) → At p (scan make f k)
  scan-at make h = unary-at p _ _ (λ o. is_at p _ (h _))

  compare-at : (make : Compare → Instruction) → ((x : Compare) → place_of (make x) ≡ p) → At p (compare make f k)
  compare-at make h = condition_at p _ _ (compared_at_lem p _ _ (λ o. is_at p _ (h _)))

-- the diagrams of a list, whose first has the place p, read instructions of their own places
abbrev AllAt : ℕ → List Diagram → Type 0
AllAt p [] = Unit {0}
AllAt p (d ∷ ds) = ((f : Fields) (k : ℕ) → At p (d.read f k)) × AllAt (suc p) ds

rows_at : AllAt 0 rows
unfolding rows parts_of
rows_at =
    (λ f k. dst-at 0 _ _ (λ d. is_at 0 _ refl))
    & (λ f k. dst-at 1 _ _ (λ d. is_at 1 _ refl))
    & (λ f k. dst-at 2 _ _ (λ d. is_at 2 _ refl))
    & (λ f k. binary-at 3 _ _ (λ o. is_at 3 _ refl))
    & (λ f k. ternary-at 4 _ _ (λ o. is_at 4 _ refl))
    & (λ f k. bitfield-at 5 f k Instruction.Bfi (λ x. refl))
    & (λ f k. bitfield-at 6 f k Instruction.Bfeil (λ x. refl))
    & (λ f k. bitfield-at 7 f k Instruction.Extr (λ x. refl))
    & (λ f k. bitfield-at 8 f k Instruction.Shlhi (λ x. refl))
    & (λ f k. bitfield-at 9 f k Instruction.Shrhi (λ x. refl))
    & (λ f k. shift-at 10 f k Instruction.Asr (λ x. refl))
    & (λ f k. shift-at 11 f k Instruction.Asrh (λ x. refl))
    & (λ f k. binary-at 12 _ _ (λ o. is_at 12 _ refl))
    & (λ f k. scan-at 13 f k Instruction.Bitrev (λ x. refl))
    & (λ f k. scan-at 14 f k Instruction.Popcount (λ x. refl))
    & (λ f k. scan-at 15 f k Instruction.Ffs (λ x. refl))
    & (λ f k. is_at 16 _ refl)
    & (λ f k. is_at 17 _ refl)
    & (λ f k. is_at 18 _ refl)
    & (λ f k. compare-at 19 f k Instruction.IfIcmp (λ x. refl))
    & (λ f k. compare-at 20 f k Instruction.WhileIcmp (λ x. refl))
    & (λ f k. compare-at 21 f k Instruction.ElseIcmp (λ x. refl))
    & tt

row_at : (ds : List Diagram) (p : ℕ) → AllAt p ds → (j : ℕ) → j < length ds → (w : ℕ) → At (p + j) (read_by (get_or ds j no_diagram) w)
row_at [] p a j h w = absurd (not-suc-le-zero h)
row_at (d ∷ ds) p a zero h w = rw (add-zero p) (a.0 _ _)
row_at (d ∷ ds) p a (suc j) h w = rw (add-suc p j, ← suc-add p j) (row_at ds (suc p) a.1 j (le_of_suc-le-suc h) w)

pub length-rows : length rows ≡ 22
unfolding rows
length-rows = refl

-- an instruction that was read by the diagram at a place has that place
pub read-place : (p w : ℕ) → p < 22 → (i : Instruction) → read_at p w ≡ Some i → place_of i ≡ p
read-place p w h i e =
    let r : At (0 + p) (read_at p w) = row_at rows 0 rows_at p (rw length-rows h) w in
    (rw (zero-add p) at r).holds i e

-- the kinds are 1 to 22
pub kind_within : (i : Instruction) → (0 < (parts_of i).kind) × ((parts_of i).kind < 23)
unfolding parts_of
kind_within i =
    (ltb→lt 0 (parts_of i).kind (left above below (within i)), ltb→lt (parts_of i).kind 23 (right above below (within i)))
  where
    above : Bool
    above = ltb 0 (parts_of i).kind

    below : Bool
    below = ltb (parts_of i).kind 23

    within : (i : Instruction) → T (ltb 0 (parts_of i).kind && ltb (parts_of i).kind 23)
    within (Instruction.Mov16 a b c d) = tt
    within (Instruction.Mov32 a b c d) = tt
    within (Instruction.GetSr a b c) = tt
    within (Instruction.Iadd a b c d e f g) = tt
    within (Instruction.Imadd a b c d e f g h) = tt
    within (Instruction.Bfi x) = tt
    within (Instruction.Bfeil x) = tt
    within (Instruction.Extr x) = tt
    within (Instruction.Shlhi x) = tt
    within (Instruction.Shrhi x) = tt
    within (Instruction.Asr x) = tt
    within (Instruction.Asrh x) = tt
    within (Instruction.Bitop a b c d e f) = tt
    within (Instruction.Bitrev x) = tt
    within (Instruction.Popcount x) = tt
    within (Instruction.Ffs x) = tt
    within (Instruction.JmpExecAny x) = tt
    within (Instruction.JmpExecNone x) = tt
    within (Instruction.PopExec a b c) = tt
    within (Instruction.IfIcmp x) = tt
    within (Instruction.WhileIcmp x) = tt
    within (Instruction.ElseIcmp x) = tt

-- every instruction has a place in the list
pub place_below : (i : Instruction) → place_of i < 22
place_below i = let k = kind_within i in omega arith

-- what decodes to an instruction was found at the place of its diagram
pub found-place : (s : List ℕ) (i : Instruction) (n : ℕ) → decode_of s ≡ Ok (i, n) → find_of s ≡ Ok (place_of i, n)
found-place s = cases (λ d. (i : Instruction) (n : ℕ) → d ≡ Ok (i, n) → find_of s ≡ Ok (place_of i, n)) s here refused
  where
    here : (p m : ℕ) (j : Instruction) → find_of s ≡ Ok (p, m) → read_at p (le (take m s)) ≡ Some j
        → (i : Instruction) (n : ℕ) → ◌≡◌ {A = Decoded} (Ok (j, m)) (Ok (i, n)) → find_of s ≡ Ok (place_of i, n)
    here p m j f g i n e =
        let l = subst (Lent s) f (found-lent s) in
        let same = ok_pair_parts j i m n e in
        f ∙ ap₂ (λ (x y : ℕ). Ok (x, y)) (sym (read-place p (le (take m s)) l.0 j g) ∙ ap place_of same.0) same.1

    refused : (r : Refusal) → 2 ≤ number_of r → number_of r ≤ 4
        → (i : Instruction) (n : ℕ) → ◌≡◌ {A = Decoded} (Err r) (Ok (i, n)) → find_of s ≡ Ok (place_of i, n)
    refused r a b i n e = let z : ◌≡◌ {A = ℕ} 0 1 = cc in absurd (omega arith)
