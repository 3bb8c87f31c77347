-- A listing taken apart again: the bytes and the last line of a walk follow from its text.
use mathlib.Core.Path.{◌≡◌, refl, sym, ap, ap₂, ◌∙◌}
use mathlib.Core.Bool.{cond}
use mathlib.Core.List.{List, [], ◌∷◌, ◌++◌, append_assoc}
use Rattle.std.proofs.Common.{Some}
use Prim.Native.Nat.{ℕ, suc, ◌/◌, ◌<◌}
use native.Mathlib.Omega.{arith}
use lib.Dec.{eqb}
use lib.ListN.{get_or, drop}
use Rattle.bits.proofs.Laws.{Bytes}
use Rattle.isa.specs.Rows.{rows}
use Rattle.isa.specs.Refusal.{number_of, refusal}
use Rattle.isa.specs.Parts.{place_of}
use Rattle.isa.specs.declared.answer.Refusal.{Refusal}
use Rattle.isa.specs.declared.instruction.Instruction.{Instruction}
use Rattle.walk.specs.Walk.{Walk, ended, refused, stepped, shown, refusal_of}
use Rattle.lines.specs.Line.{tail_at, line_at, end_line, refused_line}
use Rattle.digits.specs.Digits.{digit, hex_bytes}
use Rattle.listing.specs.Listing.{text_of}
use Rattle.bits.proofs.Table.{agree}
use Rattle.digits.proofs.Digits.{value_of, value-digit, digit_above, digit_below, byte_same}
use Rattle.isa.proofs.Placed.{place_below}
use Rattle.isa.proofs.Numbers.{of_number, number_below}

-- ---- a line

hex_same : (a b x y : List ℕ) → Bytes a → Bytes b → hex_bytes a ++ 32 ∷ x ≡ hex_bytes b ++ 32 ∷ y → (a ≡ b) × (x ≡ y)
hex_same [] [] x y p q e = (refl, cc)
hex_same [] (b ∷ t) x y p q e =
    let z : 32 ≡ digit (b / 16) = ap (λ (l : List ℕ). get_or l 0 0) e in
    let h : b < 256 = q 0 in
    absurd (omega (arith, digit_above (b / 16) (omega arith)))
hex_same (a ∷ s) [] x y p q e =
    let z : digit (a / 16) ≡ 32 = ap (λ (l : List ℕ). get_or l 0 0) e in
    let h : a < 256 = p 0 in
    absurd (omega (arith, digit_above (a / 16) (omega arith)))
hex_same (a ∷ s) (b ∷ t) x y p q e =
    let ih = hex_same s t x y (λ k. p (suc k)) (λ k. q (suc k)) (ap (λ (l : List ℕ). drop 2 l) e) in
    let z = byte_same a b (p 0) (q 0) (ap (λ (l : List ℕ). get_or l 0 0) e) (ap (λ (l : List ℕ). get_or l 1 0) e) in
    (ap₂ (λ (m : ℕ) (l : List ℕ). m ∷ l) z ih.0, ih.1)

-- what stands after the first newline
rest : List ℕ → List ℕ
rest [] = []
rest (c ∷ s) = cond (eqb c 10) s (rest s)

rest-tail : (i : Instruction) (x : List ℕ) → rest (tail_at (place_of i) ++ x) ≡ x
unfolding rest rows
rest-tail i x =
    ap (λ (f : List ℕ → List ℕ). f x)
    (agree 22 (λ p t. rest (tail_at p ++ t)) (λ p t. t) refl (place_of i) (place_below i))

-- ---- the last line

-- the refusal of which a digit is the number
named : ℕ → Refusal
named c = refusal (value_of c)

named-digit : (r : Refusal) → named (digit (number_of r)) ≡ r
unfolding named
named-digit r = ap refusal (value-digit (number_of r) (omega (arith, number_below r))) ∙ of_number r

-- ---- a walk

-- its instructions are made of bytes
abbrev pub Plain : Walk → Type 0
Plain (ended at) = Unit {0}
Plain (refused at r) = Unit {0}
Plain (stepped at s i w) = Bytes s × Plain w

-- the character after the address and the space
mark : List ℕ → ℕ
mark t = get_or t 5 0

mark_step : (at : ℕ) (s : List ℕ) (i : Instruction) (w : Walk) → Bytes s → mark (text_of (stepped at s i w)) < 97
unfolding mark text_of line_at
mark_step at [] i w p = omega arith
mark_step at (b ∷ s) i w p = let h : b < 256 = p 0 in digit_below (b / 16) (omega arith)

pub text_same : (v w : Walk) → Plain v → Plain w → text_of v ≡ text_of w → (shown v ≡ shown w) × (refusal_of v ≡ refusal_of w)
unfolding mark text_of line_at end_line refused_line
text_same (ended a) (ended b) p q e = (refl, refl)
text_same (ended a) (refused b r) p q e = let z = ap mark e in absurd (omega arith)
text_same (ended a) (stepped b t j w) p q e = let z = ap mark e in absurd (omega (arith, mark_step b t j w q.0))
text_same (refused a r) (ended b) p q e = let z = ap mark e in absurd (omega arith)
text_same (refused a r) (refused b x) p q e =
    let z : digit (number_of r) ≡ digit (number_of x) = ap (λ (l : List ℕ). get_or l 13 0) e in
    (refl, ap Some (sym (named-digit r) ∙ ap named z ∙ named-digit x))
text_same (refused a r) (stepped b t j w) p q e = let z = ap mark e in absurd (omega (arith, mark_step b t j w q.0))
text_same (stepped a s i v) (ended b) p q e = let z = ap mark e in absurd (omega (arith, mark_step a s i v p.0))
text_same (stepped a s i v) (refused b r) p q e = let z = ap mark e in absurd (omega (arith, mark_step a s i v p.0))
text_same (stepped a s i v) (stepped b t j w) p q e =
    let x = tail_at (place_of i) ++ text_of v in
    let y = tail_at (place_of j) ++ text_of w in
    let f : hex_bytes s ++ x ≡ hex_bytes t ++ y =
    sym (append_assoc (hex_bytes s) (tail_at (place_of i)) (text_of v))
    ∙ ap (λ (l : List ℕ). drop 5 l) e
    ∙ append_assoc (hex_bytes t) (tail_at (place_of j)) (text_of w) in
    let h = hex_same s t (drop 1 x) (drop 1 y) p.0 q.0 f in
    let g : x ≡ y = ap (λ (l : List ℕ). 32 ∷ l) h.1 in
    let ih = text_same v w p.1 q.1 (sym (rest-tail i (text_of v)) ∙ ap rest g ∙ rest-tail j (text_of w)) in
    (ap₂ (λ (l m : List ℕ). l ++ m) h.0 ih.0, ih.1)
