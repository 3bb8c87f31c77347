-- The laws of the byte form: an instruction and the bytes that spell it.
use Rattle.std.proofs.Common.{Option, Some, None}
use mathlib.Core.Path.{◌≡◌, refl, sym, ap, ◌∙◌}
use mathlib.Core.Bool.{Bool, true, false, cond, ◌&&◌}
use mathlib.Core.List.{List}
use Prim.Native.Nat.{ℕ}
use native.Mathlib.Omega.{arith}
use lib.Dec.{eqb, ltb}
use lib.ListN.{length}
use borrow.Author.Tests.{lt-ltb}
use Rattle.isa.specs.declared.instruction.Instruction.{Instruction}
use Rattle.isa.proofs.Placed.{kind_within}
use Rattle.bits.specs.Lists.{eq_list}
use Rattle.bits.proofs.Lists.{eq_list-is, eq_list_self}
use Rattle.form.specs.Form.{form_of, spelled_by, spelled_of}
use Rattle.formread.specs.Read.{at, instruction_from}
use Rattle.form.specs.Fits.{Fits}
use Rattle.form.proofs.Back.{instruction-back}

pub form_length_lem : (i : Instruction) → length (form_of i) ≡ 48
form_length_lem i = refl

-- ---- bytes that spell an instruction are its form

where_is : (t : Bool) (x : Option Instruction) (i : Instruction) → cond t x None ≡ Some i → (t ≡ true) × (x ≡ Some i)
where_is true x i e = (refl, e)
where_is false x i e = let z : ◌≡◌ {A = ℕ} 0 1 = cc in absurd (omega arith)

by_form_lem : (x i : Instruction) (b : List ℕ) → spelled_by x b ≡ Some i → b ≡ form_of i
by_form_lem x i b e =
    let p = where_is (eq_list (form_of x) b) (Some x) i e in
    let q : x ≡ i = cc p.1 in
    sym (eq_list-is (form_of x) b p.0) ∙ ap form_of q

pub spelled_form : (b : List ℕ) (i : Instruction) → spelled_of b ≡ Some i → b ≡ form_of i
unfolding spelled_of
spelled_form b i e =
    by_form_lem (instruction_from (at b 0) b) i b
    (where_is (eqb (length b) 48 && (ltb 0 (at b 0) && ltb (at b 0) 23)) (spelled_by (instruction_from (at b 0) b) b) i e).1

-- ---- the form of an instruction that fits spells it

pub form_spelled : (i : Instruction) → Fits i → spelled_of (form_of i) ≡ Some i
unfolding spelled_of
form_spelled i f =
    let l = (kind_within i).0 in
    let u = (kind_within i).1 in
    rw (lt-ltb _ _ l, lt-ltb _ _ u, instruction-back i f, eq_list_self (form_of i))

pub one_form : (i j : Instruction) → Fits i → Fits j → form_of i ≡ form_of j → i ≡ j
one_form i j f g e =
    let s : Some i ≡ Some j = sym (form_spelled i f) ∙ ap spelled_of e ∙ form_spelled j g in
    cc
