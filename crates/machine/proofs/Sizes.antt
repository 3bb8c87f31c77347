-- A call is arranged exactly where its sizes are those of "Sizes of what is lent".
use mathlib.Core.Path.{◌≡◌}
use mathlib.Core.Bool.{Bool, true, false}
use mathlib.Core.List.{List}
use Prim.Native.Nat.{ℕ, ◌*◌, ◌%◌, ◌≤◌}
use native.Mathlib.Omega.{arith}
use borrow.Author.Tests.{eqb-true, leb-true, eq-eqb, le-leb}
use lib.Dec.{eqb, leb}
use lib.ListN.{length}
use Rattle.machine.specs.Meaning.{both}
use Rattle.machine.specs.Run.{Call, columns, marks_length, code_limit, budget_limit, arranged}

-- 32 x n words, n from fewest to most
pub record Columns (fewest most : ℕ) (words : List ℕ) : Type 0 where
  pub whole : length words % 32 ≡ 0
  pub least : 32 * fewest ≤ length words
  pub greatest : length words ≤ 32 * most

pub record Sizes (c : Call) : Type 0 where
  pub code : length c.code ≤ 8192
  pub registers : Columns 1 128 c.registers
  pub marks : length c.marks ≡ 2 * length c.registers
  pub uniforms : length c.uniforms ≡ 256
  pub specials : Columns 0 256 c.specials
  pub some : 1 ≤ c.budget
  pub budget : c.budget ≤ 4096
  pub even : c.start % 2 ≡ 0
  pub inside : c.start ≤ length c.code
  pub room : 16 * c.budget ≤ length c.records

pub parts : (p q : Bool) → both p q ≡ true → (p ≡ true) × (q ≡ true)
parts true true e = (e, e)
parts true false e = let z : ◌≡◌ {A = ℕ} 0 1 = cc in absurd (omega arith)
parts false q e = let z : ◌≡◌ {A = ℕ} 0 1 = cc in absurd (omega arith)

in_columns : (fewest most : ℕ) (words : List ℕ) → columns fewest most words ≡ true → Columns fewest most words
in_columns fewest most words e =
    let a = parts (eqb (length words % 32) 0) _ e in
    let b = parts (leb (32 * fewest) (length words)) _ a.1 in
    record { whole = eqb-true _ _ a.0; least = leb-true _ _ b.0; greatest = leb-true _ _ b.1 }

pub sizes : (c : Call) → arranged c ≡ true → Sizes c
unfolding arranged
sizes c e =
    let code = parts (leb (length c.code) code_limit) _ e in
    let registers = parts (columns 1 128 c.registers) _ code.1 in
    let marks = parts (eqb (length c.marks) (marks_length (length c.registers))) _ registers.1 in
    let uniforms = parts (eqb (length c.uniforms) 256) _ marks.1 in
    let specials = parts (columns 0 256 c.specials) _ uniforms.1 in
    let some = parts (leb 1 c.budget) _ specials.1 in
    let budget = parts (leb c.budget budget_limit) _ some.1 in
    let even = parts (eqb (c.start % 2) 0) _ budget.1 in
    let inside = parts (leb c.start (length c.code)) _ even.1 in
    record {
      code = leb-true _ _ code.0;
      registers = in_columns 1 128 c.registers registers.0;
      marks = eqb-true _ _ marks.0;
      uniforms = eqb-true _ _ uniforms.0;
      specials = in_columns 0 256 c.specials specials.0;
      some = leb-true _ _ some.0;
      budget = leb-true _ _ budget.0;
      even = eqb-true _ _ even.0;
      inside = leb-true _ _ inside.0;
      room = leb-true _ _ inside.1;
    }

has_columns : (fewest most : ℕ) (words : List ℕ) → Columns fewest most words → columns fewest most words ≡ true
has_columns fewest most words s = rw (eq-eqb _ _ s.whole, le-leb _ _ s.least, le-leb _ _ s.greatest)

pub sized : (c : Call) → Sizes c → arranged c ≡ true
unfolding arranged
sized c s =
    rw (
      le-leb _ _ s.code,
      has_columns 1 128 c.registers s.registers,
      eq-eqb _ _ s.marks,
      eq-eqb _ _ s.uniforms,
      has_columns 0 256 c.specials s.specials,
      le-leb _ _ s.some,
      le-leb _ _ s.budget,
      eq-eqb _ _ s.even,
      le-leb _ _ s.inside,
      le-leb _ _ s.room,
    )
