-- What bytes spell, test by test.
use Rattle.std.proofs.Common.{None}
use mathlib.Core.Path.{◌≡◌, refl, sym, ◌∙◌}
use mathlib.Core.Bool.{Bool, true, false, true≢false}
use mathlib.Core.List.{List}
use Prim.Native.Nat.{ℕ, ◌<◌}
use native.Mathlib.Omega.{arith}
use lib.Dec.{eqb}
use lib.ListN.{length}
use lib.Pointwise.{pointwise, bytes_decides}
use borrow.Author.Tests.{eq-eqb, ne_eqb, lt-ltb, le-ltb}
use Rattle.isa.specs.declared.instruction.Instruction.{Instruction}
use Rattle.bits.specs.Lists.{eq_list}
use Rattle.bits.proofs.Lists.{eq_list-is}
use Rattle.form.specs.Form.{form_of, spelled_by, spelled_of}
use Rattle.formread.specs.Read.{at, instruction_from}

-- two lists that were compared and differ
pub differ : (a b : List ℕ) (t : Bool) → t ≡ pointwise eqb a b → t ≡ false → a ≡ b → ⊥
differ a b t e f q = true≢false (sym ((bytes_decides a b).1 q) ∙ sym e ∙ f)

module _ (b : List ℕ) where
  pub other_length : (length b ≡ 48 → ⊥) → None ≡ spelled_of b
  unfolding spelled_of
  other_length h = rw (ne_eqb (length b) 48 h)

  module _ (l : length b ≡ 48) where
    pub no_kind : at b 0 ≡ 0 → None ≡ spelled_of b
    unfolding spelled_of
    no_kind h = rw (eq-eqb (length b) 48 l, h)

    pub high_kind : 22 < at b 0 → None ≡ spelled_of b
    unfolding spelled_of
    high_kind h =
        let z : 0 < at b 0 = omega arith in
        rw (eq-eqb (length b) 48 l, lt-ltb 0 (at b 0) z, le-ltb (at b 0) 23 h)

    -- the form of the one instruction that they can be is another
    pub other_form : 0 < at b 0 → at b 0 < 23 → (form_of (instruction_from (at b 0) b) ≡ b → ⊥) → None ≡ spelled_of b
    unfolding spelled_of
    other_form z u h =
        rw (eq-eqb (length b) 48 l, lt-ltb 0 (at b 0) z, lt-ltb (at b 0) 23 u)
        (go (eq_list (form_of i) b) refl)
      where
        i : Instruction
        i = instruction_from (at b 0) b

        go : (t : Bool) → eq_list (form_of i) b ≡ t → None ≡ spelled_by i b
        go true e = absurd (h (eq_list-is (form_of i) b e))
        go false e = rw e
