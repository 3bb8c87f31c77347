-- A decoded multiplication has factors of 32 bits at most.
use Rattle.std.proofs.Common.{Option, Some, None, Ok, Err}
use mathlib.Core.Path.{◌≡◌, sym, ap, ◌∙◌, subst}
use mathlib.Core.Bool.{Bool, true, false, cond}
use mathlib.Core.List.{List}
use Prim.Native.Nat.{ℕ, ◌+◌, ◌*◌, ◌/◌, ◌%◌, ◌≤◌, ◌<◌}
use lib.Dec.{eqb, lit≤}
use lib.ListN.{take}
use Rattle.bits.specs.Word.{le}
use Rattle.isa.specs.Operand.{uniform_of, source_of}
use Rattle.isa.specs.Rows.{rows}
use Rattle.isa.specs.Decode.{read_at, decode_of}
use Rattle.isa.specs.Parts.{parts_of, place_of}
use Rattle.isa.specs.declared.operand.Src.{Src}
use Rattle.isa.specs.declared.operand.Ternary.{Ternary}
use Rattle.isa.specs.declared.instruction.Instruction.{Instruction}
use Rattle.isa.specs.Answer.{Decoded}
use Rattle.isa.proofs.Cases.{cases}
use Rattle.isa.proofs.Found.{Lent, found-lent}
use Rattle.isa.proofs.Placed.{read-place}
use Rattle.isa.proofs.WasRead.{Reads, is_reads, on_ternary, of-ternary}
use Rattle.machine.specs.Words.{source_size}
use Rattle.action.specs.Acts.{Narrow}

-- ---- a source in a place that does not take 64 bits

abbrev NarrowSrc : Option Src → Type 0
NarrowSrc (Some s) = source_size s.source ≤ 32
NarrowSrc None = Unit {0}

choice_narrow : (b : Bool) (x y : Option Src) → NarrowSrc x → NarrowSrc y → NarrowSrc (cond b x y)
choice_narrow true x y p q = p
choice_narrow false x y p q = q

uniform_narrow : (u t1 : ℕ) → NarrowSrc (uniform_of false u t1)
unfolding uniform_of
uniform_narrow u t1 =
    choice_narrow (eqb t1 0) _ _ (lit≤ tt)
    (choice_narrow (eqb (u % 2) 0) _ _ (lit≤ tt)
    (choice_narrow (eqb (u / 2) 255) None None tt tt))

source_narrow : (v t : ℕ) → NarrowSrc (source_of false v t)
unfolding source_of
source_narrow v t =
    choice_narrow (eqb (t / 4) 0) _ _ (choice_narrow (eqb (t % 4) 0) _ _ (lit≤ tt) (lit≤ tt))
    (choice_narrow (eqb (t / 4) 1) _ _ (uniform_narrow (v + 256 * (t % 2)) (t / 2 % 2))
    (choice_narrow (eqb (t % 4) 0) None _ tt
    (choice_narrow (eqb (v % 2) 1) None _ tt
    (choice_narrow (eqb (t / 4) 2) _ None (lit≤ tt) tt))))

src-narrow : (v t : ℕ) (s : Src) → source_of false v t ≡ Some s → source_size s.source ≤ 32
src-narrow v t s e = subst NarrowSrc e (source_narrow v t)

-- ---- the diagram of imadd

imadd-narrow : (w : ℕ) → Reads Narrow (read_at 4 w)
unfolding rows
imadd-narrow w =
    on_ternary Narrow _ _ λ o e.
    let r = of-ternary _ _ _ _ o e in
    is_reads Narrow _ (record {
      factors = λ x S N As Bs Cs shift kept q.
          let z : o ≡ x = cc in
          subst (λ (y : Ternary). (source_size y.a.source ≤ 32) × (source_size y.b.source ≤ 32)) z
          (src-narrow _ _ o.a r.1, src-narrow _ _ o.b r.2);
    })

-- ---- what was decoded

pub narrow_at : (p w : ℕ) → p < 22 → (i : Instruction) → read_at p w ≡ Some i → Narrow i
unfolding parts_of
narrow_at p w h i e = record {
  factors = λ o S N As Bs Cs shift kept q.
      let k : 4 ≡ p = ap place_of (sym q) ∙ read-place p w h i e in
      ((imadd-narrow w).holds i (ap (λ (x : ℕ). read_at x w) k ∙ e)).factors o S N As Bs Cs shift kept q;
}

abbrev IfFound : Decoded → Type 0
IfFound (Ok (i, n)) = Narrow i
IfFound (Err r) = Unit {0}

pub decoded-narrow : (s : List ℕ) (i : Instruction) (n : ℕ) → decode_of s ≡ Ok (i, n) → Narrow i
decoded-narrow s i n e =
    subst IfFound e
    (cases IfFound s (λ p m j f g. narrow_at p (le (take m s)) (subst (Lent s) f (found-lent s)).0 j g) (λ r a b. tt))
