-- Kernels that are not too long are walked; else the answer is the refusal.
use Rattle.std.proofs.Common.{◌≡◌, ℕ, Bool, true, false, cond, leb, List, length, refl}
use Rattle.std.specs.Prelude.{⊤}
use Rattle.std.specs.declared.ops.ControlFlow.TheVariants.{Continue, Break}
use mathlib.Core.Path.{subst, sym}
use Rattle.isa.specs.Refusal.{refusal}
use Rattle.walk.specs.Walk.{walk_of, limit}
use Rattle.comparison.specs.Compare.{compare_of}
use Rattle.comparison.specs.declared.Kernel.{Kernel}
use Rattle.comparison.specs.declared.Comparison.{Comparison}
use Rattle.turns.specs.Turn.{Turn, beginning}
use Rattle.compare.specs.Here.{walks_of}

-- how it begins says what the comparison is
abbrev pub Follows : List ℕ → List ℕ → Turn ⊤ → Type 0
Follows a b (Continue x) = walks_of a b ≡ compare_of a b
Follows a b (Break answer) = answer ≡ compare_of a b

pub follows : (a b : List ℕ) (t : Turn ⊤) → t ≡ beginning (length a) (length b) → Follows a b t
unfolding compare_of walk_of
follows a b t e = subst (Follows a b) (sym e) (go (leb (length a) limit) refl (leb (length b) limit) refl)
  where
    go : (s : Bool) → leb (length a) limit ≡ s → (t : Bool) → leb (length b) limit ≡ t
        → Follows a b
        (cond s (cond t (Continue tt) (Break (Comparison.Refused 0 (refusal 1) Kernel.Second)))
        (Break (Comparison.Refused 0 (refusal 1) Kernel.First)))
    go true e true f = rw (e, f)
    go true e false f = rw (e, f)
    go false e t f = rw e
