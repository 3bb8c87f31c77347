use mathlib.Core.Path.{◌≡◌, refl, ◌∙◌}
use mathlib.Core.List.{[], ◌∷◌}
use Prim.Native.Nat.{ℕ, ◌/◌, ◌%◌}
use native.Mathlib.Nat.{mod-eq_of_lt}
use mir.Syntax.{w32}
use borrow.Author.Rules.{rules}
use Rattle.std.specs.Int.{to_le_bytes}
use Rattle.records.proofs.record.Goals as goal

-- the bytes of a mask as the library has them
four_bytes : (w : ℕ) → to_le_bytes w32 w ≡ w % 256 ∷ w / 256 % 256 ∷ w / 256 / 256 % 256 ∷ w / 256 / 256 / 256 % 256 ∷ []
four_bytes w = search rules

pub returns : goal.returns
returns c =
    rw (
      c.to_le_bytes-at.ensures,
      c.to_le_bytes-size.ensures,
      c.to_le_bytes-b.ensures ∙ four_bytes c.args.before,
      c.to_le_bytes-a.ensures ∙ four_bytes c.args.after,
      mod-eq_of_lt c.ranges.class.fits,
    ) refl
