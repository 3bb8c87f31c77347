-- An integer, brought no further than a distance from 0.
use Rattle.std.specs.Prelude.{ℕ, ℤ, pos, neg_ℤ}
use Rattle.machine.specs.Integer.{limit}

abbrev pub capped : ℕ → ℤ → ℤ
capped most z = limit (neg_ℤ (pos most)) (pos most) z
