-- Fields: some bits of an instruction's word, with their number, and fields joined by the document's ":".
use Rattle.std.specs.Prelude.{ℕ, ◌+◌, ◌*◌, ◌^◌}

pub record Bits : Type 0 where
  pub width : ℕ
  pub value : ℕ

infixr 40 ◌⦂◌
-- hi:lo, the most significant first
abbrev pub ◌⦂◌ : Bits → Bits → Bits
◌⦂◌ hi lo = record { width = hi.width + lo.width; value = hi.value * 2 ^ lo.width + lo.value }
