-- What an operation computes depends on no source but those that it looks at.
use mathlib.Core.Path.{◌≡◌, refl}
use mathlib.Core.Bool.{true}
use Prim.Native.Nat.{ℕ}
use Rattle.machine.specs.Meaning.{mov, get_sr, iadd, asr, asrh, bitop, bitrev, popcount, ffs, pop_exec}
use Rattle.operations.specs.Operation.{result_by, looks_by}
use Rattle.operations.specs.declared.Operation.{Operation}

module _ (x y z x' y' z' : ℕ) where
  pub looked_at : (o : Operation) → ((looks_by o).a ≡ true → x ≡ x') → ((looks_by o).b ≡ true → y ≡ y') → ((looks_by o).c ≡ true → z ≡ z')
      → result_by o x y z ≡ result_by o x' y' z'
  unfolding mov get_sr iadd asr asrh bitop bitrev popcount ffs pop_exec
  looked_at (Operation.Mov imm) a b c = refl
  looked_at Operation.GetSr a b c = rw (a refl)
  looked_at (Operation.Iadd o) a b c = rw (a refl, b refl)
  looked_at (Operation.Imadd o) a b c = rw (a refl, b refl, c refl)
  looked_at (Operation.Bfi m) a b c = rw (a refl, b refl, c refl)
  looked_at (Operation.Bfeil m) a b c = rw (a refl, b refl, c refl)
  looked_at (Operation.Extr m) a b c = rw (a refl, b refl, c refl)
  looked_at (Operation.Shlhi m) a b c = rw (a refl, b refl, c refl)
  looked_at (Operation.Shrhi m) a b c = rw (a refl, b refl, c refl)
  looked_at (Operation.Asr size) a b c = rw (a refl, b refl)
  looked_at (Operation.Asrh size) a b c = rw (a refl, b refl)
  looked_at (Operation.Bitop o) a b c = rw (a refl, b refl)
  looked_at Operation.Bitrev a b c = rw (a refl)
  looked_at Operation.Popcount a b c = rw (a refl)
  looked_at Operation.Ffs a b c = rw (a refl)
  looked_at (Operation.PopExec n) a b c = rw (c refl)
  looked_at (Operation.IfIcmp o) a b c = rw (a refl, b refl, c refl)
  looked_at (Operation.WhileIcmp o) a b c = rw (a refl, b refl, c refl)
  looked_at (Operation.ElseIcmp o) a b c = rw (a refl, b refl, c refl)
