-- The comparison of two lists of numbers says whether they are equal.
use mathlib.Core.Path.{◌≡◌, refl}
use mathlib.Core.Bool.{true}
use mathlib.Core.List.{List}
use Prim.Native.Nat.{ℕ}
use lib.Pointwise.{bytes_decides}
use Rattle.bits.specs.Lists.{eq_list}

pub eq_list-is : (a b : List ℕ) → eq_list a b ≡ true → a ≡ b
eq_list-is a b = (bytes_decides a b).0

pub eq_list_self : (a : List ℕ) → eq_list a a ≡ true
eq_list_self a = (bytes_decides a a).1 refl
