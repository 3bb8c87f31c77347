-- A text of 65,536 characters has room for that of every kernel that is not too long: the call on such a text.
use Rattle.std.specs.Prelude.{MatchOption}
use mathlib.Core.Path.{◌≡◌, refl, sym, ap, ◌∙◌}
use mathlib.Core.Bool.{Bool, true, false}
use mathlib.Core.List.{List, ◌++◌}
use Prim.Native.Nat.{ℕ, ◌≤◌, ◌<◌}
use native.Mathlib.Omega.{arith}
use lib.Dec.{leb}
use lib.ListN.{length, take, drop, length-append}
use lib.Seq.{take-append_seam}
use borrow.Author.Tests.{leb-true, leb-false, le-leb}
use Rattle.hexfile.specs.Read.{limit}
use Rattle.hexwrite.specs.Write.{hex_of}
use Rattle.hexfile.specs.Write.{writing_of, text_left}
use Rattle.hexwrite.proofs.Written.{length_hex}

-- the text of a kernel that is not too long, at the start
abbrev pub Shows : List ℕ → List ℕ → ℕ → Type 0
Shows code new n = ((n ≤ length new) × (n ≡ length (take n new))) × (take n new ≡ hex_of code) × (length code ≤ limit)

module _ (code old new : List ℕ) (h : 65536 ≡ length old) (f : new ≡ text_left code old) where
  room : leb (length code) limit ≡ true → leb (length (hex_of code)) (length old) ≡ true
  room t = let g = leb-true (length code) limit t in le-leb (length (hex_of code)) (length old) (omega (arith, length_hex code))

  pub shown : MatchOption (writing_of code (length old)) (limit < length code) (Shows code new)
  shown = go (leb (length code) limit) refl
    where
      go : (b : Bool) → leb (length code) limit ≡ b → MatchOption (writing_of code (length old)) (limit < length code) (Shows code new)
      go true t =
          let u = room t in
          let v : new ≡ hex_of code ++ drop (length (hex_of code)) old = f ∙ rw (t, u) in
          let a = length-append (hex_of code) (drop (length (hex_of code)) old) in
          let w : take (length (hex_of code)) new ≡ hex_of code = rw v (take-append_seam (hex_of code) (drop (length (hex_of code)) old)) in
          rw (t, u) ((omega (arith, ap length v), sym (ap length w)), w, leb-true (length code) limit t)
      go false t = rw t (leb-false (length code) limit t)
