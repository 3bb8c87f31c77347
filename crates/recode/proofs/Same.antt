-- What is decoded and encoded again is what it was.
use Rattle.std.proofs.Common.{Ok, Err}
use mathlib.Core.Path.{◌≡◌, refl, ap, ap₂, ◌∙◌}
use mathlib.Core.List.{List, [], ◌∷◌, ◌++◌}
use Prim.Native.Nat.{ℕ, zero, suc, ◌≤◌}
use lib.ListN.{length, take, drop, take-append-drop}
use lib.Seq.{take_at}
use borrow.Author.Tests.{le-leb}
use Rattle.bits.proofs.Laws.{Bytes, bytes_drop}
use Rattle.isa.specs.Decode.{decode_of}
use Rattle.isa.specs.Answer.{Decoded}
use Rattle.encode.specs.Encode.{bytes_for}
use Rattle.roundtrip.proofs.Back.{bytes_back}
use Rattle.recode.specs.Recode.{on_decoded, again_from, recoded_of, left_of}

again_same : (k : ℕ) (s : List ℕ) → Bytes s → again_from k s ≡ s
unfolding again_from
again_same zero s h = refl
again_same (suc k) [] h = refl
again_same (suc k) (b ∷ s) h = go (decode_of (b ∷ s)) refl (λ n. again_same k (drop n (b ∷ s)) (bytes_drop n (b ∷ s) h))
  where
    go : (d : Decoded) → decode_of (b ∷ s) ≡ d → ((n : ℕ) → again_from k (drop n (b ∷ s)) ≡ drop n (b ∷ s))
        → on_decoded d (λ i n. bytes_for i ++ again_from k (drop n (b ∷ s))) (b ∷ s) ≡ b ∷ s
    go (Ok (i, n)) e ih =
        ap₂ (λ (x y : List ℕ). x ++ y) (bytes_back (b ∷ s) h i n e) (ih n) ∙ take-append-drop n (b ∷ s)
    go (Err r) e ih = refl

pub recoded_same : (code : List ℕ) → Bytes code → recoded_of code ≡ code
unfolding recoded_of
recoded_same code h = again_same (length code) code h

-- the first bytes that the call leaves are the code, decoded and encoded again
pub left_first : (code old : List ℕ) → Bytes code → length code ≤ length old → take (length code) (left_of code old) ≡ recoded_of code
left_first code old h g =
    rw (le-leb (length code) (length old) g)
    (take_at (recoded_of code) (drop (length code) old) (length code) (ap length (recoded_same code h)))
