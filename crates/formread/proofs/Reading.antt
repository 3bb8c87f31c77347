-- Reading a number from some bytes of a list.
use mathlib.Core.Path.{◌≡◌, ap, ◌∙◌}
use mathlib.Core.List.{List}
use Prim.Native.Nat.{ℕ, ◌+◌, ◌-◌, ◌^◌, ◌≤◌, ◌<◌}
use native.Mathlib.Omega.{arith}
use lib.ListN.{length, take, drop, length-take}
use lib.Seq.{take_all}
use Rattle.bits.specs.Word.{le, word_of}
use Rattle.bits.proofs.Laws.{Bytes, bytes_take, bytes_drop, le_lt}
use Rattle.formread.specs.Read.{number_at}

-- the word of n bytes from k on is their number
pub word_number : (s : List ℕ) (k n r : ℕ) → Bytes s → n ≤ 8 → r ≡ word_of (take (k + n - k) (drop k s))
    → (r ≡ number_at s k n) × (r < 256 ^ n)
word_number s k n r b h e =
    let l : length (take n (drop k s)) ≤ n = rw length-take (omega arith) in
    let m : k + n - k ≡ n = omega arith in
    let q : r ≡ number_at s k n = e ∙ rw m (ap le (take_all 8 (take n (drop k s)) (omega arith))) in
    (q, rw q (le_lt (take n (drop k s)) n (bytes_take n (drop k s) (bytes_drop k s b)) l))
