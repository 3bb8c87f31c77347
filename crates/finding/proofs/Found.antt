-- The first row that matches the word of some bytes is what the finding rule answers for them.
use Rattle.std.proofs.Common.{Ok}
use mathlib.Core.Path.{◌≡◌, refl, ap₂, ◌∙◌, subst}
use mathlib.Core.Bool.{false}
use mathlib.Core.List.{List}
use Prim.Native.Nat.{ℕ, ◌*◌, ◌^◌, ◌≤◌, ◌<◌, min}
use native.Mathlib.Omega.{arith}
use lib.ListN.{length, take, length-take}
use Rattle.bits.specs.Word.{word_of}
use Rattle.bits.proofs.Laws.{Bytes, bytes_take, le_lt, pow_bytes}
use Rattle.bits.proofs.Masks.{and_all}
use Rattle.isa.specs.Find.{find_of}
use Rattle.isa.specs.Answer.{Find}
use Rattle.rows.specs.Table.{table}
use Rattle.finding.specs.First.{first_of, FoundWithin}
use Rattle.finding.proofs.First.{form_is_found}
use Rattle.finding.proofs.Forms.{first_row_is_first_form}

pub within : (f : Find) (p n : ℕ) → FoundWithin f → f ≡ Ok (p, n) → (p < 22) × (n < 9)
within f p n h e = subst FoundWithin e h

-- absent bytes are zero
pub word-lent : (s : List ℕ) → Bytes s → (w n : ℕ) → w ≡ word_of s → n ≡ min 8 (length s) → w < 2 ^ (8 * n)
word-lent s hs w n ew en =
    let l : length (take 8 s) ≤ n = rw (length-take 8 s, en) (omega arith) in
    rw (ew, pow_bytes n) (le_lt (take 8 s) n (bytes_take 8 s hs) l)

pub first_is_found : (s : List ℕ) → Bytes s → first_of table 0 false (word_of s) (min 8 (length s)) ≡ find_of s
first_is_found s hs =
    first_row_is_first_form (word_of s) (min 8 (length s)) (and_all (word_of s) (8 * min 8 (length s)) (word-lent s hs _ _ refl refl)) ∙ form_is_found s hs

pub found : (s : List ℕ) → Bytes s → (w n : ℕ) (f : Find) → w ≡ word_of s → n ≡ min 8 (length s) → f ≡ first_of table 0 false w n → f ≡ find_of s
found s hs w n f ew en ef = ef ∙ ap₂ (λ (x y : ℕ). first_of table 0 false x y) ew en ∙ first_is_found s hs
