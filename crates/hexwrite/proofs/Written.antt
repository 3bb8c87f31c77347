-- The rows of a kernel from an address on: the row that begins there, and the rows from the next address on; how long they are.
use mathlib.Core.Path.{◌≡◌, refl, ap, ◌∙◌}
use mathlib.Core.List.{List, [], ◌∷◌, ◌++◌}
use Prim.Native.Nat.{ℕ, zero, suc, ◌+◌, ◌*◌, ◌/◌, ◌≤◌, ◌<◌, min}
use native.Mathlib.Omega.{arith}
use lib.ListN.{length, take, drop, length-append, length-take, length-drop}
use Rattle.digits.specs.Digits.{hex_bytes}
use Rattle.digits.proofs.Digits.{length-hex_bytes}
use Rattle.hexwrite.specs.Write.{head_of, with_sum, sum_for, row_for, end_row, rows_from, hex_of}

-- as many rows as there are bytes are enough
enough : (k m at : ℕ) (s : List ℕ) → length s ≤ k → length s ≤ m → rows_from k at s ≡ rows_from m at s
unfolding rows_from
enough zero zero at s h g = refl
enough zero (suc m) at [] h g = refl
enough zero (suc m) at (b ∷ s) h g = absurd (omega arith)
enough (suc k) zero at [] h g = refl
enough (suc k) zero at (b ∷ s) h g = absurd (omega arith)
enough (suc k) (suc m) at [] h g = refl
enough (suc k) (suc m) at (b ∷ s) h g =
    let l = length-drop 16 (b ∷ s) in
    ap (λ (t : List ℕ). row_for 0 at (take 16 (b ∷ s)) ++ t) (enough k m (at + 16) (drop 16 (b ∷ s)) (omega arith) (omega arith))

-- all rows of some bytes, from an address on
pub rows_all : ℕ → List ℕ → List ℕ
rows_all at s = rows_from (length s) at s

pub all-rows : (code : List ℕ) → rows_all 0 code ≡ hex_of code
unfolding rows_all hex_of
all-rows code = refl

first_row : (at : ℕ) (s : List ℕ) → 0 < length s → rows_all at s ≡ row_for 0 at (take 16 s) ++ rows_all (at + 16) (drop 16 s)
unfolding rows_all rows_from
first_row at [] h = absurd (omega arith)
first_row at (b ∷ s) h =
    let l = length-drop 16 (b ∷ s) in
    ap (λ (t : List ℕ). row_for 0 at (take 16 (b ∷ s)) ++ t)
    (enough (length s) (length (drop 16 (b ∷ s))) (at + 16) (drop 16 (b ∷ s)) (omega arith) (omega arith))

-- a piece of n bytes off the front, or of all where there are fewer, and what it leaves
piece : (n : ℕ) (x t : List ℕ) → length x ≡ min n (length (x ++ t)) → take n (x ++ t) ≡ x
piece zero [] t h = refl
piece zero (b ∷ x) t h = absurd (omega arith)
piece (suc n) [] [] h = refl
piece (suc n) [] (b ∷ t) h = absurd (omega arith)
piece (suc n) (b ∷ x) t h = ap (λ (l : List ℕ). b ∷ l) (piece n x t (omega arith))

rest : (n : ℕ) (x t : List ℕ) → length x ≡ min n (length (x ++ t)) → drop n (x ++ t) ≡ t
rest zero [] t h = refl
rest zero (b ∷ x) t h = absurd (omega arith)
rest (suc n) [] [] h = refl
rest (suc n) [] (b ∷ t) h = absurd (omega arith)
rest (suc n) (b ∷ x) t h = rest n x t (omega arith)

-- the row of the bytes x at the front of s, and the rows of the bytes t that it leaves
pub row_on : (at : ℕ) (s x t : List ℕ) → s ≡ x ++ t → length x ≡ min 16 (length s) → 0 < length s
    → rows_all at s ≡ row_for 0 at x ++ rows_all (at + 16) t
row_on at s x t e l h =
    let k : length x ≡ min 16 (length (x ++ t)) = l ∙ ap (λ (u : List ℕ). min 16 (length u)) e in
    first_row at s h
    ∙ ap (λ (u : List ℕ). row_for 0 at (take 16 u) ++ rows_all (at + 16) (drop 16 u)) e
    ∙ rw (piece 16 x t k, rest 16 x t k) refl

-- ---- lengths

pub length_row : (type at : ℕ) (bytes : List ℕ) → length (row_for type at bytes) ≡ 2 * length bytes + 12
unfolding row_for
length_row type at bytes =
    let b = with_sum (head_of type at bytes) in
    omega (arith, length-append (hex_bytes b) (10 ∷ []), length-hex_bytes b, length-append bytes (sum_for (head_of type at bytes) ∷ []))

length-rows : (k at : ℕ) (s : List ℕ) → length s ≤ k → length (rows_from k at s) ≡ 12 * ((length s + 15) / 16) + 2 * length s + 12
unfolding rows_from
length-rows zero at [] h = refl
length-rows zero at (b ∷ s) h = absurd (omega arith)
length-rows (suc k) at [] h = refl
length-rows (suc k) at (b ∷ s) h =
    let l = length-drop 16 (b ∷ s) in
    let t = length-take 16 (b ∷ s) in
    let r = length_row 0 at (take 16 (b ∷ s)) in
    let ih = length-rows k (at + 16) (drop 16 (b ∷ s)) (omega arith) in
    length-append (row_for 0 at (take 16 (b ∷ s))) (rows_from k (at + 16) (drop 16 (b ∷ s))) ∙ omega arith

pub length_hex : (code : List ℕ) → length (hex_of code) ≡ 12 * ((length code + 15) / 16) + 2 * length code + 12
unfolding hex_of
length_hex code = length-rows (length code) 0 code (omega arith)

-- after the last byte the end row is left
pub end-rows : (at : ℕ) → end_row ≡ rows_all at []
unfolding rows_all rows_from
end-rows at = refl

pub last_row : (at : ℕ) → length (rows_all at []) ≡ 12
unfolding rows_all rows_from
last_row at = refl
