-- Digits and pairs of digits: the statements and the numbers of the definition of reading say the same.
use mathlib.Core.Path.{◌≡◌, refl}
use mathlib.Core.Bool.{Bool, true, false, cond, ◌&&◌}
use mathlib.Core.List.{List, [], ◌∷◌, ◌++◌}
use Prim.Native.Nat.{ℕ, zero, suc, ◌+◌, ◌*◌, ◌-◌, ◌≤◌, ◌<◌}
use native.Mathlib.Omega.{arith}
use lib.Dec.{leb}
use lib.ListN.{length, take}
use borrow.Author.Tests.{le-leb, lt-leb, leb-true, lt-ltb}
use Rattle.hexpairs.specs.Pairs.{digit_value, pairs, spelled}
use Rattle.hexrow.proofs.Lines.{first_pair}
use Rattle.hexlaws.specs.Form.{Digit, decimal, upper, lower, Spells, none, pair}

-- ---- a digit

pub digit_value_lem : {c m : ℕ} → Digit c m → (digit_value c ≡ m) × (m < 16)
digit_value_lem (decimal n h) =
    let e : 48 + n - 48 ≡ n = omega arith in
    (rw (le-leb 48 (48 + n) (omega arith), le-leb (48 + n) 57 (omega arith)) e, omega arith)
digit_value_lem (upper n h) =
    let e : 65 + n - 55 ≡ 10 + n = omega arith in (
      rw (le-leb 48 (65 + n) (omega arith), lt-leb (65 + n) 57 (omega arith), le-leb 65 (65 + n) (omega arith), le-leb (65 + n) 70 (omega arith)) e,
      omega arith,
    )
digit_value_lem (lower n h) =
    let e : 97 + n - 87 ≡ 10 + n = omega arith in (
      rw (
        le-leb 48 (97 + n) (omega arith),
        lt-leb (97 + n) 57 (omega arith),
        le-leb 65 (97 + n) (omega arith),
        lt-leb (97 + n) 70 (omega arith),
        le-leb 97 (97 + n) (omega arith),
        le-leb (97 + n) 102 (omega arith),
      ) e,
      omega arith,
    )

-- a choice of the definition, below 256
chosen : (low high c x y : ℕ) → cond (leb low c && leb c high) x y < 256 → (low ≤ c → c ≤ high → x < 256 → Digit c x) → (y < 256 → Digit c y)
    → Digit c (cond (leb low c && leb c high) x y)
chosen low high c x y = go (leb low c) (leb c high) refl refl
  where
    go : (s t : Bool) → leb low c ≡ s → leb c high ≡ t → cond (s && t) x y < 256 → (low ≤ c → c ≤ high → x < 256 → Digit c x) → (y < 256 → Digit c y)
        → Digit c (cond (s && t) x y)
    go true true e f h a b = a (leb-true low c e) (leb-true c high f) h
    go true false e f h a b = b h
    go false t e f h a b = b h

at-decimal : (c n : ℕ) → c ≡ 48 + n → n < 10 → Digit c n
at-decimal c n e h = rw e (decimal n h)

at-upper : (c m n : ℕ) → c ≡ 65 + n → m ≡ 10 + n → n < 6 → Digit c m
at-upper c m n e f h = rw (e, f) (upper n h)

at-lower : (c m n : ℕ) → c ≡ 97 + n → m ≡ 10 + n → n < 6 → Digit c m
at-lower c m n e f h = rw (e, f) (lower n h)

pub value-digit : (c : ℕ) → digit_value c < 256 → Digit c (digit_value c)
value-digit c h =
    chosen 48 57 c (c - 48) (cond (leb 65 c && leb c 70) (c - 55) (cond (leb 97 c && leb c 102) (c - 87) 256)) h
    (λ low high s. at-decimal c (c - 48) (omega arith) (omega arith))
    (λ k. chosen 65 70 c (c - 55) (cond (leb 97 c && leb c 102) (c - 87) 256) k
    (λ low high s. at-upper c (c - 55) (c - 65) (omega arith) (omega arith) (omega arith))
    (λ l. chosen 97 102 c (c - 87) 256 l
    (λ low high s. at-lower c (c - 87) (c - 97) (omega arith) (omega arith) (omega arith))
    (λ m. absurd (omega arith))))

-- a line feed is no digit
pub no_feed : {c m : ℕ} → Digit c m → c ≡ 10 → ⊥
no_feed (decimal n h) e = omega arith
no_feed (upper n h) e = omega arith
no_feed (lower n h) e = omega arith

-- ---- pairs

pub spells-pairs : {s b : List ℕ} → Spells s b → (r : List ℕ)
    → (pairs (length b) (s ++ r) ≡ true) × (spelled (length b) (s ++ r) ≡ b) × (length s ≡ 2 * length b)
unfolding pairs spelled
spells-pairs none r = (refl, refl, refl)
spells-pairs (pair {c = c} {d = d} {m = m} {n = n} {s = s} {b = b} x y z) r =
    let u = digit_value_lem x in
    let v = digit_value_lem y in
    let ih = spells-pairs z r in
    let e : 16 * digit_value c + digit_value d ≡ 16 * m + n = rw (u.0, v.0) in
    (rw (e, lt-ltb (16 * m + n) 256 (omega arith)) ih.0, rw (e, ih.1), omega (arith, ih.2))

pub pairs_spell : (n : ℕ) (s : List ℕ) → pairs n s ≡ true → Spells (take (2 * n) s) (spelled n s)
unfolding spelled
pairs_spell zero s e = none
pairs_spell (suc n) [] e = let f = (first_pair n [] e).0 in absurd (omega arith)
pairs_spell (suc n) (c ∷ []) e = let f = (first_pair n (c ∷ []) e).0 in absurd (omega arith)
pairs_spell (suc n) (c ∷ d ∷ s) e =
    let f = first_pair n (c ∷ d ∷ s) e in
    let h = f.0 in
    let g : 2 * suc n ≡ suc (suc (2 * n)) = omega arith in
    rw g (pair (value-digit c (omega arith)) (value-digit d (omega arith)) (pairs_spell n s f.1))
