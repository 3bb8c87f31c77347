-- Pieces that are put into a buffer one after the other.
use mathlib.Core.Path.{◌≡◌, sym, ap, ◌∙◌}
use mathlib.Core.List.{List, [], ◌∷◌, ◌++◌}
use Prim.Native.Nat.{ℕ, suc, ◌+◌, ◌≤◌}
use native.Mathlib.Nat.{add-zero}
use native.Mathlib.Omega.{arith}
use lib.ListN.{length, drop, take, set}
use lib.Seq.{sets, sets-eq, drop-drop}
use borrow.Rule.Slice.PartMut.{put_mid}
use Rattle.std.proofs.lemmas.List.{append_assoc}

sets_append : (p q t : List ℕ) (n : ℕ) → sets (sets t n p) (n + length p) q ≡ sets t n (p ++ q)
sets_append [] q t n = ap (λ (k : ℕ). sets t k q) (add-zero n)
sets_append (a ∷ p) q t n =
    let e : n + suc (length p) ≡ suc n + length p = omega arith in
    ap (λ (k : ℕ). sets (sets (set t n a) (suc n) p) k q) e ∙ sets_append p q (set t n a) (suc n)

-- a piece q after a piece p that has been put makes the piece r
pub after : (p q r t u : List ℕ) (n m : ℕ) → u ≡ sets t n p → m ≡ n + length p → r ≡ p ++ q → sets u m q ≡ sets t n r
after p q r t u n m e f g = rw (e, f, g) (sets_append p q t n)

-- a piece at the start of a buffer
pub put_first : (t p : List ℕ) (n : ℕ) → length p ≡ n → n ≤ length t → sets t 0 p ≡ p ++ drop n t
put_first t p n e h =
    let z : 0 + length p ≡ n = omega arith in
    sets-eq p t 0 (omega arith) ∙ ap (λ (k : ℕ). p ++ drop k t) z

-- a piece copied into the part of a buffer from n on
pub put_part : (t p : List ℕ) (n k : ℕ) → k ≡ length p → n + length p ≤ length t → put_mid n k t p ≡ sets t n p
put_part t p n k e h =
    ap (λ (u : List ℕ). take n t ++ (p ++ u)) (drop-drop k n t)
    ∙ ap (λ (m : ℕ). take n t ++ (p ++ drop (n + m) t)) e
    ∙ sym (sets-eq p t n h ∙ append_assoc (take n t) p (drop (n + length p) t))
