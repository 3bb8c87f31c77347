-- What an answer says of the first line of a text: a row of data, the end row, a bad row.
use Rattle.std.specs.Prelude.{Ok, Err}
use mathlib.Core.Path.{◌≡◌, refl, sym, ap, ◌∙◌}
use mathlib.Core.Bool.{Bool, true, false, cond, ◌&&◌}
use mathlib.Core.List.{List}
use Prim.Native.Nat.{ℕ, zero, suc, ◌+◌, ◌*◌, ◌%◌, ◌≤◌}
use native.Mathlib.Nat.{zero-add}
use native.Mathlib.Omega.{arith}
use lib.Dec.{eqb}
use lib.ListN.{length, get_or, drop}
use lib.Seq.{drop-drop}
use borrow.Author.Tests.{lt-ltb}
use Rattle.hexpairs.specs.Pairs.{pair_value, pairs, spelled, total}
use Rattle.hexrow.specs.Row.{fault, formed, address_of, type_of, data_of, Says, holds, ends, bad, summed, says_of, line_of}
use Rattle.hexrow.specs.Reads.{told, row_at}
use Rattle.hexrow.specs.declared.Row.{Row}
use Rattle.hexrow.specs.declared.Fault.{Fault}
use Rattle.hexrow.proofs.Lines.{first_pair}
use Rattle.hexrow.proofs.Rows.{count, At, at-formed, at-says, line_length, length-spelled, data_at}

-- from two constructors that would be equal
pub never : {A : Type 0} → ◌≡◌ {A = ℕ} 0 1 → A
never e = absurd (omega arith)

-- ---- the answer taken back

told_data : (x : Says) (size n k : ℕ) → told x size ≡ Ok (Row.Data n k) → (b : List ℕ) × (x ≡ holds b) × (length b ≡ n) × (size ≡ k)
told_data (holds b) size n k e = (b, refl, (cc), (cc))
told_data ends size n k e = never (cc)
told_data (bad f) size n k e = never (cc)

pub end_row_lem : (next k : ℕ) (s : List ℕ) → row_at next s ≡ Ok (Row.End k) → (says_of next (line_of s) ≡ ends) × (k ≡ length (line_of s))
end_row_lem next k s e = go (says_of next (line_of s)) e
  where
    go : (x : Says) → told x (length (line_of s)) ≡ Ok (Row.End k) → (x ≡ ends) × (k ≡ length (line_of s))
    go (holds b) f = never (cc)
    go ends f = (refl, (cc))
    go (bad g) f = never (cc)

pub bad_row_lem : (next : ℕ) (s : List ℕ) (f : Fault) → row_at next s ≡ Err f → says_of next (line_of s) ≡ bad f
bad_row_lem next s f e = go (says_of next (line_of s)) e
  where
    go : (x : Says) → told x (length (line_of s)) ≡ Err f → x ≡ bad f
    go (holds b) g = never (cc)
    go ends g = never (cc)
    go (bad h) g = cc

-- ---- a row of data

-- a line that holds bytes is a row
holds_at : (next : ℕ) (s b : List ℕ) → says_of next (line_of s) ≡ holds b → At s
unfolding says_of
holds_at next s b e = go (formed (line_of s)) refl
  where
    go : (t : Bool) → formed (line_of s) ≡ t → At s
    go true f = at-formed s f
    go false f = let g : bad (fault 12) ≡ holds b = rw f at e in never (cc)

-- the bytes that it holds are its data
summed-holds : (next : ℕ) (bytes b : List ℕ) → summed next bytes ≡ holds b → data_of bytes ≡ b
summed-holds next bytes b e =
    go (eqb (total bytes % 256) 0) (eqb (type_of bytes) 0 && eqb (address_of bytes) next)
    (eqb (type_of bytes) 1 && (eqb (address_of bytes) 0 && eqb (get_or bytes 0 0) 0)) e
  where
    go : (x y z : Bool) → cond x (cond y (holds (data_of bytes)) (cond z ends (bad (fault 14)))) (bad (fault 13)) ≡ holds b
        → data_of bytes ≡ b
    go true true z f = cc
    go true false true f = never (cc)
    go true false false f = never (cc)
    go false y z f = never (cc)

pairs-last : (a b : ℕ) (t : List ℕ) → pairs (a + b) t ≡ true → pairs b (drop (2 * a) t) ≡ true
pairs-last zero b t e = rw (zero-add b) at e
pairs-last (suc a) b t e =
    let f : suc a + b ≡ suc (a + b) = omega arith in
    let g : 2 + 2 * a ≡ 2 * suc a = omega arith in
    let h = pairs-last a b (drop 2 t) (first_pair (a + b) t (rw f at e)).1 in
    rw (← g, ← (drop-drop (2 * a) 2 t)) h

pub pairs_front : (a b : ℕ) (t : List ℕ) → pairs (a + b) t ≡ true → pairs a t ≡ true
unfolding pairs
pairs_front zero b t e = refl
pairs_front (suc a) b t e =
    let f : suc a + b ≡ suc (a + b) = omega arith in
    let h = first_pair (a + b) t (rw f at e) in
    rw (lt-ltb (pair_value t) 256 h.0) (pairs_front a b (drop 2 t) h.1)

pub record IsData (next n k : ℕ) (s : List ℕ) : Type 0 where
  pub says : says_of next (line_of s) ≡ holds (spelled n (drop 9 s))
  pub digits : pairs n (drop 9 s) ≡ true
  pub size : k ≡ length (line_of s)
  pub room : 2 * n + 12 ≤ k

pub data_row : (next n k : ℕ) (s : List ℕ) → row_at next s ≡ Ok (Row.Data n k) → IsData next n k s
data_row next n k s e =
    let t = told_data (says_of next (line_of s)) (length (line_of s)) n k e in
    let r = holds_at next s t.0 t.1 in
    let d : data_of (spelled (count s + 5) (drop 1 s)) ≡ t.0 =
    summed-holds next (spelled (count s + 5) (drop 1 s)) t.0 (sym (at-says s r next) ∙ t.1) in
    let b : t.0 ≡ spelled (count s) (drop 9 s) = sym d ∙ data_at (count s) (drop 1 s) refl ∙ ap (spelled (count s)) (drop-drop 8 1 s) in
    let c : n ≡ count s = sym t.2 ∙ ap length b ∙ length-spelled (count s) (drop 9 s) in
    let l = line_length s r in
    let h = r.end in
    let f : count s + 5 ≡ 4 + (count s + 1) = omega arith in
    let p = pairs_front (count s) 1 (drop 9 s) (rw (← (drop-drop 8 1 s)) (pairs-last 4 (count s + 1) (drop 1 s) (rw f at r.digits))) in
    record { says = rw c (t.1 ∙ ap holds b); digits = rw c p; size = sym t.3; room = omega (arith, t.3) }
