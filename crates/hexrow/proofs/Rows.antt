-- The row that the first line of a text is, by what stands at the start of the text.
use Rattle.std.specs.Prelude.{Ok, Err}
use mathlib.Core.Path.{◌≡◌, refl, sym, ap, ◌∙◌}
use mathlib.Core.Bool.{Bool, true, false, cond, ◌&&◌}
use mathlib.Core.List.{List, [], ◌∷◌}
use Prim.Native.Nat.{ℕ, zero, suc, ◌+◌, ◌*◌, ◌≤◌, ◌<◌}
use native.Mathlib.Nat.{zero-add}
use native.Mathlib.Omega.{arith}
use lib.Dec.{eqb, ltb}
use lib.ListN.{length, get_or, take, drop, length-drop, drop_of_length-le}
use lib.Seq.{drop-drop}
use borrow.Author.Tests.{eq-eqb, ne_eqb, eqb-true, lt-ltb, le-ltb, ltb-true}
use Rattle.bits.proofs.Table.{and_left, and_right}
use Rattle.hexpairs.specs.Pairs.{pair_value, pairs, spelled, is_end}
use Rattle.hexrow.specs.Row.{fault, count_in, bytes_in, formed, address_of, type_of, data_of, holds, ends, bad, placed, summed, says_of, line_of}
use Rattle.hexpairs.specs.Reads.{end_size}
use Rattle.hexrow.specs.Reads.{size_by, says_by, told, row_at}
use Rattle.hexrow.specs.declared.Row.{Row}
use Rattle.hexrow.specs.declared.Fault.{Fault}
use Rattle.hexrow.proofs.Lines.{head_line, tail_line, pairs_line, first_pair, spelled_line, after_line, same_count, end_line_lem}

-- the count of a row at the start of a text, and the number of its characters before the end of the line
abbrev pub count : List ℕ → ℕ
count s = pair_value (drop 1 s)

abbrev pub body : List ℕ → ℕ
body s = 2 * count s + 11

-- a row stands at the start of a text
pub record At (s : List ℕ) : Type 0 where
  pub colon : get_or s 0 0 ≡ 58
  pub digits : pairs (count s + 5) (drop 1 s) ≡ true
  pub end : 0 < end_size (drop (body s) s)

-- ---- the first line

five : (n : ℕ) (s : List ℕ) → pairs (n + 5) s ≡ true → pair_value s < 256
five n s e =
    let f : n + 5 ≡ suc (n + 4) = omega arith in
    (first_pair (n + 4) s (rw f at e)).0

-- after the colon and the pairs of n bytes
past : (n : ℕ) (s : List ℕ) → drop (2 * n + 11) s ≡ drop (2 * (n + 5)) (drop 1 s)
past n s = let e : 1 + 2 * (n + 5) ≡ 2 * n + 11 = omega arith in sym (drop-drop (2 * (n + 5)) 1 s ∙ ap (λ (k : ℕ). drop k s) e)

tail : (s : List ℕ) → get_or s 0 0 ≡ 58 → drop 1 (line_of s) ≡ line_of (drop 1 s)
tail s colon = tail_line s (λ e. omega arith)

-- a colon and the pairs of a count stand at the start of a text
module _ (s : List ℕ) (colon : get_or s 0 0 ≡ 58) (digits : pairs (count s + 5) (drop 1 s) ≡ true) where
  pub small : count s < 256
  small = five (count s) (drop 1 s) digits

  same : count_in (line_of s) ≡ count s
  same = ap pair_value (tail s colon) ∙ same_count (drop 1 s) small

  rest : drop (body s) (line_of s) ≡ line_of (drop (body s) s)
  rest =
      past (count s) (line_of s)
      ∙ ap (drop (2 * (count s + 5))) (tail s colon)
      ∙ after_line (count s + 5) (drop 1 s) digits
      ∙ ap line_of (sym (past (count s) s))

  -- the end of the line stands in the text where it stands in the line
  same_end : is_end (drop (body s) (line_of s)) ≡ ltb 0 (end_size (drop (body s) s))
  same_end = ap is_end rest ∙ (end_line_lem (drop (body s) s)).0

-- a line that is a row stands at the start of its text
pub at-formed : (s : List ℕ) → formed (line_of s) ≡ true → At s
unfolding formed
at-formed s e =
    let l = line_of s in
    let n = count_in l in
    let p = pairs (n + 5) (drop 1 l) in
    let f = and_right (eqb (get_or l 0 0) 58) (p && is_end (drop (2 * n + 11) l)) e in
    let colon : get_or s 0 0 ≡ 58 =
    sym (head_line s) ∙ eqb-true (get_or l 0 0) 58 (and_left (eqb (get_or l 0 0) 58) (p && is_end (drop (2 * n + 11) l)) e) in
    let q : pairs (n + 5) (drop 1 s) ≡ true =
    sym (pairs_line (n + 5) (drop 1 s)) ∙ sym (ap (pairs (n + 5)) (tail s colon)) ∙ and_left p (is_end (drop (2 * n + 11) l)) f in
    let c : n ≡ count s = ap pair_value (tail s colon) ∙ same_count (drop 1 s) (five n (drop 1 s) q) in
    let digits : pairs (count s + 5) (drop 1 s) ≡ true = rw c at q in
    let g : is_end (drop (body s) l) ≡ true = rw c at (and_right p (is_end (drop (2 * n + 11) l)) f) in
    record {
      colon = colon;
      digits = digits;
      end = ltb-true 0 (end_size (drop (body s) s)) (sym (same_end s colon digits) ∙ g);
    }

module _ (s : List ℕ) (r : At s) where
  pub line_formed : formed (line_of s) ≡ true
  unfolding formed
  line_formed =
      let a = eq-eqb (get_or (line_of s) 0 0) 58 (head_line s ∙ r.colon) in
      let p : pairs (count s + 5) (drop 1 (line_of s)) ≡ true =
      ap (pairs (count s + 5)) (tail s r.colon) ∙ pairs_line (count s + 5) (drop 1 s) ∙ r.digits in
      let e = same_end s r.colon r.digits ∙ lt-ltb 0 (end_size (drop (body s) s)) r.end in
      rw (a, same s r.colon r.digits, p, e)

  pub line_length : length (line_of s) ≡ body s + end_size (drop (body s) s)
  line_length =
      let e = ap length (rest s r.colon r.digits) ∙ (end_line_lem (drop (body s) s)).1 r.end in
      let d = length-drop (body s) (line_of s) in
      let h = r.end in
      omega arith

  line_bytes : bytes_in (line_of s) ≡ spelled (count s + 5) (drop 1 s)
  line_bytes =
      ap (λ (n : ℕ). spelled (n + 5) (drop 1 (line_of s))) (same s r.colon r.digits)
      ∙ ap (spelled (count s + 5)) (tail s r.colon)
      ∙ spelled_line (count s + 5) (drop 1 s) r.digits

  pub at-says : (next : ℕ) → says_of next (line_of s) ≡ summed next (spelled (count s + 5) (drop 1 s))
  unfolding says_of
  at-says next = rw (line_formed, line_bytes)

  pub at_row : (next : ℕ) → row_at next s ≡ told (summed next (spelled (count s + 5) (drop 1 s))) (body s + end_size (drop (body s) s))
  at_row next = rw (at-says next, line_length)

pub no_row : (next : ℕ) (s : List ℕ) → (At s → ⊥) → Err Fault.Form ≡ row_at next s
unfolding says_of
no_row next s h = go (formed (line_of s)) refl
  where
    go : (b : Bool) → formed (line_of s) ≡ b → Err Fault.Form ≡ row_at next s
    go true e = absurd (h (at-formed s e))
    go false e = rw e

-- ---- the size of a row, by its colon, its count and its end

pub end-within : (k : ℕ) (s : List ℕ) → 0 < end_size (drop k s) → k < length s
end-within zero [] h = absurd (omega arith)
end-within zero (c ∷ s) h = omega arith
end-within (suc k) [] h = absurd (omega arith)
end-within (suc k) (c ∷ s) h = let g = end-within k s h in omega arith

pub past_end : (k : ℕ) (s : List ℕ) → length s ≤ k → end_size (drop k s) ≡ 0
past_end k s h = rw (drop_of_length-le s {i = k} h)

end_by : (b c : Bool) → cond b 1 (cond c 2 0) ≤ 2
end_by true c = omega arith
end_by false true = omega arith
end_by false false = omega arith

pub end_most : (s : List ℕ) → end_size s ≤ 2
end_most s = end_by (eqb (get_or s 0 0) 10) (eqb (get_or s 0 0) 13 && eqb (get_or s 1 0) 10)

pub record Sized (s : List ℕ) : Type 0 where
  pub colon : get_or s 0 0 ≡ 58
  pub few : count s < 256
  pub end : 0 < end_size (drop (body s) s)

pub no_colon : (s : List ℕ) → (get_or s 0 0 ≡ 58 → ⊥) → 0 ≡ size_by s
no_colon s h = rw (ne_eqb (get_or s 0 0) 58 h)

pub no_count : (s : List ℕ) → get_or s 0 0 ≡ 58 → 256 ≤ count s → 0 ≡ size_by s
no_count s e h = rw (e, le-ltb (count s) 256 h)

pub no_end_lem : (s : List ℕ) → end_size (drop (body s) s) ≡ 0 → 0 ≡ size_by s
no_end_lem s e = go (eqb (get_or s 0 0) 58) (ltb (count s) 256) refl refl
  where
    go : (a b : Bool) → eqb (get_or s 0 0) 58 ≡ a → ltb (count s) 256 ≡ b → 0 ≡ size_by s
    go true true f g = rw (f, g, e)
    go true false f g = rw (f, g)
    go false b f g = rw f

pub size_of : (s : List ℕ) → Sized s → body s + end_size (drop (body s) s) ≡ size_by s
size_of s r = rw (r.colon, lt-ltb (count s) 256 r.few, lt-ltb 0 (end_size (drop (body s) s)) r.end)

pub sized : (s : List ℕ) → (size_by s ≡ 0 → ⊥) → Sized s
sized s h = go (eqb (get_or s 0 0) 58) (ltb (count s) 256) (ltb 0 (end_size (drop (body s) s))) refl refl refl
  where
    go : (a b c : Bool) → eqb (get_or s 0 0) 58 ≡ a → ltb (count s) 256 ≡ b → ltb 0 (end_size (drop (body s) s)) ≡ c → Sized s
    go true true true e f g =
        record { colon = eqb-true (get_or s 0 0) 58 e; few = ltb-true (count s) 256 f; end = ltb-true 0 (end_size (drop (body s) s)) g }
    go true true false e f g = absurd (h (rw (e, f, g)))
    go true false c e f g = absurd (h (rw (e, f)))
    go false b c e f g = absurd (h (rw e))

pub at-sized : (s : List ℕ) → At s → size_by s ≡ 0 → ⊥
at-sized s r e =
    let z = size_of s (record { colon = r.colon; few = small s r.colon r.digits; end = r.end }) in
    omega arith

-- ---- its bytes, by their places

pub length-spelled : (n : ℕ) (s : List ℕ) → length (spelled n s) ≡ n
unfolding spelled
length-spelled zero s = refl
length-spelled (suc n) s = ap suc (length-spelled n (drop 2 s))

spelled_at : (n k : ℕ) (s : List ℕ) → k < n → get_or (spelled n s) k 0 ≡ pair_value (drop (2 * k) s)
unfolding spelled
spelled_at zero k s h = absurd (omega arith)
spelled_at (suc n) zero s h = refl
spelled_at (suc n) (suc k) s h =
    let e : 2 + 2 * k ≡ 2 * suc k = omega arith in
    spelled_at n k (drop 2 s) (omega arith) ∙ ap pair_value (drop-drop (2 * k) 2 s ∙ ap (λ (j : ℕ). drop j s) e)

drop-spelled : (k n : ℕ) (s : List ℕ) → drop k (spelled (k + n) s) ≡ spelled n (drop (2 * k) s)
unfolding spelled
drop-spelled zero n s = ap (λ (j : ℕ). spelled j s) (zero-add n)
drop-spelled (suc k) n s =
    let f : suc k + n ≡ suc (k + n) = omega arith in
    let e : 2 + 2 * k ≡ 2 * suc k = omega arith in
    rw f (drop-spelled k n (drop 2 s) ∙ ap (spelled n) (drop-drop (2 * k) 2 s ∙ ap (λ (j : ℕ). drop j s) e))

take-spelled : (n k : ℕ) (s : List ℕ) → take n (spelled (n + k) s) ≡ spelled n s
unfolding spelled
take-spelled zero k s = refl
take-spelled (suc n) k s =
    let f : suc n + k ≡ suc (n + k) = omega arith in
    rw f (ap (λ (l : List ℕ). pair_value s ∷ l) (take-spelled n k (drop 2 s)))

-- the bytes of a row of n data bytes, after its colon
module _ (n : ℕ) (t : List ℕ) (e : pair_value t ≡ n) where
  bytes : List ℕ
  bytes = spelled (n + 5) t

  first : get_or bytes 0 0 ≡ n
  unfolding bytes
  first = spelled_at (n + 5) 0 t (omega arith) ∙ e

  pub type_at : type_of (spelled (n + 5) t) ≡ pair_value (drop 6 t)
  type_at = spelled_at (n + 5) 3 t (omega arith)

  pub address-at : address_of (spelled (n + 5) t) ≡ 256 * pair_value (drop 2 t) + pair_value (drop 4 t)
  address-at = rw (spelled_at (n + 5) 1 t (omega arith), spelled_at (n + 5) 2 t (omega arith))

  pub data_at : data_of (spelled (n + 5) t) ≡ spelled n (drop 8 t)
  unfolding bytes
  data_at =
      let f : n + 5 ≡ 4 + (n + 1) = omega arith in
      let g : drop 4 (spelled (n + 5) t) ≡ spelled (n + 1) (drop 8 t) =
      ap (λ (k : ℕ). drop 4 (spelled k t)) f ∙ drop-spelled 4 (n + 1) t in
      rw (first, g) (take-spelled n 1 (drop 8 t))

told-by : (b c : Bool) (d : List ℕ) (size : ℕ)
    → told (cond b (holds d) (cond c ends (bad (fault 14)))) size
    ≡ cond b (Ok (Row.Data (length d) size)) (cond c (Ok (Row.End size)) (Err (fault 14)))
told-by true c d size = refl
told-by false true d size = refl
told-by false false d size = refl

pub told-placed : (next size n : ℕ) (t : List ℕ) → pair_value t ≡ n
    → told (placed next (spelled (n + 5) t)) size
    ≡ says_by (pair_value (drop 6 t)) (256 * pair_value (drop 2 t) + pair_value (drop 4 t)) n next size
unfolding bytes
told-placed next size n t e =
    let type = pair_value (drop 6 t) in
    let address = 256 * pair_value (drop 2 t) + pair_value (drop 4 t) in
    let l : length (spelled n (drop 8 t)) ≡ n = length-spelled n (drop 8 t) in
    rw (type_at n t e, address-at n t e, data_at n t e, first n t e)
    (told-by (eqb type 0 && eqb address next) (eqb type 1 && (eqb address 0 && eqb n 0)) (spelled n (drop 8 t)) size ∙ rw l)
