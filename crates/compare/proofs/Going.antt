-- What two walks side by side keep true: from the address at which both readers stand, the walks compare as the whole ones do.
--     walk-by      the walk from an address, by what is decoded there
--     says         what one turn says of the walks from an address
--     Place        the loop's invariant at the addresses of the two readers. It holds at the starts, and after a turn that goes on, which
--                  takes at least one byte that both codes have; where a turn stops, its answer is the comparison's (`turns`)
use Rattle.std.proofs.Common.{Ok, Err}
use Rattle.std.proofs.Common.{Option, Some, None, Ok, Err}
use Rattle.std.specs.declared.ops.ControlFlow.TheVariants.{Continue, Break}
use mathlib.Core.Path.{◌≡◌, refl, sym, ap, ap₂, ◌∙◌, subst}
use mathlib.Core.Bool.{Bool, true, false, not, cond}
use mathlib.Core.List.{List}
use Prim.Native.Nat.{ℕ, ◌+◌, ◌≤◌, ◌<◌}
use native.Mathlib.Omega.{arith}
use lib.Dec.{T, ltb, ltb→lt, nltb→le}
use lib.ListN.{length, take, drop, drop_of_length-le}
use Rattle.isa.specs.Answer.{Decoded}
use Rattle.isa.specs.Decode.{decode_of}
use Rattle.isa.specs.Parts.{parts_of}
use Rattle.isa.specs.Answer.{Decoded}
use Rattle.isa.specs.declared.instruction.Instruction.{Instruction}
use Rattle.walk.specs.Walk.{Walk, ended, walk_from}
use Rattle.walk.proofs.Steps.{step_by, step-at}
use Rattle.comparison.specs.Compare.{or_else, between}
use Rattle.comparison.specs.declared.Field.{Field}
use Rattle.comparison.specs.declared.Comparison.{Comparison}
use Rattle.compared.proofs.Together.{rest, lies}
use Rattle.difference.specs.First.{first_by}
use Rattle.turns.specs.Turn.{Here, Turn, agreed, turn_between}
use Rattle.compare.specs.Here.{here_by, here_at, walks_of}
use Rattle.difference.proofs.Law.{difference_by-parts, agreed_lengths}

-- ---- one code

-- the same and what stands there, by whether the address lies in the code, and what is decoded then
abbrev walk_by : List ℕ → ℕ → Bool → Decoded → Walk
walk_by xs i within d = cond within (step_by d (λ a s. rest xs a) i (drop i xs)) (ended i)

abbrev stand_by : Bool → Decoded → Here
stand_by within d = cond within (here_by d) (Ok None)

abbrev within : List ℕ → ℕ → Bool
within xs i = ltb i (length xs)

abbrev decoded_at : List ℕ → ℕ → Decoded
decoded_at xs i = decode_of (drop i xs)

walk_by_lem : (xs : List ℕ) (i : ℕ) → rest xs i ≡ walk_by xs i (within xs i) (decoded_at xs i)
unfolding walk_from
walk_by_lem xs i = one (within xs i) (ltb→lt i (length xs)) (nltb→le i (length xs))
  where
    one : (b : Bool) → (T b → i < length xs) → (T (not b) → length xs ≤ i) → rest xs i ≡ walk_by xs i b (decoded_at xs i)
    one true h g = step-at xs i (h tt)
    one false h g = rw (drop_of_length-le xs {i = i} (g tt))

-- an instruction has a length of at least one, and lies in the code
record Fits (xs : List ℕ) (i n : ℕ) : Type 0 where
  some : 1 ≤ n
  inside : i + n ≤ length xs
  long : length (take n (drop i xs)) ≡ n

abbrev IfFound : List ℕ → ℕ → Decoded → Type 0
IfFound xs i (Ok (k, n)) = Fits xs i n
IfFound xs i (Err r) = Unit {0}

fits : (xs : List ℕ) (i : ℕ) → T (within xs i) → IfFound xs i (decoded_at xs i)
fits xs i h = go (decoded_at xs i) refl
  where
    go : (d : Decoded) → decoded_at xs i ≡ d → IfFound xs i d
    go (Ok (k, n)) e =
        let l = lies xs i k n (ltb→lt i (length xs) h, e) in
        record { some = omega arith; inside = l.1; long = l.2 }
    go (Err r) e = tt

-- ---- a turn of two

-- by how much a turn moves on
abbrev pub Moves : List ℕ → List ℕ → ℕ → ℕ → ℕ → Type 0
Moves xs ys i j n = (1 ≤ n) × (i + n ≤ length xs) × (j + n ≤ length ys)

-- what a turn says of the walks from an address: the answer, or that both go on
abbrev Says : List ℕ → List ℕ → ℕ → Comparison → Turn ℕ → Type 0
Says xs ys i c (Continue n) = (c ≡ between (rest xs (i + n)) (rest ys (i + n))) × Moves xs ys i i n
Says xs ys i c (Break a) = c ≡ a

module _ (xs ys : List ℕ) (i : ℕ) where
  -- two instructions, of n bytes and of m
  both : (p q : Instruction) (n m : ℕ) → Fits xs i n → Fits ys i m → (d : Option Field) → first_by (parts_of p) n (parts_of q) m ≡ d
      → Says xs ys i (or_else d i (between (rest xs (i + n)) (rest ys (i + m)))) (agreed d n i)
  both p q n m f g None e =
      let l : n ≡ m = agreed_lengths (parts_of p) n (parts_of q) m e in
      (ap (λ (k : ℕ). between (rest xs (i + n)) (rest ys (i + k))) (sym l), (f.some, f.inside, omega (arith, g.inside)))
  both p q n m f g (Some field) e = refl

  turned : (b c : Bool) (d e : Decoded) → (T b → IfFound xs i d) → (T c → IfFound ys i e)
      → Says xs ys i (between (walk_by xs i b d) (walk_by ys i c e)) (turn_between (stand_by b d) (stand_by c e) i)
  unfolding between
  turned false false d e f g = refl
  turned false true d (Ok (q, m)) f g = refl
  turned false true d (Err r) f g = refl
  turned true false (Ok (p, n)) e f g = refl
  turned true false (Err r) e f g = refl
  turned true true (Ok (p, n)) (Ok (q, m)) f g =
      rw ((f tt).long, (g tt).long, difference_by-parts p n q m)
      (both p q n m (f tt) (g tt) (first_by (parts_of p) n (parts_of q) m) refl)
  turned true true (Ok (p, n)) (Err r) f g = refl
  turned true true (Err r) e f g = refl

  -- of the turn that two readers take at that address
  says : (t : Turn ℕ) → t ≡ turn_between (here_at xs i) (here_at ys i) i → Says xs ys i (between (rest xs i) (rest ys i)) t
  says t e =
      subst (Says xs ys i (between (rest xs i) (rest ys i))) (sym e)
      (rw (walk_by_lem xs i, walk_by_lem ys i)
      (turned (within xs i) (within ys i) (decoded_at xs i) (decoded_at ys i) (fits xs i) (fits ys i)))

-- ---- the invariant

abbrev pub Place : List ℕ → List ℕ → ℕ → ℕ → Type 0
Place xs ys i j = (i ≡ j) × (between (rest xs i) (rest ys i) ≡ walks_of xs ys)

-- after a turn the walks go on from a place, or it has the answer
abbrev pub Then : List ℕ → List ℕ → ℕ → ℕ → Turn ℕ → Type 0
Then xs ys i j (Continue n) = Moves xs ys i j n × Place xs ys (i + n) (j + n)
Then xs ys i j (Break a) = a ≡ walks_of xs ys

-- the turn of two readers that have these codes
pub turns : (xs ys vs ws : List ℕ) (i j : ℕ) (t : Turn ℕ) → vs ≡ xs → ws ≡ ys → Place xs ys i j
    → t ≡ turn_between (here_at vs i) (here_at ws j) i → Then xs ys i j t
turns xs ys vs ws i j t p q place e = go t (says xs ys i t at_one)
  where
    at_one : t ≡ turn_between (here_at xs i) (here_at ys i) i
    at_one =
        e ∙ ap₂ (λ (v w : List ℕ). turn_between (here_at v i) (here_at w j) i) p q
        ∙ ap (λ (k : ℕ). turn_between (here_at xs i) (here_at ys k) i) (sym place.0)

    go : (t : Turn ℕ) → Says xs ys i (between (rest xs i) (rest ys i)) t → Then xs ys i j t
    go (Continue m) s = ((s.1.0, s.1.1, omega (arith, place.0, s.1.2)), (ap (λ (k : ℕ). k + m) place.0, sym s.0 ∙ place.1))
    go (Break a) s = sym s ∙ place.1
