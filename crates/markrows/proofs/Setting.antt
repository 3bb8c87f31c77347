-- A row of marks that a loop sets from the front: one more thread.
use mathlib.Core.Path.{◌≡◌, refl, sym, ◌∙◌}
use mathlib.Core.Bool.{Bool, true, false, cond, not}
use mathlib.Core.List.{List}
use Prim.Native.Nat.{ℕ, suc, ◌+◌, ◌*◌, ◌/◌, ◌%◌, ◌≤◌, ◌<◌, max}
use native.Mathlib.Omega.{arith}
use native.Mathlib.Decide.{dec_lt, ℕ_discrete}
use borrow.Author.Tests.{eq-eqb, ne_eqb, lt-ltb, le-ltb}
use lib.Dec.{eqb, ltb}
use lib.ListN.{length, get_or, set, length-set}
use lib.Seq.{ext_get_or, get_or-set_same, get_or-set_other}
use Rattle.machine.specs.Lanes.{active_in}
use Rattle.machine.specs.Meaning.{both}
use Rattle.machine.specs.Marks.{each_mark}
use Rattle.machine.proofs.Marks.{length-each, get_or-each, each_cong, each-kept}
use Rattle.markrows.specs.Rows.{row_set}

-- a greatest of none but zeros is 0
pub greatest : (x y : ℕ) → not (eqb (max x y) 0) ≡ cond (not (eqb y 0)) true (not (eqb x 0))
greatest x y = go (ℕ_discrete y 0) (ℕ_discrete x 0)
  where
    go : Dec (y ≡ 0) → Dec (x ≡ 0) → not (eqb (max x y) 0) ≡ cond (not (eqb y 0)) true (not (eqb x 0))
    go (yes p) (yes q) = rw (p, q)
    go (yes p) (no q) = rw (eq-eqb y 0 p, ne_eqb x 0 q, ne_eqb (max x y) 0 (λ e. q (omega (arith, e))))
    go (no p) q = rw (ne_eqb y 0 p, ne_eqb (max x y) 0 (λ e. p (omega (arith, e))))

pub twice_not : (b : Bool) → b ≡ not (not b)
twice_not true = refl
twice_not false = refl

pub chosen : (on : Bool) (x : ℕ) → not (eqb (cond on x 0) 0) ≡ both on (not (eqb x 0))
chosen true x = refl
chosen false x = refl

-- the marks with those of half h set, in the threads below n that are among some
abbrev pub lane : ℕ → ℕ → ℕ → ℕ → ℕ → ℕ → ℕ → ℕ
lane h who v n g t byte = cond (both (eqb g h) (both (ltb t n) (active_in who t))) v byte

module _ (h who v : ℕ) (l : List ℕ) where
  kept : (p q : Bool) (x : ℕ) → cond (both p (both false q)) v x ≡ x
  kept true q x = refl
  kept false q x = refl

  -- of none
  pub set-none : l ≡ each_mark (lane h who v 0) l
  set-none = sym (each-kept (lane h who v 0) l (λ g t x. rw (le-ltb t 0 (omega arith)) (kept (eqb g h) (active_in who t) x)))

  -- of all
  pub set_all : each_mark (lane h who v 32) l ≡ row_set h who v l
  set_all =
      each_cong (lane h who v 32) (λ g t byte. cond (both (eqb g h) (active_in who t)) v byte) l (λ g t x k. rw (lt-ltb t 32 k))

  -- of one more
  module _ (t : ℕ) (k : t < 32) (room : 32 * h + t < length l) where
    abbrev i : ℕ
    i = 32 * h + t

    abbrev before : List ℕ
    before = each_mark (lane h who v t) l

    abbrev now : ℕ
    now = cond (active_in who t) v (get_or before i 0)

    here : now ≡ lane h who v (suc t) h t (get_or l i 0)
    here =
        let p : i / 32 ≡ h = omega arith in
        let q : i % 32 ≡ t = omega arith in
        let o : get_or before i 0 ≡ get_or l i 0 =
        get_or-each (lane h who v t) l i 0 room
        ∙ rw (p, q, le-ltb t t (omega arith)) (kept (eqb h h) (active_in who t) (get_or l i 0)) in
        rw (o, eq-eqb h h refl, lt-ltb t (suc t) (omega arith))

    there : (j : ℕ) → (j ≡ i → ⊥) → lane h who v t (j / 32) (j % 32) (get_or l j 0) ≡ lane h who v (suc t) (j / 32) (j % 32) (get_or l j 0)
    there j n = go (ℕ_discrete (j / 32) h) (dec_lt (j % 32) t)
      where
        go : Dec (j / 32 ≡ h) → Dec (j % 32 < t)
            → lane h who v t (j / 32) (j % 32) (get_or l j 0) ≡ lane h who v (suc t) (j / 32) (j % 32) (get_or l j 0)
        go (no p) q = rw (ne_eqb (j / 32) h p)
        go (yes p) (yes q) = rw (lt-ltb (j % 32) t q, lt-ltb (j % 32) (suc t) (omega arith))
        go (yes p) (no q) =
            let m : suc t ≤ j % 32 = omega (arith, n) in
            rw (le-ltb (j % 32) t (omega arith), le-ltb (j % 32) (suc t) m)

    pub set_more : set before i now ≡ each_mark (lane h who v (suc t)) l
    set_more =
        let a = length-each (lane h who v t) l in
        let b = length-each (lane h who v (suc t)) l in
        let c = length-set before i now in
        ext_get_or 0 (set before i now) (each_mark (lane h who v (suc t)) l) (c ∙ a ∙ sym b) (λ j m. go j (omega arith) (ℕ_discrete j i))
      where
        go : (j : ℕ) → j < length l → Dec (j ≡ i) → get_or (set before i now) j 0 ≡ get_or (each_mark (lane h who v (suc t)) l) j 0
        go j m (yes e) =
            let p : i / 32 ≡ h = omega arith in
            let q : i % 32 ≡ t = omega arith in
            rw e (get_or-set_same before i now 0 (omega (arith, length-each (lane h who v t) l))
            ∙ here ∙ sym (get_or-each (lane h who v (suc t)) l i 0 room ∙ rw (p, q)))
        go j m (no n) =
            get_or-set_other before i j now 0 n ∙ get_or-each (lane h who v t) l j 0 m ∙ there j n
            ∙ sym (get_or-each (lane h who v (suc t)) l j 0 m)
