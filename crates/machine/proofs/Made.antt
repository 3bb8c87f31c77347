-- A row that a closure makes, called at each index in turn, where a call leaves the closure as it was.
use mathlib.Core.Path.{◌≡◌, sym, subst}
use mathlib.Core.List.{List}
use Prim.Native.Nat.{ℕ, zero, suc, ◌+◌, ◌≤◌, ◌<◌}
use native.Mathlib.Decide.{dec_lt}
use native.Mathlib.Omega.{arith}
use lib.ListN.{length, get_or}
use Rattle.std.specs.Array.{IsFromFnResultFrom, IsFromFnResult}
use Rattle.std.specs.Fn.{Called, Mut}
use Rattle.machine.specs.Lanes.{tab}
use Rattle.machine.proofs.Tab.{tab_is}

module _ {F : Type 0} (g : Mut F (ℕ × Unit {0}) ℕ) (P : ℕ → ℕ → Type 0) (f : F)
    (calls : (t r : ℕ) (f' : F) → Called g f (t, tt) r f' → P t r × (f' ≡ f)) where
  made_from : (row : List ℕ) (i n : ℕ) → IsFromFnResultFrom g f row i n → (t : ℕ) → i ≤ t → t < i + n → P t (get_or row t 0)
  made_from row i zero made t low high = absurd (omega arith)
  made_from row i (suc n) (f', x, here, called, made) t low high =
      let said : P i x × (f' ≡ f) = calls i x f' called in
      go said.0
      (made_from row (i + 1) n (subst (λ (s : F). IsFromFnResultFrom g s row (i + 1) n) said.1 made) t)
      (dec_lt i t)
    where
      go : P i x → (i + 1 ≤ t → t < i + 1 + n → P t (get_or row t 0)) → Dec (i < t) → P t (get_or row t 0)
      go p later (yes l) = later (omega arith) (omega arith)
      go p later (no l) =
          let e : i ≡ t = omega arith in
          subst (λ (k : ℕ). P k (get_or row k 0)) e (subst (P i) (sym (here.1 0)) p)

  -- what is known of a call is known of each place
  pub made : (row : List ℕ) (n : ℕ) → IsFromFnResult g f row n → (length row ≡ n) × ((t : ℕ) → t < n → P t (get_or row t 0))
  made row n m = (m.long, λ t h. made_from row 0 n m.each t (omega arith) (omega arith))

-- where a call at t gives h t, it is the row of h
pub made_row : {F : Type 0} (g : Mut F (ℕ × Unit {0}) ℕ) (h : ℕ → ℕ) (f : F)
    → ((t r : ℕ) (f' : F) → Called g f (t, tt) r f' → (r ≡ h t) × (f' ≡ f))
    → (row : List ℕ) (n : ℕ) → IsFromFnResult g f row n → row ≡ tab n h
made_row g h f calls row n m =
    let all = made g (λ t r. r ≡ h t) f calls row n m in
    tab_is n h row all.0 all.1
