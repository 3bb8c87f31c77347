-- Where the values are the results of all threads modulo 2 ^ 64, the loops over all threads do what a step does thread by thread.
use mathlib.Core.Path.{◌≡◌, ap, ◌∙◌}
use mathlib.Core.Bool.{Bool, cond}
use mathlib.Core.List.{List}
use Prim.Native.Nat.{ℕ, ◌+◌, ◌*◌, ◌-◌, ◌/◌, ◌%◌, ◌^◌, ◌<◌}
use native.Mathlib.Nat.{mod-lt}
use native.Mathlib.Omega.{arith}
use lib.Dec.{eqb}
use lib.IntN.{ℤ, pos, negsuc}
use lib.ListN.{get_or}
use lib.Pow.{pow_pos, pow-add, mod-mod-pow, mod-pow-add, low}
use Rattle.isa.specs.declared.operand.Destination.{Destination}
use Rattle.machine.specs.Integer.{modulo}
use Rattle.machine.specs.Lanes.{tab, active_in, pack}
use Rattle.machine.specs.Words.{store_of, destination_size}
use Rattle.machine.specs.Step.{Result, source_at, write_thread, next_of, next_at, write_all, mask_all, r0l}
use Rattle.machine.proofs.Tab.{get_or-tab, each_cong}
use Rattle.machine.proofs.Masks.{pack_cong, all_active_lem}
use Rattle.lanes.specs.Results.{store_lane, store_all, zero_at}

-- an integer modulo two to a number of bits, modulo two to fewer
pub modulo_mod : (z : ℤ) (j k : ℕ) → modulo z (j + k) % 2 ^ k ≡ modulo z k
unfolding modulo
modulo_mod (pos n) j k = mod-mod-pow n j k
modulo_mod (negsuc n) j k =
    let p : ℕ = 2 ^ k in
    let q : ℕ = n / 2 ^ k % 2 ^ j in
    let r : ℕ = n % 2 ^ k in
    let hq : q < 2 ^ j = mod-lt (n / 2 ^ k) {m = 2 ^ j} (pow_pos j) in
    let hr : r < p = mod-lt n {m = 2 ^ k} (pow_pos k) in
    let m : ℕ = 2 ^ j - 1 - q in
    let e : 2 ^ j ≡ m + q + 1 = omega arith in
    let f : 2 ^ (j + k) ≡ (m + q + 1) * p = pow-add 2 j k ∙ ap (λ (x : ℕ). x * 2 ^ k) e in
    let g : 2 ^ (j + k) - 1 - n % 2 ^ (j + k) ≡ m * p + (p - 1 - r) = omega (arith, mod-pow-add n j k) in
    ap (λ (x : ℕ). x % 2 ^ k) g ∙ low m k (omega arith)

-- at the size of each destination
size_mod : (d : Destination) (z : ℤ) → modulo z 64 % 2 ^ destination_size d ≡ modulo z (destination_size d)
size_mod (Destination.Half h) z = modulo_mod z 48 16
size_mod (Destination.Register r) z = modulo_mod z 32 32
size_mod (Destination.Pair r) z = modulo_mod z 0 64

module _ (result : Result) (sources : List (List ℕ)) (values : List ℕ)
    (e : values ≡ tab 32 (λ t. modulo (result (source_at sources 0 t) (source_at sources 1 t) (source_at sources 2 t)) 64)) where
  -- what a destination holds of a thread's value
  value-at : (d : Destination) (t : ℕ) → t < 32
      → get_or values t 0 % 2 ^ destination_size d
      ≡ modulo (result (source_at sources 0 t) (source_at sources 1 t) (source_at sources 2 t)) (destination_size d)
  value-at d t h =
      ap (λ (l : List ℕ). get_or l t 0 % 2 ^ destination_size d) e
      ∙ ap (λ (x : ℕ). x % 2 ^ destination_size d)
      (get_or-tab 32 (λ t. modulo (result (source_at sources 0 t) (source_at sources 1 t) (source_at sources 2 t)) 64) t 0 h)
      ∙ size_mod d (result (source_at sources 0 t) (source_at sources 1 t) (source_at sources 2 t))

  -- a data instruction
  pub write_all_lem : (d : Destination) (mask : ℕ) (registers : List ℕ)
      → store_all values mask d registers ≡ write_all d result mask sources registers
  unfolding store_lane write_all write_thread
  write_all_lem d mask registers =
      each_cong 32 (store_lane values mask d)
      (λ t. write_thread d result mask t (source_at sources 0 t) (source_at sources 1 t) (source_at sources 2 t))
      (λ t h words. ap (λ (v : ℕ). cond (active_in mask t) (store_of d t v words) words) (value-at d t h)) registers

  -- a mask instruction writes r0l of every thread, active or not
  pub mask-registers : (registers marks : List ℕ)
      → store_all values 4294967295 r0l registers ≡ (mask_all result sources registers marks).registers
  unfolding store_lane mask_all next_at next_of
  mask-registers registers marks =
      each_cong 32 (store_lane values 4294967295 r0l) (λ t. store_of r0l t (next_at result sources t))
      (λ t h words.
      ap (λ (on : Bool). cond on (store_of r0l t (get_or values t 0 % 2 ^ 16) words) words) (all_active_lem t h)
      ∙ ap (λ (v : ℕ). store_of r0l t v words) (value-at r0l t h)) registers

  -- and makes a new mask
  pub mask_bits : (registers marks : List ℕ) → pack 32 (zero_at values) ≡ (mask_all result sources registers marks).mask
  unfolding mask_all next_at next_of
  mask_bits registers marks =
      pack_cong 32 (zero_at values) (λ t. eqb (next_at result sources t) 0) (λ t h. ap (λ (v : ℕ). eqb v 0) (value-at r0l t h))
