-- The bit field instructions, modulo two to the 64, by the shifts and masks of words of 64 bits.
use mathlib.Core.Path.{◌≡◌, sym, ap, ap₂, ◌∙◌}
use mathlib.Core.Bool.{cond}
use Prim.Native.Nat.{ℕ, ◌*◌, ◌-◌, ◌/◌, ◌%◌, ◌^◌, ◌<◌, min}
use native.Mathlib.Nat.{mod-eq_of_lt}
use native.Mathlib.Omega.{arith}
use lib.Dec.{eqb}
use lib.Bits.{bit_and, bit_or, and_mod, or_mod, or_shr}
use lib.IntN.{pos}
use Rattle.machine.specs.Integer.{~◌, ◌&◌, ◌∣◌, modulo}
use Rattle.machine.specs.Meaning.{shift_amount, mask_of, bfi, bfeil, extr, shlhi, shrhi}
use Rattle.fields.proofs.Modulo.{mod_and, mod_or}
use Rattle.fields.proofs.Shifts.{shl_mod, shr_within, across_up}

-- the mask as a number
abbrev ones : ℕ → ℕ
ones m = cond (eqb m 0) 4294967295 (2 ^ m - 1)

abbrev word : ℕ → ℕ
word m = modulo (mask_of m) 64

-- the bits of a outside a mask
kept : (a m : ℕ) → a < 2 ^ 64 → modulo (pos a & ~ (pos m)) 64 ≡ bit_and a (2 ^ 64 - 1 - m % 2 ^ 64)
unfolding modulo
kept a m h = mod_and (pos a) (~ (pos m)) 64 ∙ ap (λ (n : ℕ). bit_and n (2 ^ 64 - 1 - m % 2 ^ 64)) (mod-eq_of_lt h)

-- x inside a mask, a outside
insert : (x m a : ℕ) → a < 2 ^ 64
    → modulo ((pos x & pos m) ∣ (pos a & ~ (pos m))) 64
    ≡ bit_or (bit_and (x % 2 ^ 64) (m % 2 ^ 64)) (bit_and a (2 ^ 64 - 1 - m % 2 ^ 64))
unfolding modulo
insert x m a h = mod_or (pos x & pos m) (pos a & ~ (pos m)) 64 ∙ ap₂ bit_or (and_mod x m 64) (kept a m h)

pub bfi-is : (m a b c : ℕ) → a < 2 ^ 64 → b < 2 ^ 64
    → bit_or (bit_and a (2 ^ 64 - 1 - word m * 2 ^ shift_amount c % 2 ^ 64)) (bit_and b (word m) * 2 ^ shift_amount c % 2 ^ 64)
    ≡ modulo (bfi m a b c) 64
unfolding modulo bfi
bfi-is m a b c h g =
    let s : ℕ = shift_amount c in
    sym (mod_or (pos a & ~ (pos (ones m * 2 ^ s))) (pos (bit_and b (ones m) * 2 ^ s)) 64
    ∙ ap₂ bit_or
    (kept a (ones m * 2 ^ s) h ∙ ap (λ (n : ℕ). bit_and a (2 ^ 64 - 1 - n)) (shl_mod (ones m) s 64))
    (shl_mod (bit_and b (ones m)) s 64
    ∙ ap (λ (n : ℕ). n * 2 ^ s % 2 ^ 64) (and_mod b (ones m) 64 ∙ ap (λ (n : ℕ). bit_and n (ones m % 2 ^ 64)) (mod-eq_of_lt g))))

pub bfeil-is : (m a b c : ℕ) → a < 2 ^ 64 → b < 2 ^ 64
    → bit_or (bit_and a (2 ^ 64 - 1 - word m)) (bit_and (b / 2 ^ shift_amount c) (word m)) ≡ modulo (bfeil m a b c) 64
unfolding modulo bfeil
bfeil-is m a b c h g =
    let s : ℕ = shift_amount c in
    sym (mod_or (pos a & ~ (pos (ones m))) (pos (bit_and (b / 2 ^ s) (ones m))) 64
    ∙ ap₂ bit_or (kept a (ones m) h)
    (and_mod (b / 2 ^ s) (ones m) 64 ∙ ap (λ (n : ℕ). bit_and n (ones m % 2 ^ 64)) (shr_within b s 64 g)))

pub extr-is : (m a b c : ℕ) → a < 2 ^ 64
    → bit_and (bit_or (b * 2 ^ 32 / 2 ^ shift_amount c % 2 ^ 64) (a / 2 ^ shift_amount c)) (word m) ≡ modulo (extr m a b c) 64
unfolding modulo extr
extr-is m a b c h =
    let s : ℕ = shift_amount c in
    let w : ℕ = b * 2 ^ 32 in
    sym (and_mod (bit_or w a / 2 ^ s) (ones m) 64
    ∙ ap (λ (n : ℕ). bit_and n (ones m % 2 ^ 64))
    (ap (λ (n : ℕ). n % 2 ^ 64) (or_shr w a s)
    ∙ or_mod (w / 2 ^ s) (a / 2 ^ s) 64
    ∙ ap (λ (n : ℕ). bit_or (w / 2 ^ s % 2 ^ 64) n) (shr_within a s 64 h)))

pub shlhi-is : (m a b c M : ℕ) → a < 2 ^ 64 → M ≡ word m * 2 ^ (shift_amount c - 32) % 2 ^ 64
    → bit_or (bit_and (b * 2 ^ shift_amount c / 2 ^ 32 % 2 ^ 64) M) (bit_and a (2 ^ 64 - 1 - M)) ≡ modulo (shlhi m a b c) 64
unfolding modulo shlhi
shlhi-is m a b c M h e =
    let s : ℕ = shift_amount c in
    let x : ℕ = b * 2 ^ s / 2 ^ 32 in
    ap (λ (n : ℕ). bit_or (bit_and (x % 2 ^ 64) n) (bit_and a (2 ^ 64 - 1 - n))) (e ∙ sym (shl_mod (ones m) (s - 32) 64))
    ∙ sym (insert x (ones m * 2 ^ (s - 32)) a h)

pub shrhi-is : (m a b c M : ℕ) → a < 2 ^ 64 → M ≡ word m * 2 ^ (32 - shift_amount c) % 2 ^ 64
    → bit_or (bit_and (b * 2 ^ 32 / 2 ^ shift_amount c % 2 ^ 64) M) (bit_and a (2 ^ 64 - 1 - M)) ≡ modulo (shrhi m a b c) 64
unfolding modulo shrhi
shrhi-is m a b c M h e =
    let s : ℕ = shift_amount c in
    let x : ℕ = b * 2 ^ 32 / 2 ^ s in
    let t : ℕ = min s 32 in
    let d : 32 - t ≡ 32 - s = omega arith in
    let f : ones m * 2 ^ 32 / 2 ^ t ≡ ones m * 2 ^ (32 - s) =
    across_up (ones m) 32 t (omega arith) ∙ ap (λ (n : ℕ). ones m * 2 ^ n) d in
    ap (λ (n : ℕ). bit_or (bit_and (x % 2 ^ 64) n) (bit_and a (2 ^ 64 - 1 - n)))
    (e ∙ sym (shl_mod (ones m) (32 - s) 64) ∙ ap (λ (n : ℕ). n % 2 ^ 64) (sym f))
    ∙ sym (insert x (ones m * 2 ^ 32 / 2 ^ t) a h)
