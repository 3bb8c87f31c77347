-- An operand that was read has the number and the flags that it was read from.
use Rattle.std.proofs.Common.{Option, Some, None}
use mathlib.Core.Path.{◌≡◌, refl, subst}
use mathlib.Core.Bool.{Bool, true, false, cond}
use Prim.Native.Nat.{ℕ, ◌+◌, ◌*◌, ◌/◌, ◌%◌, ◌^◌, ◌≤◌, ◌<◌}
use native.Mathlib.Nat.{mod-lt}
use native.Mathlib.Omega.{arith}
use lib.Dec.{eqb, lit<}
use borrow.Author.Tests.{eqb-true, eqb-false}
use Rattle.bits.specs.Word.{field_of}
use Rattle.isa.specs.Operand.{cache_hint, source_hint, destination_of, uniform_of, source_of}
use Rattle.isa.specs.declared.operand.Hint.{Hint}
use Rattle.isa.specs.declared.operand.Dst.{Dst}
use Rattle.isa.specs.declared.operand.Src.{Src}
use Rattle.encoding.specs.Flags.{cache_bit, hint_bits, dst_number, dst_flags, src_number, src_flags}

ruleset tests = (arith, eqb-true, eqb-false)

-- ---- hints

pub cache_bit_lem : (b : ℕ) → b < 2 → cache_bit (cache_hint b) ≡ b
cache_bit_lem b h = go (eqb b 1) refl
  where
    go : (t : Bool) → eqb b 1 ≡ t → cache_bit (cond t Hint.Cache Hint.None) ≡ b
    go true e = omega tests
    go false e = omega tests

hint_bits_lem : (h : ℕ) → 1 ≤ h → h < 4 → hint_bits (source_hint h) ≡ h
hint_bits_lem h l u = go (eqb h 2) refl (eqb h 3) refl
  where
    go : (s : Bool) → eqb h 2 ≡ s → (t : Bool) → eqb h 3 ≡ t → hint_bits (cond s Hint.Cache (cond t Hint.Discard Hint.None)) ≡ h
    go true e t f = omega tests
    go false e true f = omega tests
    go false e false f = omega tests

-- ---- destinations

abbrev DstIs : ℕ → ℕ → Option Dst → Type 0
DstIs v t (Some d) = (dst_number d.destination ≡ v) × (dst_flags d.destination + cache_bit d.hint ≡ t)
DstIs v t None = Unit {0}

dst-is : (wide : Bool) (v t : ℕ) → t < 4 → DstIs v t (destination_of wide v t)
unfolding destination_of
dst-is wide v t h = go (eqb (t / 2) 0) refl (eqb (v % 2) 0) refl wide
  where
    c : cache_bit (cache_hint (t % 2)) ≡ t % 2
    c = cache_bit_lem (t % 2) (omega arith)

    go : (a : Bool) → eqb (t / 2) 0 ≡ a → (b : Bool) → eqb (v % 2) 0 ≡ b → (wide : Bool) → DstIs v t (destination_of wide v t)
    go true e b f wide = rw e (refl, rw c (omega tests))
    go false e true f wide = rw (e, f) (omega tests, rw c (omega tests))
    go false e false f true = rw (e, f) (omega tests, rw c (omega tests))
    go false e false f false = rw (e, f) tt

pub dst-back : (wide : Bool) (v t : ℕ) (d : Dst) → t < 4 → destination_of wide v t ≡ Some d
    → (dst_number d.destination ≡ v) × (dst_flags d.destination + cache_bit d.hint ≡ t)
dst-back wide v t d h e = subst (DstIs v t) e (dst-is wide v t h)

-- ---- sources

abbrev SrcIs : ℕ → ℕ → Option Src → Type 0
SrcIs v t (Some s) = (src_number s.source ≡ v) × (src_flags s.source s.hint ≡ t)
SrcIs v t None = Unit {0}

uniform_is : (wide : Bool) (v t : ℕ) → v < 256 → t / 4 ≡ 1 → SrcIs v t (uniform_of wide (v + 256 * (t % 2)) (t / 2 % 2))
unfolding uniform_of
uniform_is wide v t h k = go (eqb (t / 2 % 2) 0) refl (eqb (u % 2) 0) refl (eqb (u / 2) 255) refl wide
  where
    u : ℕ
    u = v + 256 * (t % 2)

    go : (b : Bool) → eqb (t / 2 % 2) 0 ≡ b → (c : Bool) → eqb (u % 2) 0 ≡ c → (d : Bool) → eqb (u / 2) 255 ≡ d → (wide : Bool)
        → SrcIs v t (uniform_of wide u (t / 2 % 2))
    go true e c f d g wide = rw e (omega tests, omega tests)
    go false e true f d g wide = rw (e, f) (omega tests, omega tests)
    go false e false f true g wide = rw (e, f, g) tt
    go false e false f false g true = rw (e, f, g) (omega tests, omega tests)
    go false e false f false g false = rw (e, f, g) tt

src-is : (wide : Bool) (v t : ℕ) → v < 256 → t < 16 → SrcIs v t (source_of wide v t)
unfolding source_of
src-is wide v t hv h =
    go (eqb (t / 4) 0) refl (eqb (t % 4) 0) refl (eqb (t / 4) 1) refl (eqb (v % 2) 1) refl (eqb (t / 4) 2) refl wide
  where
    bits : eqb (t % 4) 0 ≡ false → hint_bits (source_hint (t % 4)) ≡ t % 4
    bits q = hint_bits_lem (t % 4) (omega tests) (omega arith)

    go : (a : Bool) → eqb (t / 4) 0 ≡ a → (b : Bool) → eqb (t % 4) 0 ≡ b → (c : Bool) → eqb (t / 4) 1 ≡ c
        → (d : Bool) → eqb (v % 2) 1 ≡ d → (e : Bool) → eqb (t / 4) 2 ≡ e → (wide : Bool) → SrcIs v t (source_of wide v t)
    go true p true q c r d s e x wide = rw (p, q) (refl, omega tests)
    go true p false q c r d s e x wide = rw (p, q) (refl, rw (bits q) (omega tests))
    go false p b q true r d s e x wide = rw (p, r) (uniform_is wide v t hv (eqb-true _ _ r))
    go false p true q false r d s e x wide = rw (p, q, r) tt
    go false p false q false r true s e x wide = rw (p, q, r, s) tt
    go false p false q false r false s true x wide = rw (p, q, r, s, x) (omega tests, rw (bits q) (omega tests))
    go false p false q false r false s false x true = rw (p, q, r, s, x) (omega tests, rw (bits q) (omega tests))
    go false p false q false r false s false x false = rw (p, q, r, s, x) tt

pub src-back : (wide : Bool) (v t : ℕ) (s : Src) → v < 256 → t < 16 → source_of wide v t ≡ Some s
    → (src_number s.source ≡ v) × (src_flags s.source s.hint ≡ t)
src-back wide v t s hv h e = subst (SrcIs v t) e (src-is wide v t hv h)

-- ---- in a word: six low bits at lo, two high bits at hi, the flags at t

module _ (w : ℕ) where
  -- a number that is two fields joined is cut into them again
  pub cut_joined : (lo hi x : ℕ) → x ≡ field_of w hi 2 * 2 ^ 6 + field_of w lo 6 → (x % 64 ≡ field_of w lo 6) × (x / 64 ≡ field_of w hi 2)
  cut_joined lo hi x e =
      let l : field_of w lo 6 < 64 = mod-lt (w / 2 ^ lo) (lit< tt) in
      (omega arith, omega arith)

  pub joined_lt : (lo hi : ℕ) → field_of w hi 2 * 2 ^ 6 + field_of w lo 6 < 256
  joined_lt lo hi =
      let l : field_of w lo 6 < 64 = mod-lt (w / 2 ^ lo) (lit< tt) in
      let h : field_of w hi 2 < 4 = mod-lt (w / 2 ^ hi) (lit< tt) in
      omega arith

  pub record DstTold (lo hi t : ℕ) (d : Dst) : Type 0 where
    pub low : dst_number d.destination % 64 ≡ field_of w lo 6
    pub high : dst_number d.destination / 64 ≡ field_of w hi 2
    pub flags : dst_flags d.destination + cache_bit d.hint ≡ field_of w t 2

  pub dst-told : (wide : Bool) (lo hi t : ℕ) (d : Dst)
      → destination_of wide (field_of w hi 2 * 2 ^ 6 + field_of w lo 6) (field_of w t 2) ≡ Some d → DstTold lo hi t d
  dst-told wide lo hi t d e =
      let q = dst-back wide (field_of w hi 2 * 2 ^ 6 + field_of w lo 6) (field_of w t 2) d (mod-lt (w / 2 ^ t) (lit< tt)) e in
      let c = cut_joined lo hi (dst_number d.destination) q.0 in
      record { low = c.0; high = c.1; flags = q.1 }

  pub record SrcTold (lo hi t : ℕ) (s : Src) : Type 0 where
    pub low : src_number s.source % 64 ≡ field_of w lo 6
    pub high : src_number s.source / 64 ≡ field_of w hi 2
    pub flags : src_flags s.source s.hint ≡ field_of w t 4

  pub src-told : (wide : Bool) (lo hi t : ℕ) (s : Src)
      → source_of wide (field_of w hi 2 * 2 ^ 6 + field_of w lo 6) (field_of w t 4) ≡ Some s → SrcTold lo hi t s
  src-told wide lo hi t s e =
      let q = src-back wide (field_of w hi 2 * 2 ^ 6 + field_of w lo 6) (field_of w t 4) s (joined_lt lo hi) (mod-lt (w / 2 ^ t) (lit< tt)) e in
      let c = cut_joined lo hi (src_number s.source) q.0 in
      record { low = c.0; high = c.1; flags = q.1 }
