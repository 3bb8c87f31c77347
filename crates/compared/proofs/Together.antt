-- Two walks side by side: how far they go together, and where they stop. What the comparison answers follows from what stands there.
use Rattle.std.proofs.Common.{Ok, Err, Option, Some, None}
use mathlib.Core.Path.{◌≡◌, refl, sym, ap, ap₂, ◌∙◌}
use mathlib.Core.Bool.{Bool, true, false}
use mathlib.Core.List.{List, ◌++◌}
use Prim.Native.Nat.{ℕ, zero, suc, ◌+◌, ◌≤◌, ◌<◌}
use native.Mathlib.Omega.{arith}
use lib.Dec.{ltb}
use lib.ListN.{length, take, drop, length-drop, drop_of_length-le}
use lib.Seq.{take-add, length-take-le}
use borrow.Author.Tests.{ltb-true, ltb-false, le-leb}
use Rattle.bits.proofs.Laws.{Bytes, bytes_drop}
use Rattle.isa.specs.Decode.{decode_of}
use Rattle.isa.specs.declared.answer.Refusal.{Refusal}
use Rattle.isa.specs.Answer.{Decoded}
use Rattle.isa.specs.declared.instruction.Instruction.{Instruction}
use Rattle.isa.proofs.Found.{found-length}
use Rattle.roundtrip.proofs.Back.{bytes_back}
use Rattle.walk.specs.Walk.{Walk, ended, refused, stepped, walk_from, walk_of, limit}
use Rattle.walk.proofs.Steps.{step_by, walk_all, step-at}
use Rattle.comparison.specs.Order.{difference_of}
use Rattle.comparison.specs.Compare.{or_else, between, compare_of}
use Rattle.comparison.specs.declared.Field.{Field}
use Rattle.comparison.specs.declared.Kernel.{Kernel}
use Rattle.comparison.specs.declared.Comparison.{Comparison}
use Rattle.compared.proofs.Complete.{no_difference, no_difference_self}

-- ---- what stands at an address of a code

abbrev pub Finds : List ℕ → ℕ → Instruction → ℕ → Type 0
Finds code at i n = (at < length code) × (decode_of (drop at code) ≡ Ok (i, n))

abbrev pub Refuses : List ℕ → ℕ → Refusal → Type 0
Refuses code at r = (at < length code) × (decode_of (drop at code) ≡ Err r)

pub data Stands (code : List ℕ) (at : ℕ) : Type 0 where
  ends : at ≡ length code → Stands code at
  finds : (i : Instruction) (n : ℕ) → Finds code at i n → Stands code at
  refuses : (r : Refusal) → Refuses code at r → Stands code at

pub stands : (code : List ℕ) (at : ℕ) → at ≤ length code → Stands code at
stands code at h = go (ltb at (length code)) refl (decode_of (drop at code)) refl
  where
    go : (t : Bool) → ltb at (length code) ≡ t → (d : Decoded) → decode_of (drop at code) ≡ d → Stands code at
    go true e (Ok (i, n)) f = finds i n (ltb-true at (length code) e, f)
    go true e (Err r) f = refuses r (ltb-true at (length code) e, f)
    go false e d f = ends (omega (arith, ltb-false at (length code) e))

-- the walk that is left there
abbrev pub rest : List ℕ → ℕ → Walk
rest code at = walk_all at (drop at code)

pub rest-ends : (code : List ℕ) (at : ℕ) → at ≡ length code → rest code at ≡ ended at
unfolding walk_from
rest-ends code at e = rw (drop_of_length-le code {i = at} (omega arith))

pub rest-refuses : (code : List ℕ) (at : ℕ) (r : Refusal) → Refuses code at r → rest code at ≡ refused at r
rest-refuses code at r f =
    step-at code at f.0 ∙ ap (λ (d : Decoded). step_by d (λ a s. rest code a) at (drop at code)) f.1

pub rest-finds : (code : List ℕ) (at : ℕ) (i : Instruction) (n : ℕ) → Finds code at i n
    → rest code at ≡ stepped at (take n (drop at code)) i (rest code (at + n))
rest-finds code at i n f =
    step-at code at f.0 ∙ ap (λ (d : Decoded). step_by d (λ a s. rest code a) at (drop at code)) f.1

-- an instruction lies in the code, and has that many bytes
pub lies : (code : List ℕ) (at : ℕ) (i : Instruction) (n : ℕ) → Finds code at i n
    → (4 ≤ n) × (at + n ≤ length code) × (length (take n (drop at code)) ≡ n)
lies code at i n f =
    let l = found-length (drop at code) i n f.1 in
    let d = length-drop at code in
    (l.0, omega arith, length-take-le n (drop at code) l.2)

-- ---- both walks reach an address, with the same instructions before it

pub data Together (a b : List ℕ) : ℕ → Type 0 where
  start : (to : ℕ) → to ≡ 0 → Together a b to
  on : (to at : ℕ) (i : Instruction) (n : ℕ) → Together a b at → Finds a at i n → Finds b at i n → to ≡ at + n → Together a b to

pub within : (a b : List ℕ) (to : ℕ) → Together a b to → (to ≤ length a) × (to ≤ length b)
within a b to (start _ e) = (omega arith, omega arith)
within a b to (on _ at i n t f g e) = (omega (arith, lies a at i n f), omega (arith, lies b at i n g))

pub exchange_together : (a b : List ℕ) (to : ℕ) → Together a b to → Together b a to
exchange_together a b to (start _ e) = start to e
exchange_together a b to (on _ at i n t f g e) = on to at i n (exchange_together a b at t) g f e

-- Before it, both kernels have the same bytes: each instruction's are those of its encoding.
pub same-before : (a b : List ℕ) → Bytes a → Bytes b → (to : ℕ) → Together a b to → take to a ≡ take to b
same-before a b ha hb to (start _ e) = rw e
same-before a b ha hb to (on _ at i n t f g e) =
    let x = bytes_back (drop at a) (bytes_drop at a ha) i n f.1 in
    let y = bytes_back (drop at b) (bytes_drop at b hb) i n g.1 in
    rw e
    (take-add at n a
    ∙ ap₂ (λ (u v : List ℕ). u ++ v) (same-before a b ha hb at t) (sym x ∙ y)
    ∙ sym (take-add at n b))

-- What is left to compare is what there was at the beginning.
pub follows : (a b : List ℕ) (to : ℕ) → Together a b to → between (rest a to) (rest b to) ≡ between (rest a 0) (rest b 0)
unfolding between
follows a b to (start _ e) = rw e
follows a b to (on _ at i n t f g e) =
    let x = (lies a at i n f).2 in
    let y = (lies b at i n g).2 in
    sym
    (ap₂ between (rest-finds a at i n f) (rest-finds b at i n g)
    ∙ ap₂ (λ (k l : ℕ). or_else (difference_of i k i l) at (between (rest a (at + n)) (rest b (at + n)))) x y
    ∙ ap (λ (d : Option Field). or_else d at (between (rest a (at + n)) (rest b (at + n)))) (no_difference_self i n)
    ∙ ap (λ (k : ℕ). between (rest a k) (rest b k)) (sym e))
    ∙ follows a b at t

-- ---- where they stop

pub data Stop (a b : List ℕ) (at : ℕ) : Type 0 where
  first_refused : (r : Refusal) → Refuses a at r → Stop a b at
  second_refused : (r : Refusal) → ((q : Refusal) → Refuses a at q → ⊥) → Refuses b at r → Stop a b at
  both-ended : at ≡ length a → at ≡ length b → Stop a b at
  first_ended : (j : Instruction) (m : ℕ) → at ≡ length a → Finds b at j m → Stop a b at
  second_ended : (i : Instruction) (n : ℕ) → Finds a at i n → at ≡ length b → Stop a b at
  differ : (i : Instruction) (n : ℕ) (j : Instruction) (m : ℕ) (f : Field) → Finds a at i n → Finds b at j m
      → difference_of i n j m ≡ Some f → Stop a b at

-- the answer there
abbrev pub answer_at : (a b : List ℕ) (at : ℕ) → Stop a b at → Comparison
answer_at a b at (first_refused r f) = Comparison.Refused at r Kernel.First
answer_at a b at (second_refused r k g) = Comparison.Refused at r Kernel.Second
answer_at a b at (both-ended e g) = Comparison.Same
answer_at a b at (first_ended j m e g) = Comparison.Ended at Kernel.First
answer_at a b at (second_ended i n f e) = Comparison.Ended at Kernel.Second
answer_at a b at (differ i n j m f x y d) = Comparison.Differs at f

answer_at_lem : (a b : List ℕ) (at : ℕ) → at ≤ length a → (s : Stop a b at) → between (rest a at) (rest b at) ≡ answer_at a b at s
unfolding between
answer_at_lem a b at h (first_refused r f) = ap (λ (v : Walk). between v (rest b at)) (rest-refuses a at r f)
answer_at_lem a b at h (second_refused r k g) = ap (between (rest a at)) (rest-refuses b at r g) ∙ go (stands a at h)
  where
    go : Stands a at → between (rest a at) (refused at r) ≡ Comparison.Refused at r Kernel.Second
    go (ends e) = ap (λ (v : Walk). between v (refused at r)) (rest-ends a at e)
    go (finds i n f) = ap (λ (v : Walk). between v (refused at r)) (rest-finds a at i n f)
    go (refuses q f) = absurd (k q f)
answer_at_lem a b at h (both-ended e g) = ap₂ between (rest-ends a at e) (rest-ends b at g)
answer_at_lem a b at h (first_ended j m e g) = ap₂ between (rest-ends a at e) (rest-finds b at j m g)
answer_at_lem a b at h (second_ended i n f e) = ap₂ between (rest-finds a at i n f) (rest-ends b at e)
answer_at_lem a b at h (differ i n j m f x y d) =
    let k = (lies a at i n x).2 in
    let l = (lies b at j m y).2 in
    ap₂ between (rest-finds a at i n x) (rest-finds b at j m y)
    ∙ ap₂ (λ (u v : ℕ). or_else (difference_of i u j v) at (between (rest a (at + n)) (rest b (at + m)))) k l
    ∙ ap (λ (z : Option Field). or_else z at (between (rest a (at + n)) (rest b (at + m)))) d

-- ---- they do stop

-- together, to a place where they stop
abbrev pub Reached : List ℕ → List ℕ → Type 0
Reached a b = (to : ℕ) × Together a b to × Stop a b to

-- one turn: they stop here, or go on together
turn : (a b : List ℕ) (at : ℕ) → Together a b at → Stands a at → Stands b at
    → ((to : ℕ) → at < to → to ≤ length a → Together a b to → Reached a b) → Reached a b
turn a b at t (refuses r f) y further = (at, t, first_refused r f)
turn a b at t (ends e) (refuses r g) further =
    (at, t, second_refused r (λ q (f : Refuses a at q). let l = f.0 in omega arith) g)
turn a b at t (ends e) (ends g) further = (at, t, both-ended e g)
turn a b at t (ends e) (finds j m g) further = (at, t, first_ended j m e g)
turn a b at t (finds i n f) (refuses r g) further =
    (at, t, second_refused r (λ q (x : Refuses a at q). let e = sym f.1 ∙ x.1 in let z : ◌≡◌ {A = ℕ} 0 1 = cc in omega arith) g)
turn a b at t (finds i n f) (ends g) further = (at, t, second_ended i n f g)
turn a b at t (finds i n f) (finds j m g) further = go (difference_of i n j m) refl
  where
    go : (d : Option Field) → difference_of i n j m ≡ d → Reached a b
    go (Some x) e = (at, t, differ i n j m x f g e)
    go None e =
        let same = no_difference i n j m e in
        let l = lies a at i n f in
        let g' : Finds b at i n = (g.0, g.1 ∙ ap₂ (λ (k : Instruction) (l : ℕ). Ok (k, l)) (sym same.0) (sym same.1)) in
        further (at + n) (omega arith) l.1 (on (at + n) at i n t f g' refl)

reaches : (k : ℕ) (a b : List ℕ) (at : ℕ) → Together a b at → length a ≤ k + at → Reached a b
reaches zero a b at t h =
    turn a b at t (stands a at (within a b at t).0) (stands b at (within a b at t).1) (λ to l m u. absurd (omega arith))
reaches (suc k) a b at t h =
    turn a b at t (stands a at (within a b at t).0) (stands b at (within a b at t).1)
    (λ to l m u. reaches k a b to u (omega arith))

-- What the comparison answers, of two kernels that are not too long: they go together to a place, and the answer is what stands there.
pub record Outcome (a b : List ℕ) : Type 0 where
  pub to : ℕ
  pub together : Together a b to
  pub stop : Stop a b to
  pub answer : compare_of a b ≡ answer_at a b to stop

-- the answer, wherever two kernels go together and stop
pub answer-of : (a b : List ℕ) → length a ≤ limit → length b ≤ limit → (to : ℕ) → Together a b to → (s : Stop a b to)
    → compare_of a b ≡ answer_at a b to s
unfolding compare_of walk_of
answer-of a b h g to t s =
    rw (le-leb (length a) limit h, le-leb (length b) limit g)
    (sym (follows a b to t) ∙ answer_at_lem a b to (within a b to t).0 s)

pub outcome : (a b : List ℕ) → length a ≤ limit → length b ≤ limit → Outcome a b
outcome a b h g =
    let r = reaches (length a) a b 0 (start 0 refl) (omega arith) in
    record { to = r.0; together = r.1; stop = r.2; answer = answer-of a b h g r.0 r.1 r.2 }
