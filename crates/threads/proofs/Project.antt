-- One thread's part of the state, and what a visit and a step do to it.
use mathlib.Core.Path.{◌≡◌, refl, sym, ap, ◌∙◌}
use mathlib.Core.Bool.{Bool, cond}
use mathlib.Core.List.{List}
use Prim.Native.Nat.{ℕ, ◌<◌}
use native.Mathlib.Omega.{arith}
use borrow.Author.Tests.{eq-eqb, ne_eqb}
use lib.Dec.{eqb}
use lib.ListN.{length}
use Rattle.isa.specs.declared.operand.Destination.{Destination}
use Rattle.machine.specs.Lanes.{active_in}
use Rattle.machine.specs.Words.{Tables, value_of, store_of, word_at}
use Rattle.machine.specs.Meaning.{Meaning, writes, masks, jumps}
use Rattle.machine.specs.State.{Threads}
use Rattle.machine.specs.Step.{Result, r0l, own_r0l, write_thread, next_of, gather_of, source_at, write_all, next_at, mask_all, threads_after}
use Rattle.machine.specs.declared.input.Input.{Input}
use Rattle.machine.proofs.Tab.{get_or-tab}
use Rattle.machine.proofs.Masks.{pack_bit}
use Rattle.threads.specs.Visit.{set_bit, read_by, visit_marks, visit_thread}
use Rattle.threads.proofs.Own.{Same, Own, own_store, own_write, read_same, each-length, each_at}
use Rattle.threads.proofs.Marks.{own-marks, marks-seen, marks-length, marks_bit}

-- thread t's part is the same
pub record Agree (t : ℕ) (s z : Threads) : Type 0 where
  pub len : length s.registers ≡ length z.registers
  pub words : Same t s.registers z.registers
  pub marks_len : length s.marks ≡ length z.marks
  pub marks : Same t s.marks z.marks
  pub bit : active_in s.mask t ≡ active_in z.mask t

pub agree_refl : (t : ℕ) (s : Threads) → Agree t s s
agree_refl t s = record { len = refl; words = λ r. refl; marks_len = refl; marks = λ h. refl; bit = refl }

pub agree_sym : {t : ℕ} {s z : Threads} → Agree t s z → Agree t z s
agree_sym p = record {
  len = sym p.len;
  words = λ r. sym (p.words r);
  marks_len = sym p.marks_len;
  marks = λ h. sym (p.marks h);
  bit = sym p.bit;
}

pub agree_trans : {t : ℕ} {s y z : Threads} → Agree t s y → Agree t y z → Agree t s z
agree_trans p q = record {
  len = p.len ∙ q.len;
  words = λ r. p.words r ∙ q.words r;
  marks_len = p.marks_len ∙ q.marks_len;
  marks = λ h. p.marks h ∙ q.marks h;
  bit = p.bit ∙ q.bit;
}

-- ---- the mask

bit_set : (m t : ℕ) (b : Bool) → t < 32 → active_in (set_bit m t b) t ≡ b
unfolding set_bit
bit_set m t b h = pack_bit 32 (λ u. cond (eqb u t) b (active_in m u)) t h ∙ rw (eq-eqb t t refl)

bit_other : (m u t : ℕ) (b : Bool) → t < 32 → (u ≡ t → ⊥) → active_in (set_bit m u b) t ≡ active_in m t
unfolding set_bit
bit_other m u t b h n = pack_bit 32 (λ x. cond (eqb x u) b (active_in m x)) t h ∙ rw (ne_eqb t u (λ e. n (sym e)))

-- ---- a visit

-- what thread t reads goes by its part alone
same_read : (tables : Tables) (t : ℕ) (s z : Threads) → Agree t s z → (x : Input) → read_by t tables s x ≡ read_by t tables z x
same_read tables t s z g x = read_same tables s.registers z.registers t x g.words

-- thread t's r0l after a mask instruction
abbrev next_by : ℕ → Tables → Threads → Input → Input → Result → ℕ
next_by t tables s a b result = next_of result (read_by t tables s a) (read_by t tables s b) (read_by t tables s own_r0l)

-- the mask is looked at for the thread's own bit alone
write_bit : (d : Destination) (result : Result) (m n t a b c : ℕ) (l : List ℕ) → active_in m t ≡ active_in n t
    → write_thread d result m t a b c l ≡ write_thread d result n t a b c l
unfolding write_thread
write_bit d result m n t a b c l e = rw e

-- what a visit makes of the marks goes by thread t's part alone
module _ (m : Meaning) (t : ℕ) (h : t < 32) (s z : Threads) (g : Agree t s z) where
  marks_len_lem : length (visit_marks m s.mask t s.marks) ≡ length (visit_marks m z.mask t z.marks)
  marks_len_lem = (own-marks m s.mask t h).keeps s.marks ∙ g.marks_len ∙ sym ((own-marks m z.mask t h).keeps z.marks)

  marks-same : Same t (visit_marks m s.mask t s.marks) (visit_marks m z.mask t z.marks)
  marks-same =
      rw (marks_bit m s.mask z.mask t s.marks g.bit) ((own-marks m z.mask t h).goes_by s.marks z.marks g.marks_len g.marks)

-- goes by thread t's part alone
pub visit_agree : (m : Meaning) (tables : Tables) (t : ℕ) → t < 32 → (s z : Threads) → Agree t s z
    → Agree t (visit_thread m tables t s) (visit_thread m tables t z)
unfolding visit_thread
visit_agree (writes d a b c result) tables t h s z g =
    let same = same_read tables t s z g in
    let o = own_write d result z.mask t (read_by t tables z a) (read_by t tables z b) (read_by t tables z c) h in
    let e : write_thread d result s.mask t (read_by t tables s a) (read_by t tables s b) (read_by t tables s c) s.registers
    ≡ write_thread d result z.mask t (read_by t tables z a) (read_by t tables z b) (read_by t tables z c) s.registers =
    (λ i. write_thread d result s.mask t (same a i) (same b i) (same c i) s.registers)
    ∙ write_bit d result s.mask z.mask t _ _ _ s.registers g.bit in
    record {
      len = ap length e ∙ o.keeps s.registers ∙ g.len ∙ sym (o.keeps z.registers);
      words = rw e (o.goes_by s.registers z.registers g.len g.words);
      marks_len = marks_len_lem (writes d a b c result) t h s z g;
      marks = marks-same (writes d a b c result) t h s z g;
      bit = g.bit;
    }
visit_agree (masks compares a b result) tables t h s z g =
    let same = same_read tables t s z g in
    let e : next_by t tables s a b result ≡ next_by t tables z a b result =
    λ i. next_of result (same a i) (same b i) (same own_r0l i) in
    let o = own_store r0l t (next_by t tables z a b result) h in
    record {
      len = rw e (o.keeps s.registers ∙ g.len ∙ sym (o.keeps z.registers));
      words = rw e (o.goes_by s.registers z.registers g.len g.words);
      marks_len = marks_len_lem (masks compares a b result) t h s z g;
      marks = marks-same (masks compares a b result) t h s z g;
      bit = bit_set s.mask t _ h ∙ ap (λ (x : ℕ). eqb x 0) e ∙ sym (bit_set z.mask t _ h);
    }
visit_agree (jumps any offset) tables t h s z g = g

-- leaves the parts of the others
pub visit-other : (m : Meaning) (tables : Tables) (u t : ℕ) → u < 32 → t < 32 → (u ≡ t → ⊥) → (s : Threads)
    → Agree t (visit_thread m tables u s) s
unfolding visit_thread
visit-other (writes d a b c result) tables u t h k n s =
    let o = own_write d result s.mask u (read_by u tables s a) (read_by u tables s b) (read_by u tables s c) h in
    let p = own-marks (writes d a b c result) s.mask u h in
    record {
      len = o.keeps s.registers;
      words = o.leaves t k n s.registers;
      marks_len = p.keeps s.marks;
      marks = p.leaves t k n s.marks;
      bit = refl;
    }
visit-other (masks compares a b result) tables u t h k n s =
    let o = own_store r0l u (next_by u tables s a b result) h in
    let p = own-marks (masks compares a b result) s.mask u h in
    record {
      len = o.keeps s.registers;
      words = o.leaves t k n s.registers;
      marks_len = p.keeps s.marks;
      marks = p.leaves t k n s.marks;
      bit = bit_other s.mask u t _ k n;
    }
visit-other (jumps any offset) tables u t h k n s = agree_refl t s

-- ---- a step of all threads, seen from thread t, is its visit

module _ (tables : Tables) (t : ℕ) (h : t < 32) (l : List ℕ) (a b c : Input) where
  gathered : (source_at (gather_of tables l a b c) 0 t ≡ value_of tables l a t)
      × (source_at (gather_of tables l a b c) 1 t ≡ value_of tables l b t)
      × (source_at (gather_of tables l a b c) 2 t ≡ value_of tables l c t)
  unfolding gather_of
  gathered =
      (get_or-tab 32 (value_of tables l a) t 0 h, get_or-tab 32 (value_of tables l b) t 0 h, get_or-tab 32 (value_of tables l c) t 0 h)

pub step-visit : (m : Meaning) (tables : Tables) (t : ℕ) → t < 32 → (s : Threads)
    → Agree t (threads_after m tables s) (visit_thread m tables t s)
unfolding threads_after visit_thread write_all mask_all next_at
step-visit (writes d a b c result) tables t h s =
    let src = gather_of tables s.registers a b c in
    let lane : ℕ → List ℕ → List ℕ =
    λ u. write_thread d result s.mask u (source_at src 0 u) (source_at src 1 u) (source_at src 2 u) in
    let own : (u : ℕ) → u < 32 → Own u (lane u) = λ u k. own_write d result s.mask u _ _ _ k in
    let g = gathered tables t h s.registers a b c in
    let e : lane t s.registers ≡ (visit_thread (writes d a b c result) tables t s).registers =
    λ i. write_thread d result s.mask t (g.0 i) (g.1 i) (g.2 i) s.registers in
    record {
      len = each-length lane own s.registers 32 (omega arith) ∙ sym (ap length (sym e) ∙ (own t h).keeps s.registers);
      words = λ r. each_at lane own s.registers 32 t h (omega arith) r ∙ ap (λ (x : List ℕ). word_at x r t) e;
      marks_len = marks-length (writes d a b c result) s.mask t s.marks;
      marks = marks-seen (writes d a b c result) s.mask t h s.marks;
      bit = refl;
    }
step-visit (masks compares a b result) tables t h s =
    let src = gather_of tables s.registers a b own_r0l in
    let lane : ℕ → List ℕ → List ℕ = λ u. store_of r0l u (next_at result src u) in
    let own : (u : ℕ) → u < 32 → Own u (lane u) = λ u k. own_store r0l u _ k in
    let g = gathered tables t h s.registers a b own_r0l in
    let e : next_at result src t ≡ next_by t tables s a b result = λ i. next_of result (g.0 i) (g.1 i) (g.2 i) in
    record {
      len = each-length lane own s.registers 32 (omega arith) ∙ sym ((own_store r0l t _ h).keeps s.registers);
      words = λ r.
          each_at lane own s.registers 32 t h (omega arith) r ∙ ap (λ (x : ℕ). word_at (store_of r0l t x s.registers) r t) e;
      marks_len = marks-length (masks compares a b result) s.mask t s.marks;
      marks = marks-seen (masks compares a b result) s.mask t h s.marks;
      bit = pack_bit 32 (λ u. eqb (next_at result src u) 0) t h ∙ ap (λ (x : ℕ). eqb x 0) e ∙ sym (bit_set s.mask t _ h);
    }
step-visit (jumps any offset) tables t h s = agree_refl t s
