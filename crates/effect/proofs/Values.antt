-- The values that were gathered are within the sizes that the operation goes by; the rows that an earlier step left are not looked at; and
-- what storing the results comes to.
use mathlib.Core.Path.{◌≡◌, refl, ap, ◌∙◌}
use mathlib.Core.List.{List, []}
use Prim.Native.Nat.{ℕ}
use native.Mathlib.Nat.{lt_of_lt_of_le}
use lib.IntN.{ℤ}
use lib.ListN.{get_or}
use lib.Pow.{pow_mono}
use Rattle.isa.specs.declared.operand.Destination.{Destination}
use Rattle.machine.specs.Integer.{modulo}
use Rattle.machine.specs.Lanes.{tab, each, pack}
use Rattle.machine.specs.Words.{Tables, value_of}
use Rattle.machine.specs.State.{threads_at}
use Rattle.machine.specs.Step.{gather_of, r0l, write_all, mask_all}
use Rattle.machine.specs.declared.input.Input.{Input}
use Rattle.machine.proofs.Tab.{length-tab, tab_cong}
use Rattle.operations.specs.Operation.{result_by, Within, RowsWithin}
use Rattle.operations.specs.Action.{Fits, Fitting}
use Rattle.operations.specs.declared.Operation.{Operation}
use Rattle.operations.specs.declared.action.Kind.{Kind}
use Rattle.operations.specs.declared.action.Action.{Action}
use Rattle.operations.proofs.Looks.{looked_at}
use Rattle.alu.specs.Results.{result_at}
use Rattle.lanes.specs.Sources.{row_over, gather_over, InSize, Bounded}
use Rattle.lanes.specs.Results.{store_lane, zero_at}
use Rattle.lanes.proofs.Columns.{write_all_lem, mask-registers, mask_bits}
use Rattle.effect.specs.Acted.{Masked}
use Rattle.effect.specs.Rows.{worked_on}
use Rattle.effect.specs.declared.Rows.{Rows}

below : (x : Input) (row : List ℕ) (size : ℕ) → Fits x size → InSize x row → Within row size
below x row size f n t h = lt_of_lt_of_le (n f.there t h) (pow_mono f.narrow)

pub within_all : (o : Operation) (x y z : Input) (sources : List (List ℕ)) → Fitting o x y z → Bounded sources x y z → RowsWithin o sources
within_all o x y z sources f b = record {
  a = λ l. below x (get_or sources 0 []) _ (f.a l) b.a;
  b = λ l. below y (get_or sources 1 []) _ (f.b l) b.b;
  c = λ l. below z (get_or sources 2 []) _ (f.c l) b.c;
}

-- ---- what stood in the rows before

module _ (tables : Tables) (registers : List ℕ) where
  over-there : (x : Input) (row : List ℕ) → (x ≡ Input.Nothing → ⊥) → row_over tables registers x row ≡ tab 32 (value_of tables registers x)
  over-there Input.Nothing row n = absurd (n refl)
  over-there (Input.Operand a) row n = refl
  over-there (Input.Special k) row n = refl

  -- a source that the operation looks at has the same value over whatever stood there
  over-seen : (x : Input) (row : List ℕ) (size t : ℕ) → Fits x size
      → get_or (row_over tables registers x row) t 0 ≡ get_or (tab 32 (value_of tables registers x)) t 0
  over-seen x row size t f = ap (λ (l : List ℕ). get_or l t 0) (over-there x row f.there)

  pub results_over : (o : Operation) (x y z : Input) (left : List (List ℕ)) → Fitting o x y z
      → tab 32 (result_at o (gather_over tables registers x y z left)) ≡ tab 32 (result_at o (gather_of tables registers x y z))
  unfolding result_at gather_over gather_of
  results_over o x y z left f =
      tab_cong 32 (result_at o (gather_over tables registers x y z left)) (result_at o (gather_of tables registers x y z)) λ t h.
      ap (λ (v : ℤ). modulo v 64)
      (looked_at _ _ _ _ _ _ o (λ l. over-seen x _ _ t (f.a l)) (λ l. over-seen y _ _ t (f.b l)) (λ l. over-seen z _ _ t (f.c l)))

-- ---- what is left

module _ (o : Operation) (tables : Tables) (registers : List ℕ) (x y z : Input) (f : Fitting o x y z)
    (sources left : List (List ℕ)) (values : List ℕ)
    (g : left ≡ gather_over tables registers x y z sources) (v : values ≡ tab 32 (result_at o left)) where
  computed : values ≡ tab 32 (result_at o (gather_of tables registers x y z))
  computed = v ∙ ap (λ (s : List (List ℕ)). tab 32 (result_at o s)) g ∙ results_over tables registers o x y z sources f

  -- the rows, whatever stood for results
  pub rows_left_lem : (before : List ℕ)
      → ◌≡◌ {A = Rows} (record { sources = left; values = values }) (worked_on o tables registers x y z (record { sources = sources; values = before }))
  unfolding worked_on
  rows_left_lem before =
      let w : values ≡ tab 32 (result_at o (gather_over tables registers x y z sources)) = v ∙ ap (λ (s : List (List ℕ)). tab 32 (result_at o s)) g in
      λ i. record { sources = g i; values = w i }

  -- a data instruction
  pub stored : (d : Destination) (mask : ℕ) (after : List ℕ) → after ≡ each 32 (store_lane values mask d) registers
      → after ≡ write_all d (result_by o) mask (gather_of tables registers x y z) registers
  unfolding result_at
  stored d mask after l = l ∙ write_all_lem (result_by o) (gather_of tables registers x y z) values computed d mask registers

  -- a mask instruction
  pub masked : (after : List ℕ) (mask : ℕ) → after ≡ each 32 (store_lane values 4294967295 r0l) registers → mask ≡ pack 32 (zero_at values)
      → Masked (result_by o) (gather_of tables registers x y z) registers after mask
  unfolding result_at mask_all
  masked after mask l m marks =
      let s = gather_of tables registers x y z in
      let e : after ≡ (mask_all (result_by o) s registers marks).registers = l ∙ mask-registers (result_by o) s values computed registers marks in
      let b : mask ≡ (mask_all (result_by o) s registers marks).mask = m ∙ mask_bits (result_by o) s values computed registers marks in
      λ i. threads_at (e i) marks (b i)
