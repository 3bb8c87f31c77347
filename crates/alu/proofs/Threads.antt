-- The results of all threads, from those of each.
use mathlib.Core.Path.{◌≡◌}
use mathlib.Core.List.{List}
use Prim.Native.Nat.{ℕ, ◌<◌}
use lib.ListN.{length, get_or}
use Rattle.machine.specs.Integer.{modulo}
use Rattle.machine.specs.Lanes.{tab}
use Rattle.machine.specs.Step.{source_at}
use Rattle.machine.proofs.Tab.{tab_is}
use Rattle.operations.specs.Operation.{result_by}
use Rattle.operations.specs.declared.Operation.{Operation}
use Rattle.alu.specs.Results.{result_at}

pub results_are : (o : Operation) (sources : List (List ℕ)) (row : List ℕ) → length row ≡ 32
    → ((t : ℕ) → t < 32 → get_or row t 0 ≡ modulo (result_by o (source_at sources 0 t) (source_at sources 1 t) (source_at sources 2 t)) 64)
    → row ≡ tab 32 (result_at o sources)
unfolding result_at
results_are o sources row e h = tab_is 32 (result_at o sources) row e h
