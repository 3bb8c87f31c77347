-- The cache of a run: each slot is the plan of the code at its own address.
use Rattle.std.specs.Prelude.{ℕ, ◌<◌, ◌≡◌, List, length, get_or}
use Rattle.plan.specs.Plan.{PlanOf}
use Rattle.plan.specs.declared.Plan.{Plan}

abbrev pub slots : ℕ
slots = 256

pub record Cached (code : List ℕ) (cache : List Plan) : Type 0 where
  pub size : length cache ≡ slots
  pub slot : (k : ℕ) (other : Plan) → k < slots → PlanOf code (get_or cache k other)
