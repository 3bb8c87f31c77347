-- The bit of the mask, as the definition has it.
use mathlib.Core.Path.{refl}
use Rattle.machine.specs.Lanes.{active_in}
use Rattle.lane.proofs.active.Goals as goal

pub returns : goal.returns
unfolding active_in
returns c = refl
