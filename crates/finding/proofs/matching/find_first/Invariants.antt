use Rattle.std.proofs.Common.{◌≡◌, ◌≤◌, ◌%◌}
use Rattle.rows.specs.Table.{table}
use Rattle.finding.specs.Candidates.{end_in}
use Rattle.finding.proofs.Loop.{StandsAt}
use Rattle.finding.proofs.matching.find_first.Given as goal

abbrev pub invariant-loop-i : goal.invariant-loop-i
invariant-loop-i l =
    (l.i-iterator.start ≤ 22) × (l.i-iterator.end ≤ 22) × (l.i-iterator.end ≡ end_in (l.w % 128) table)
    × StandsAt l.w l.n l.i-iterator.start l.why
