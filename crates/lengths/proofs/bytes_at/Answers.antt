use Rattle.rows.proofs.At.{of-diagram}
use Rattle.lengths.proofs.bytes_at.Goals as goal

pub returns : goal.returns
returns c = rw (c.row_at.ensures, of-diagram)
