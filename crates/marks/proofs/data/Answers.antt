use Rattle.marks.proofs.data.Goals as goal

pub data-refused-requires : goal.data-refused-requires
data-refused-requires c = (c.requires.1, c.requires.2, c.requires.3)

pub data-requires : goal.data-requires
data-requires c = c.requires
