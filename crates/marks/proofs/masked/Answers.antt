use Rattle.marks.proofs.masked.Goals as goal

pub masked-refused-requires : goal.masked-refused-requires
masked-refused-requires c = c.requires

pub masked-requires : goal.masked-requires
masked-requires c = (c.requires.1, c.requires.2, c.requires.3)
