-- A text of 65,536 characters has room for that of every kernel that is not too long.
use Rattle.hexfile.proofs.Room.{shown}
use Rattle.hexwriter.proofs.write_whole.Goals as goal

pub returns : goal.returns
returns c = rw c.write.ensures.0 (shown c.args.code.now c.args.text.now c.write.new.text c.requires c.write.ensures.1)
