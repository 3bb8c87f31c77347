-- A text of 65,536 bytes has room for every listing, so the call is not refused.
use Rattle.listing.proofs.Room.{not-refused}
use Rattle.lister.proofs.list_whole.Goals as goal

pub unwrap-requires : goal.unwrap-requires
unwrap-requires c =
    not-refused c.args.code.now c.args.text.now c.list.new.text c.list.result c.requires c.list.ensures.0 c.list.ensures.1
