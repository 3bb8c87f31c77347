-- The buffer has room for the code and the text for every listing, so neither call is refused.
use Rattle.std.proofs.Common.{◌≡◌, length, take, ap, ◌∙◌}
use borrow.Author.Tests.{le-leb}
use Rattle.listing.specs.Listing.{listing_of}
use Rattle.listing.proofs.Room.{whole, not-refused}
use Rattle.recode.proofs.Same.{recoded_same, left_first}
use Rattle.recoder.proofs.list_again.Goals as goal

pub unwrap-requires : goal.unwrap-requires
unwrap-requires c =
    not-refused (take c.unwrap-n.result c.recode.new.out) c.args.text.now c.list.new.text c.list.result c.requires.1
    c.list.ensures.0 c.list.ensures.1

pub returns-clause-unchanged : goal.returns-clause-unchanged
returns-clause-unchanged c =
    let code = c.args.code.now in
    let done = rw (le-leb (length code) (length c.args.out.now) c.requires.0) at c.recode.ensures.0 in
    let n : c.unwrap-n.result ≡ length code = cc in
    let e = ap (take (length code)) c.recode.ensures.1 ∙ left_first code c.args.out.now (λ j. (c.type_inv.code j).fits) c.requires.0 in
    (whole (take c.unwrap-n.result c.recode.new.out) c.args.text.now c.list.new.text c.list.result c.requires.1 c.list.ensures.0
    c.list.ensures.1 c.unwrap.result c.unwrap.ensures).1
    ∙ ap listing_of (rw n e ∙ recoded_same code (λ j. (c.type_inv.code j).fits))
