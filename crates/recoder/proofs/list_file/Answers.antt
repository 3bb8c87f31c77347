-- What was read is all that the file has, or too long; its listing is what was written.
use Rattle.std.proofs.Common.{rules, subst}
use Rattle.std.specs.Io.KnownBytes.{Appends}
use Rattle.recoder.proofs.Whole.{lists, on_ok}
use Rattle.recoder.proofs.list_file.Goals as goal

pub returns : goal.returns
returns g c =
    on_ok c.write_all.result
    (λ a. lists (g.R.Read.remaining c.args.file.now) (g.W.Write.contents c.args.output.now) (g.W.Write.contents c.write_all.new.self)
    c.read_all-n.result c.read_all-n.new.buffer (search rules) c.read_all-n.ensures.prefix_len.0 c.read_all-n.ensures.whole
    (subst (Appends _ _) c.list_again-k.ensures.text_after a) (subst (Appends _ _) c.list_again-k.ensures.unchanged a))
    c.write_all.ensures.bytes
