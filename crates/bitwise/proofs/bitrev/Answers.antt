use Rattle.machine.specs.Meaning.{bitrev}
use Rattle.bitwise.proofs.Turns.{by_exchanges}
use Rattle.bitwise.proofs.bitrev.Goals as goal

pub returns : goal.returns
unfolding bitrev
returns c b k =
    let s = c in
    let r = s in
    let q = r in
    let p = q in
    by_exchanges p.args.a p.exchange-pairs.result q.exchange-fours.result r.exchange-bytes.result s.exchange-halves.result
    c.exchange.result p.exchange-pairs.ensures q.exchange-fours.ensures r.exchange-bytes.ensures s.exchange-halves.ensures
    c.exchange.ensures
