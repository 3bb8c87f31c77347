use mathlib.Core.Path.{sym, ◌∙◌}
use Rattle.bitwise.proofs.Tables.{by-table, no_table}
use Rattle.bitwise.proofs.bitop.Goals as goal

pub returns-then-undefined : goal.returns-then-undefined
returns-then-undefined c k =
    let s = c in
    let o = s.args.o in
    no_table o.tt0 o.tt1 o.tt2 o.tt3 s.args.a s.args.b k s.ranges.a.fits
    (sym c.undefined.ensures ∙ c.if-undefined.true)

pub returns : goal.returns
returns c k =
    let w = c in
    let t = w in
    let s = t in
    let o = s.args.o in
    rw (c.where_set.ensures, c.where_set-only_b.ensures, c.where_set-only_a.ensures, w.where_set-neither.ensures)
    (by-table o.tt0 o.tt1 o.tt2 o.tt3 s.args.a s.args.b k s.ranges.a.fits s.ranges.b.fits
    (sym t.undefined.ensures ∙ t.if-undefined.false))
