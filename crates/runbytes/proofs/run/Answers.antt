use mathlib.Core.Path.{refl, sym, ap}
use mathlib.Core.Bool.{not}
use lib.Seq.{length-take-le}
use Rattle.runbytes.specs.RunBytes.{lent_of}
use Rattle.runbytes.proofs.Lengths.{Known, not-spelled, not-arranged, is_known}
use Rattle.runbytes.proofs.run.Goals as goal

pub returns-then-not-spelled : goal.returns-then-not-spelled
returns-then-not-spelled c =
    let l = lent_of c.args.code.now c.args.registers.now c.args.marks.now c.args.uniforms.now c.args.specials.now c.args.start c.args.mask c.args.budget c.args.records.now c.args.answer.now in
    not-spelled l _ c.spelled.ensures (ap not c.if-not-spelled.true)

pub returns-then-not-arranged : goal.returns-then-not-arranged
returns-then-not-arranged c =
    let l = lent_of c.args.code.now c.args.registers.now c.args.marks.now c.args.uniforms.now c.args.specials.now c.args.start c.args.mask c.args.budget c.args.records.now c.args.answer.now in
    not-arranged l _ c.spelled.ensures (ap not c.if-not-spelled.false) _ c.arranged.ensures (ap not c.if-not-arranged.true)

pub slice_bounds-r-end : goal.slice_bounds-r-end
slice_bounds-r-end c =
    let known : Known (lent_of c.args.code.now c.args.registers.now c.args.marks.now c.args.uniforms.now c.args.specials.now c.args.start c.args.mask c.args.budget c.args.records.now c.args.answer.now) = is_known (lent_of c.args.code.now c.args.registers.now c.args.marks.now c.args.uniforms.now c.args.specials.now c.args.start c.args.mask c.args.budget c.args.records.now c.args.answer.now) _ c.spelled.ensures (ap not c.if-not-spelled.false) _ c.arranged.ensures (ap not c.if-not-arranged.false) in
    (known).registers_most

pub slice_bounds-run_in-end : goal.slice_bounds-run_in-end
slice_bounds-run_in-end c =
    let known : Known (lent_of c.args.code.now c.args.registers.now c.args.marks.now c.args.uniforms.now c.args.specials.now c.args.start c.args.mask c.args.budget c.args.records.now c.args.answer.now) = is_known (lent_of c.args.code.now c.args.registers.now c.args.marks.now c.args.uniforms.now c.args.specials.now c.args.start c.args.mask c.args.budget c.args.records.now c.args.answer.now) _ c.spelled.ensures (ap not c.if-not-spelled.false) _ c.arranged.ensures (ap not c.if-not-arranged.false) in
    sym (length-take-le _ _ (known).registers_most)

pub slice_bounds-s-end : goal.slice_bounds-s-end
slice_bounds-s-end c =
    let known : Known (lent_of c.args.code.now c.args.registers.now c.args.marks.now c.args.uniforms.now c.args.specials.now c.args.start c.args.mask c.args.budget c.args.records.now c.args.answer.now) = is_known (lent_of c.args.code.now c.args.registers.now c.args.marks.now c.args.uniforms.now c.args.specials.now c.args.start c.args.mask c.args.budget c.args.records.now c.args.answer.now) _ c.spelled.ensures (ap not c.if-not-spelled.false) _ c.arranged.ensures (ap not c.if-not-arranged.false) in
    (known).specials_most

pub slice_bounds-run_in-end-3 : goal.slice_bounds-run_in-end-3
slice_bounds-run_in-end-3 c =
    let known : Known (lent_of c.args.code.now c.args.registers.now c.args.marks.now c.args.uniforms.now c.args.specials.now c.args.start c.args.mask c.args.budget c.args.records.now c.args.answer.now) = is_known (lent_of c.args.code.now c.args.registers.now c.args.marks.now c.args.uniforms.now c.args.specials.now c.args.start c.args.mask c.args.budget c.args.records.now c.args.answer.now) _ c.spelled.ensures (ap not c.if-not-spelled.false) _ c.arranged.ensures (ap not c.if-not-arranged.false) in
    sym (length-take-le _ _ (known).specials_most)

pub run_in-requires : goal.run_in-requires
run_in-requires c =
    let known : Known (lent_of c.args.code.now c.args.registers.now c.args.marks.now c.args.uniforms.now c.args.specials.now c.args.start c.args.mask c.args.budget c.args.records.now c.args.answer.now) = is_known (lent_of c.args.code.now c.args.registers.now c.args.marks.now c.args.uniforms.now c.args.specials.now c.args.start c.args.mask c.args.budget c.args.records.now c.args.answer.now) _ c.spelled.ensures (ap not c.if-not-spelled.false) _ c.arranged.ensures (ap not c.if-not-arranged.false) in
    let h = known in
    h.space _ _ _ (length-take-le _ _ h.registers_most) refl (length-take-le _ _ h.specials_most)

pub returns : goal.returns
returns c = c.run_in.ensures.ran
