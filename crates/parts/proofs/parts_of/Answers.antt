use Rattle.isa.specs.Parts.{parts_of}
use Rattle.parts.proofs.parts_of.Goals as goal

pub returns-in-Mov16 : goal.returns-in-Mov16
unfolding parts_of
returns-in-Mov16 c = rw c.in-Mov16.is (rw c.from.ensures at c.of_dst.ensures)

pub returns-in-Mov32 : goal.returns-in-Mov32
unfolding parts_of
returns-in-Mov32 c = rw c.in-Mov32.is c.of_dst-in-Mov32.ensures

pub returns-in-GetSr : goal.returns-in-GetSr
unfolding parts_of
returns-in-GetSr c = rw c.in-GetSr.is (rw c.from-in-GetSr.ensures at c.of_dst-in-GetSr.ensures)

pub returns-in-Iadd : goal.returns-in-Iadd
unfolding parts_of
returns-in-Iadd c = rw (c.of_binary.ensures, c.no_truth.ensures, c.in-Iadd.is)

pub returns-in-Imadd : goal.returns-in-Imadd
unfolding parts_of
returns-in-Imadd c = rw c.in-Imadd.is c.of_ternary.ensures

pub returns-in-Bfi : goal.returns-in-Bfi
unfolding parts_of
returns-in-Bfi c = rw c.in-Bfi.is c.of_bitfield.ensures

pub returns-in-Bfeil : goal.returns-in-Bfeil
unfolding parts_of
returns-in-Bfeil c = rw c.in-Bfeil.is c.of_bitfield-in-Bfeil.ensures

pub returns-in-Extr : goal.returns-in-Extr
unfolding parts_of
returns-in-Extr c = rw c.in-Extr.is c.of_bitfield-in-Extr.ensures

pub returns-in-Shlhi : goal.returns-in-Shlhi
unfolding parts_of
returns-in-Shlhi c = rw c.in-Shlhi.is c.of_bitfield-in-Shlhi.ensures

pub returns-in-Shrhi : goal.returns-in-Shrhi
unfolding parts_of
returns-in-Shrhi c = rw c.in-Shrhi.is c.of_bitfield-in-Shrhi.ensures

pub returns-in-Asr : goal.returns-in-Asr
unfolding parts_of
returns-in-Asr c = rw c.in-Asr.is c.of_shift.ensures

pub returns-in-Asrh : goal.returns-in-Asrh
unfolding parts_of
returns-in-Asrh c = rw c.in-Asrh.is c.of_shift-in-Asrh.ensures

pub returns-in-Bitop : goal.returns-in-Bitop
unfolding parts_of
returns-in-Bitop c = rw (c.of_binary-in-Bitop.ensures, c.no_signs.ensures, c.in-Bitop.is)

pub returns-in-Bitrev : goal.returns-in-Bitrev
unfolding parts_of
returns-in-Bitrev c = rw c.in-Bitrev.is c.of_scan.ensures

pub returns-in-Popcount : goal.returns-in-Popcount
unfolding parts_of
returns-in-Popcount c = rw c.in-Popcount.is c.of_scan-in-Popcount.ensures

pub returns-in-Ffs : goal.returns-in-Ffs
unfolding parts_of
returns-in-Ffs c = rw c.in-Ffs.is c.of_scan-in-Ffs.ensures

pub returns-in-JmpExecAny : goal.returns-in-JmpExecAny
unfolding parts_of
returns-in-JmpExecAny c = rw c.in-JmpExecAny.is c.of_jump.ensures

pub returns-in-JmpExecNone : goal.returns-in-JmpExecNone
unfolding parts_of
returns-in-JmpExecNone c = rw c.in-JmpExecNone.is c.of_jump-in-JmpExecNone.ensures

pub returns-in-PopExec : goal.returns-in-PopExec
unfolding parts_of
returns-in-PopExec c = rw c.in-PopExec.is c.of_pop.ensures

pub returns-in-IfIcmp : goal.returns-in-IfIcmp
unfolding parts_of
returns-in-IfIcmp c = rw c.in-IfIcmp.is c.of_compare.ensures

pub returns-in-WhileIcmp : goal.returns-in-WhileIcmp
unfolding parts_of
returns-in-WhileIcmp c = rw c.in-WhileIcmp.is c.of_compare-in-WhileIcmp.ensures

pub returns-in-ElseIcmp : goal.returns-in-ElseIcmp
unfolding parts_of
returns-in-ElseIcmp c = rw c.in-ElseIcmp.is c.of_compare-in-ElseIcmp.ensures
