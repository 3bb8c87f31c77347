-- The closure that each arm hands over computes what its operation does.
use Rattle.std.proofs.Common.{rules}
use Rattle.machine.specs.Integer.{modulo}
use Rattle.machine.specs.Meaning.{mov, get_sr}
use Rattle.alu.proofs.Threads.{results_are}
use Rattle.alu.proofs.results.Goals as goal

pub returns-in-Mov : goal.returns-in-Mov
unfolding modulo mov
returns-in-Mov c =
    rw c.in-Mov.is (results_are _ _ _ c.each.ensures.0 (λ t h. let p = c.each.ensures.1 t h in search rules))

pub returns-in-GetSr : goal.returns-in-GetSr
unfolding modulo get_sr
returns-in-GetSr c =
    rw c.in-GetSr.is (results_are _ _ _ c.each-in-GetSr.ensures.0 (λ t h. let p = c.each-in-GetSr.ensures.1 t h in search rules))

pub returns-in-Iadd : goal.returns-in-Iadd
returns-in-Iadd c =
    rw c.in-Iadd.is (results_are _ _ _ c.each-in-Iadd.ensures.0 (λ t h. let p = c.each-in-Iadd.ensures.1 t h in search rules))

pub returns-in-Imadd : goal.returns-in-Imadd
returns-in-Imadd c =
    rw c.in-Imadd.is (results_are _ _ _ c.each-in-Imadd.ensures.0 (λ t h. let p = c.each-in-Imadd.ensures.1 t h in search rules))

pub returns-in-Bfi : goal.returns-in-Bfi
returns-in-Bfi c =
    rw c.in-Bfi.is (results_are _ _ _ c.each-in-Bfi.ensures.0 (λ t h. let p = c.each-in-Bfi.ensures.1 t h in search rules))

pub returns-in-Bfeil : goal.returns-in-Bfeil
returns-in-Bfeil c =
    rw c.in-Bfeil.is (results_are _ _ _ c.each-in-Bfeil.ensures.0 (λ t h. let p = c.each-in-Bfeil.ensures.1 t h in search rules))

pub returns-in-Extr : goal.returns-in-Extr
returns-in-Extr c =
    rw c.in-Extr.is (results_are _ _ _ c.each-in-Extr.ensures.0 (λ t h. let p = c.each-in-Extr.ensures.1 t h in search rules))

pub returns-in-Shlhi : goal.returns-in-Shlhi
returns-in-Shlhi c =
    rw c.in-Shlhi.is (results_are _ _ _ c.each-in-Shlhi.ensures.0 (λ t h. let p = c.each-in-Shlhi.ensures.1 t h in search rules))

pub returns-in-Shrhi : goal.returns-in-Shrhi
returns-in-Shrhi c =
    rw c.in-Shrhi.is (results_are _ _ _ c.each-in-Shrhi.ensures.0 (λ t h. let p = c.each-in-Shrhi.ensures.1 t h in search rules))

pub returns-in-Asr : goal.returns-in-Asr
returns-in-Asr c =
    rw c.in-Asr.is (results_are _ _ _ c.each-in-Asr.ensures.0 (λ t h. let p = c.each-in-Asr.ensures.1 t h in search rules))

pub returns-in-Asrh : goal.returns-in-Asrh
returns-in-Asrh c =
    rw c.in-Asrh.is (results_are _ _ _ c.each-in-Asrh.ensures.0 (λ t h. let p = c.each-in-Asrh.ensures.1 t h in search rules))

pub returns-in-Bitop : goal.returns-in-Bitop
returns-in-Bitop c =
    rw c.in-Bitop.is (results_are _ _ _ c.each-in-Bitop.ensures.0 (λ t h. let p = c.each-in-Bitop.ensures.1 t h in search rules))

pub returns-in-Bitrev : goal.returns-in-Bitrev
returns-in-Bitrev c =
    rw c.in-Bitrev.is (results_are _ _ _ c.each-in-Bitrev.ensures.0 (λ t h. let p = c.each-in-Bitrev.ensures.1 t h in search rules))

pub returns-in-Popcount : goal.returns-in-Popcount
returns-in-Popcount c =
    rw c.in-Popcount.is (results_are _ _ _ c.each-in-Popcount.ensures.0 (λ t h. let p = c.each-in-Popcount.ensures.1 t h in search rules))

pub returns-in-Ffs : goal.returns-in-Ffs
returns-in-Ffs c =
    rw c.in-Ffs.is (results_are _ _ _ c.each-in-Ffs.ensures.0 (λ t h. let p = c.each-in-Ffs.ensures.1 t h in search rules))

pub returns-in-PopExec : goal.returns-in-PopExec
returns-in-PopExec c =
    rw c.in-PopExec.is (results_are _ _ _ c.each-in-PopExec.ensures.0 (λ t h. let p = c.each-in-PopExec.ensures.1 t h in search rules))

pub returns-in-IfIcmp : goal.returns-in-IfIcmp
returns-in-IfIcmp c =
    rw c.in-IfIcmp.is (results_are _ _ _ c.each-in-IfIcmp.ensures.0 (λ t h. let p = c.each-in-IfIcmp.ensures.1 t h in search rules))

pub returns-in-WhileIcmp : goal.returns-in-WhileIcmp
returns-in-WhileIcmp c =
    rw c.in-WhileIcmp.is (results_are _ _ _ c.each-in-WhileIcmp.ensures.0 (λ t h. let p = c.each-in-WhileIcmp.ensures.1 t h in search rules))

pub returns-in-ElseIcmp : goal.returns-in-ElseIcmp
returns-in-ElseIcmp c =
    rw c.in-ElseIcmp.is (results_are _ _ _ c.each-in-ElseIcmp.ensures.0 (λ t h. let p = c.each-in-ElseIcmp.ensures.1 t h in search rules))
