use Rattle.std.proofs.Common.{rules}
use Rattle.machine.specs.Integer.{modulo}
use Rattle.machine.specs.Meaning.{mov, get_sr}
use Rattle.alu.proofs.result.Goals as goal

pub returns-in-Mov : goal.returns-in-Mov
unfolding modulo mov
returns-in-Mov c = search rules

pub returns-in-GetSr : goal.returns-in-GetSr
unfolding modulo get_sr
returns-in-GetSr c = search rules

-- what an operation computes does not rest on a source that it does not look at

pub returns-in-Iadd : goal.returns-in-Iadd
returns-in-Iadd c = rw c.in-Iadd.is (c.iadd.ensures c.args.c)

pub returns-in-Asr : goal.returns-in-Asr
returns-in-Asr c = rw c.in-Asr.is (c.asr.ensures c.args.c)

pub returns-in-Asrh : goal.returns-in-Asrh
returns-in-Asrh c = rw c.in-Asrh.is (c.asrh.ensures c.args.c)

pub returns-in-Bitop : goal.returns-in-Bitop
returns-in-Bitop c = rw c.in-Bitop.is (c.bitop.ensures c.args.c)

pub returns-in-Bitrev : goal.returns-in-Bitrev
returns-in-Bitrev c = rw c.in-Bitrev.is (c.bitrev.ensures c.args.b c.args.c)

pub returns-in-Popcount : goal.returns-in-Popcount
returns-in-Popcount c = rw c.in-Popcount.is (c.popcount.ensures c.args.b c.args.c)

pub returns-in-Ffs : goal.returns-in-Ffs
returns-in-Ffs c = rw c.in-Ffs.is (c.ffs.ensures c.args.b c.args.c)

pub returns-in-PopExec : goal.returns-in-PopExec
returns-in-PopExec c = rw c.in-PopExec.is (c.pop_exec.ensures c.args.a c.args.b)
