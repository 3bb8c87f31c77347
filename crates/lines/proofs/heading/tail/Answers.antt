-- Each word is the heading of its place, which antt computes.
use mathlib.Core.Path.{refl}
use native.Mathlib.Omega.{arith}
use Rattle.bits.proofs.Arms.{last_arm}
use Rattle.isa.specs.Rows.{rows}
use Rattle.lines.proofs.heading.tail.Goals as goal

pub returns-in-0 : goal.returns-in-0
unfolding rows
returns-in-0 c = rw c.in-0.is (refl, omega arith)

pub returns-in-1 : goal.returns-in-1
unfolding rows
returns-in-1 c = rw c.in-1.is (refl, omega arith)

pub returns-in-2 : goal.returns-in-2
unfolding rows
returns-in-2 c = rw c.in-2.is (refl, omega arith)

pub returns-in-3 : goal.returns-in-3
unfolding rows
returns-in-3 c = rw c.in-3.is (refl, omega arith)

pub returns-in-4 : goal.returns-in-4
unfolding rows
returns-in-4 c = rw c.in-4.is (refl, omega arith)

pub returns-in-5 : goal.returns-in-5
unfolding rows
returns-in-5 c = rw c.in-5.is (refl, omega arith)

pub returns-in-6 : goal.returns-in-6
unfolding rows
returns-in-6 c = rw c.in-6.is (refl, omega arith)

pub returns-in-7 : goal.returns-in-7
unfolding rows
returns-in-7 c = rw c.in-7.is (refl, omega arith)

pub returns-in-8 : goal.returns-in-8
unfolding rows
returns-in-8 c = rw c.in-8.is (refl, omega arith)

pub returns-in-9 : goal.returns-in-9
unfolding rows
returns-in-9 c = rw c.in-9.is (refl, omega arith)

pub returns-in-10 : goal.returns-in-10
unfolding rows
returns-in-10 c = rw c.in-10.is (refl, omega arith)

pub returns-in-11 : goal.returns-in-11
unfolding rows
returns-in-11 c = rw c.in-11.is (refl, omega arith)

pub returns-in-12 : goal.returns-in-12
unfolding rows
returns-in-12 c = rw c.in-12.is (refl, omega arith)

pub returns-in-13 : goal.returns-in-13
unfolding rows
returns-in-13 c = rw c.in-13.is (refl, omega arith)

pub returns-in-14 : goal.returns-in-14
unfolding rows
returns-in-14 c = rw c.in-14.is (refl, omega arith)

pub returns-in-15 : goal.returns-in-15
unfolding rows
returns-in-15 c = rw c.in-15.is (refl, omega arith)

pub returns-in-16 : goal.returns-in-16
unfolding rows
returns-in-16 c = rw c.in-16.is (refl, omega arith)

pub returns-in-17 : goal.returns-in-17
unfolding rows
returns-in-17 c = rw c.in-17.is (refl, omega arith)

pub returns-in-18 : goal.returns-in-18
unfolding rows
returns-in-18 c = rw c.in-18.is (refl, omega arith)

pub returns-in-19 : goal.returns-in-19
unfolding rows
returns-in-19 c = rw c.in-19.is (refl, omega arith)

pub returns-in-20 : goal.returns-in-20
unfolding rows
returns-in-20 c = rw c.in-20.is (refl, omega arith)

pub returns-in_default : goal.returns-in_default
unfolding rows
returns-in_default c = rw (last_arm 21 _ c.in_default.in_default-own.rest c.requires) (refl, omega arith)
