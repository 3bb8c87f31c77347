-- What the code's answer says of the place to go on at.
use Rattle.std.specs.Prelude.{ℕ, Result, Ok, Err}
use Rattle.isa.specs.declared.answer.Refusal.{Refusal}
use Rattle.machine.specs.Step as step
use Rattle.jumps.specs.declared.Class.{Class}

-- the number of a class in a record
abbrev pub class_number : Class → ℕ
class_number Class.Data = 1
class_number Class.Mask = 2
class_number Class.JumpNotTaken = 3
class_number Class.JumpTaken = 4

abbrev pub as_going : Result (ℕ × Class) Refusal → step.Going
as_going (Ok (address, class)) = step.to address (class_number class)
as_going (Err r) = step.nowhere r
