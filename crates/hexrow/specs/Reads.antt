-- What the functions of this crate answer of a row that stands at the start of a text.
use Rattle.std.specs.Prelude.{ℕ, ◌+◌, ◌*◌, cond, ◌&&◌, List, eqb, ltb, length, get_or, drop, Result, Ok, Err}
use Rattle.hexpairs.specs.Pairs.{pair_value}
use Rattle.hexpairs.specs.Reads.{end_size}
use Rattle.hexrow.specs.Row.{fault, Says, holds, ends, bad, says_of, line_of}
use Rattle.hexrow.specs.declared.Row.{Row}
use Rattle.hexrow.specs.declared.Fault.{Fault}

-- the number of characters of a row at the start of s, by its colon, its count and its end alone; 0 where there is none
abbrev pub size_by : List ℕ → ℕ
size_by s =
    cond (eqb (get_or s 0 0) 58 && (ltb (pair_value (drop 1 s)) 256 && ltb 0 (end_size (drop (2 * pair_value (drop 1 s) + 11) s))))
    (2 * pair_value (drop 1 s) + 11 + end_size (drop (2 * pair_value (drop 1 s) + 11) s))
    0

-- what the numbers of a row with the right sum say: type, address and count, where the next byte of the kernel has the address next
abbrev pub says_by : ℕ → ℕ → ℕ → ℕ → ℕ → Result Row Fault
says_by type address count next size =
    cond (eqb type 0 && eqb address next) (Ok (Row.Data count size))
    (cond (eqb type 1 && (eqb address 0 && eqb count 0)) (Ok (Row.End size))
    (Err (fault 14)))

-- what a line says, with the numbers of its bytes of the kernel and of its characters
abbrev pub told : Says → ℕ → Result Row Fault
told (holds bytes) size = Ok (Row.Data (length bytes) size)
told ends size = Ok (Row.End size)
told (bad f) size = Err f

-- what the first line of a text says
abbrev pub row_at : ℕ → List ℕ → Result Row Fault
row_at next s = told (says_of next (line_of s)) (length (line_of s))
