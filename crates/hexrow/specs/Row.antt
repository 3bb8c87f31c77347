-- A row of Intel HEX, as it is read: a colon, pairs of hexadecimal digits, the end of the line. Follows "Kernels arrive as Intel HEX" of the
-- change requests. The pairs spell the row's bytes: count, address (high byte first), type, data and sum.
use Rattle.std.specs.Prelude.{ℕ, ◌+◌, ◌*◌, ◌%◌, Bool, cond, ◌&&◌, List, [], ◌∷◌, eqb, get_or, take, drop}
use Rattle.hexpairs.specs.Pairs.{pair_value, pairs, spelled, total, is_end}
use Rattle.hexrow.specs.declared.Fault.{Fault}

-- ---- refusals

-- the number of each refusal of a row
abbrev pub fault_number : Fault → ℕ
fault_number Fault.Form = 12
fault_number Fault.Sum = 13
fault_number Fault.Order = 14

-- the refusal that has the number n, 12 to 14
abbrev pub fault : ℕ → Fault
fault n = cond (eqb n 12) Fault.Form (cond (eqb n 13) Fault.Sum Fault.Order)

-- ---- the form of a row

-- the first byte of a row, and all of them: as many as it says, and five more
abbrev pub count_in : List ℕ → ℕ
count_in line = pair_value (drop 1 line)

abbrev pub bytes_in : List ℕ → List ℕ
bytes_in line = spelled (count_in line + 5) (drop 1 line)

-- whether a line is a row: a colon, the pairs of digits of its bytes, the end of the line
unfoldable pub formed : List ℕ → Bool
formed line =
    eqb (get_or line 0 0) 58
    && (pairs (count_in line + 5) (drop 1 line)
    && is_end (drop (2 * count_in line + 11) line))

-- ---- what a row says

abbrev pub address_of : List ℕ → ℕ
address_of bytes = 256 * get_or bytes 1 0 + get_or bytes 2 0

abbrev pub type_of : List ℕ → ℕ
type_of bytes = get_or bytes 3 0

abbrev pub data_of : List ℕ → List ℕ
data_of bytes = take (get_or bytes 0 0) (drop 4 bytes)

pub data Says : Type 0 where
  -- bytes of the kernel
  holds : List ℕ → Says
  -- the end of the kernel
  ends : Says
  -- nothing: the row is bad
  bad : Fault → Says

-- what the bytes of a row say, where the next byte of the kernel has the address next
abbrev pub placed : ℕ → List ℕ → Says
placed next bytes =
    cond (eqb (type_of bytes) 0 && eqb (address_of bytes) next) (holds (data_of bytes))
    (cond (eqb (type_of bytes) 1 && (eqb (address_of bytes) 0 && eqb (get_or bytes 0 0) 0)) ends
    (bad (fault 14)))

abbrev pub summed : ℕ → List ℕ → Says
summed next bytes = cond (eqb (total bytes % 256) 0) (placed next bytes) (bad (fault 13))

-- what a line says there
unfoldable pub says_of : ℕ → List ℕ → Says
says_of next line = cond (formed line) (summed next (bytes_in line)) (bad (fault 12))

-- ---- a line of a text

-- the first line, with its line feed where it has one
unfoldable pub line_of : List ℕ → List ℕ
line_of [] = []
line_of (c ∷ s) = cond (eqb c 10) (c ∷ []) (c ∷ line_of s)
