-- The word in the shape of the code: one layout for the diagrams that share it. The fields are those of the first such diagram, and
-- the fixed bits are given.
use Rattle.std.specs.Prelude.{ℕ, [], ◌∷◌}
use Rattle.std.specs.Int.Bits.{bit_or}
use Rattle.isa.specs.Decode.{row_at}
use Rattle.isa.specs.declared.instruction.Bitfield.{Bitfield}
use Rattle.isa.specs.declared.instruction.Shift.{Shift}
use Rattle.isa.specs.declared.instruction.Scan.{Scan}
use Rattle.isa.specs.declared.instruction.Compare.{Compare}
use Rattle.encoding.specs.Write.{of_unary, of_binary, of_bitfield, of_compare, over, ◌is◌}

-- bfi, bfeil, extr, shlhi and shrhi
abbrev pub bitfield_word : ℕ → Bitfield → ℕ
bitfield_word fixed x = over (bit_or x.kept fixed) (row_at 5).fields (of_bitfield x)

-- asr and asrh
abbrev pub shift_word : ℕ → Shift → ℕ
shift_word fixed x = over (bit_or x.kept fixed) (row_at 10).fields (of_binary x.operands [])

-- bitrev, popcount and ffs
abbrev pub scan_word : ℕ → Scan → ℕ
scan_word fixed x = over (bit_or x.kept fixed) (row_at 13).fields (of_unary x.operands [])

-- jmp_exec_any and jmp_exec_none, which keep no bits
abbrev pub jump_word : ℕ → ℕ → ℕ
jump_word fixed off = over fixed (row_at 16).fields ("off" is off ∷ [])

-- if_icmp, while_icmp and else_icmp
abbrev pub compare_word : ℕ → Compare → ℕ
compare_word fixed x = over (bit_or x.kept fixed) (row_at 19).fields (of_compare x)
