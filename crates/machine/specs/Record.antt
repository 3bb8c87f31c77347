-- The record of an accepted step: 16 bytes, numbers little-endian: address (2), instruction length (1), class (1), mask before (4),
-- mask after (4), zeros (4). Follows "One run" of the statement of what to build.
use Rattle.std.specs.Prelude.{ℕ, ◌*◌, List, [], ◌∷◌, ◌++◌, length, drop}
use Rattle.bits.specs.Word.{bytes_of}
use Rattle.machine.specs.Step.{Step}

abbrev pub record_bytes : ℕ → ℕ → ℕ → ℕ → ℕ → List ℕ
record_bytes address bytes class before after =
    bytes_of 2 address ++ bytes_of 1 bytes ++ bytes_of 1 class ++ bytes_of 4 before ++ bytes_of 4 after ++ bytes_of 4 0

unfoldable pub record_of : Step → List ℕ
record_of s = record_bytes s.before.address s.bytes s.class s.before.threads.mask s.after.threads.mask

unfoldable pub records_of : List Step → List ℕ
records_of [] = []
records_of (s ∷ ss) = record_of s ++ records_of ss

-- the record room after the steps: their records, and the rest untouched
unfoldable pub room_after : List Step → List ℕ → List ℕ
room_after steps room = records_of steps ++ drop (16 * length steps) room
