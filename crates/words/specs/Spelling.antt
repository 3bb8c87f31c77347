-- The words of 32 bits that little-endian bytes spell, four to a word, and the bytes of words. Registers and tables cross to callers in
-- other languages so.
use Rattle.std.specs.Prelude.{ℕ, List, [], ◌∷◌, ◌++◌}
use Rattle.bits.specs.Word.{le, bytes_of}

-- one, two or three bytes at the end spell nothing
abbrev pub words_of : List ℕ → List ℕ
words_of [] = []
words_of (a ∷ []) = []
words_of (a ∷ b ∷ []) = []
words_of (a ∷ b ∷ c ∷ []) = []
words_of (a ∷ b ∷ c ∷ d ∷ bytes) = le (a ∷ b ∷ c ∷ d ∷ []) ∷ words_of bytes

abbrev pub bytes_for : List ℕ → List ℕ
bytes_for [] = []
bytes_for (w ∷ words) = bytes_of 4 w ++ bytes_for words
