-- The sizes in bytes of what is lent to a run that takes its words as bytes, as docs/c-interface.md has them.
use Rattle.std.specs.Prelude.{ℕ, ◌%◌, Bool, eqb, leb}
use Rattle.machine.specs.Meaning.{both}

-- the number of bytes of an answer
abbrev pub answer_length : ℕ
answer_length = 24

abbrev pub whole_words : ℕ → Bool
whole_words bytes = eqb (bytes % 4) 0

-- the bytes spell words, and there is room for the answer
abbrev pub spelled_by : ℕ → ℕ → ℕ → ℕ → Bool
spelled_by registers uniforms specials answer =
    both (whole_words registers) (both (whole_words uniforms) (both (whole_words specials) (leb answer_length answer)))
