-- What a text of eleven characters and a length say.
use Rattle.std.specs.Prelude.{ℕ, ◌≤◌, ◌≡◌, List, length, take, drop}
use Rattle.isa.specs.Text.{ascii}
use Rattle.compareline.specs.declared.word.Words.{Words}

abbrev pub Sized : Words → Type 0
Sized w = (w.length ≤ 11) × (length w.text ≡ 11)

-- the words, and blanks after them
abbrev pub Says : Words → List ℕ → Type 0
Says w words =
    (take w.length w.text ≡ words) × Sized w × (drop w.length w.text ≡ drop w.length (ascii "           "))
