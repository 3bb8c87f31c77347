-- What the call answers and leaves where the text has room for the line, and where not.
use Rattle.std.proofs.Common.{Some, None}
use mathlib.Core.Path.{◌≡◌, refl, sym, ap, ◌∙◌}
use mathlib.Core.List.{List, ◌++◌}
use Prim.Native.Nat.{ℕ, ◌≤◌, ◌<◌}
use native.Mathlib.Omega.{arith}
use lib.ListN.{length, drop}
use lib.Seq.{sets}
use borrow.Author.Tests.{le-leb, lt-leb}
use Rattle.isa.specs.Text.{ascii}
use Rattle.digits.specs.Digits.{hex_address}
use Rattle.comparison.specs.AnswerLine.{at_address, written_of, line_left}
use Rattle.bits.proofs.Pieces.{after, put_first}

-- too little room
pub no_room : (line old : List ℕ) → length old < length line → (None ≡ written_of line (length old)) × (old ≡ line_left line old)
no_room line old h = let t = lt-leb (length line) (length old) h in (rw t, rw t)

-- room, and the line put at the start
pub room : (line old new : List ℕ) (n : ℕ) → length line ≡ n → n ≤ length old → new ≡ sets old 0 line
    → (Some n ≡ written_of line (length old)) × (new ≡ line_left line old)
room line old new n e h f =
    let t = le-leb (length line) (length old) (omega arith) in
    (rw (t, e), rw t (f ∙ put_first old line n e h ∙ ap (λ (k : ℕ). line ++ drop k old) (sym e)))

-- an address, and then the words, put into a text
pub put_both : (at : ℕ) (words old first new : List ℕ) → first ≡ sets old 0 (hex_address at ++ ascii " ") → new ≡ sets first 5 words
    → new ≡ sets old 0 (at_address at words)
put_both at words old first new e f =
    f ∙ after (hex_address at ++ ascii " ") words (at_address at words) old first 0 5 e refl refl
