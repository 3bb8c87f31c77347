-- The text of a listing, as "The lister" of the statement of what to build fixes it: its lines, and what the call writes.
use Rattle.std.specs.Prelude.{ℕ, cond, Result, Ok, Err, List, ◌++◌, leb, length, drop}
use Rattle.isa.specs.Refusal.{refusal}
use Rattle.isa.specs.declared.answer.Refusal.{Refusal}
use Rattle.lines.specs.Line.{line_of, end_line, refused_line}
use Rattle.walk.specs.Walk.{Walk, ended, refused, stepped, walk_of}

-- a line for each instruction, then the last line
unfoldable pub text_of : Walk → List ℕ
text_of (ended at) = end_line at
text_of (refused at r) = refused_line at r
text_of (stepped at bytes i w) = line_of at bytes i ++ text_of w

unfoldable pub listing_of : List ℕ → List ℕ
listing_of code = text_of (walk_of code)

-- ---- the call: a text with too little room is refused, and nothing is written

abbrev pub listed_of : List ℕ → ℕ → Result ℕ Refusal
listed_of code room =
    cond (leb (length (listing_of code)) room) (Ok (length (listing_of code))) (Err (refusal 1))

-- the listing at the start of what stood there
abbrev pub listing_left : List ℕ → List ℕ → List ℕ
listing_left code old = cond (leb (length (listing_of code)) (length old)) (listing_of code ++ drop (length (listing_of code)) old) old
