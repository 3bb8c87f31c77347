-- The address of an answer is found again: in the listing of each kernel a line begins with it. And the line can tell it.
use mathlib.Core.Path.{◌≡◌, refl, sym, ap, ◌∙◌, subst}
use mathlib.Core.Bool.{Bool, true, false, cond}
use mathlib.Core.List.{List, [], ◌∷◌, ◌++◌, append_assoc, append-nil}
use mathlib.Core.Logic.{◌⊎◌, inl, inr}
use Prim.Native.Nat.{ℕ, ◌≤◌}
use native.Mathlib.Omega.{arith}
use lib.Dec.{T, leb, ltb, ltb→lt}
use lib.ListN.{length}
use Rattle.bits.proofs.Table.{all}
use Rattle.isa.specs.Text.{ascii}
use Rattle.isa.specs.Refusal.{number_of, refusal}
use Rattle.isa.specs.Decode.{row_at}
use Rattle.isa.specs.Parts.{place_of}
use Rattle.isa.specs.Rows.{rows}
use Rattle.isa.specs.declared.instruction.Instruction.{Instruction}
use Rattle.digits.specs.Digits.{digit, hex_bytes, hex_address}
use Rattle.lines.specs.Line.{tail_at, line_at, line_of, end_line, refused_line}
use Rattle.listing.specs.Listing.{text_of, listing_of}
use Rattle.walk.specs.Walk.{Walk, ended, refused, stepped, walk_from, walk_of, limit}
use Rattle.comparison.specs.Order.{Entry, others, order, difference_of}
use Rattle.comparison.specs.Compare.{compare_of}
use Rattle.comparison.specs.AnswerLine.{Short, Printable}
use Rattle.comparison.specs.declared.Field.{Field}
use Rattle.comparison.specs.declared.Comparison.{Comparison}
use Rattle.compared.proofs.First.{named_in}
use Rattle.compared.proofs.Together.{Stands, ends, finds, refuses, stands, within, rest, rest-ends, rest-finds, rest-refuses}
use Rattle.compared.proofs.Together.{Together, start, on, exchange_together}
use Rattle.compared.proofs.Together.{Stop, first_refused, second_refused, both-ended, first_ended, second_ended, differ, answer_at}
use Rattle.compared.proofs.Means.{Sizes, first_long, second_long, both_fit, sizes, walk_whole}

-- ---- the lines of a listing

-- a walk's listing has a line of an address
abbrev HasLine : ℕ → Walk → Type 0
HasLine x (ended at) = x ≡ at
HasLine x (refused at r) = x ≡ at
HasLine x (stepped at bytes i w) = (x ≡ at) ⊎ HasLine x w

-- in a text a line begins with some characters: nothing stands before it, or what ends with a line feed
pub record Begins (text start : List ℕ) : Type 0 where
  pub before : List ℕ
  pub after : List ℕ
  pub is : text ≡ before ++ (start ++ after)
  pub line : (before ≡ []) ⊎ ((b : List ℕ) × (before ≡ b ++ ascii "\n"))

abbrev pub BeginsAt : ℕ → List ℕ → Type 0
BeginsAt x text = Begins text (hex_address x ++ ascii " ")

-- a line before it
after_line : (x at : ℕ) (bytes : List ℕ) (i : Instruction) (text : List ℕ) → BeginsAt x text → BeginsAt x (line_of at bytes i ++ text)
unfolding line_at
after_line x at bytes i text b =
    let l = line_of at bytes i in
    record {
      before = l ++ b.before;
      after = b.after;
      is = ap (λ (t : List ℕ). l ++ t) b.is ∙ sym (append_assoc l b.before (hex_address x ++ ascii " " ++ b.after));
      line = inr (go b.line);
    }
  where
    go : (b.before ≡ []) ⊎ ((c : List ℕ) × (b.before ≡ c ++ ascii "\n"))
        → (c : List ℕ) × (line_of at bytes i ++ b.before ≡ c ++ ascii "\n")
    go (inl e) =
        let p = hex_address at ++ ascii " " ++ hex_bytes bytes in
        let q = ascii " " ++ ascii (row_at (place_of i)).heading in
        (p ++ q, ap (λ (t : List ℕ). line_of at bytes i ++ t) e ∙ append-nil (line_of at bytes i) ∙ sym (append_assoc p q (ascii "\n")))
    go (inr c) =
        (line_of at bytes i ++ c.0, ap (λ (t : List ℕ). line_of at bytes i ++ t) c.1 ∙ sym (append_assoc (line_of at bytes i) c.0 (ascii "\n")))

text_line : (x : ℕ) (w : Walk) → HasLine x w → BeginsAt x (text_of w)
unfolding text_of end_line refused_line line_at
text_line x (ended at) e = rw e (record { before = []; after = ascii "end\n"; is = refl; line = inl refl })
text_line x (refused at r) e =
    rw e (record { before = []; after = ascii "refused " ++ (digit (number_of r) ∷ ascii "\n"); is = refl; line = inl refl })
text_line x (stepped at bytes i w) (inl e) =
    rw e (record { before = []; after = hex_bytes bytes ++ tail_at (place_of i) ++ text_of w; is = refl; line = inl refl })
text_line x (stepped at bytes i w) (inr l) = after_line x at bytes i (text_of w) (text_line x w l)

-- the answer has no address, or in the listing of a kernel a line begins with it
abbrev pub InListing : List ℕ → Comparison → Type 0
InListing code Comparison.Same = Unit {0}
InListing code (Comparison.Differs at f) = BeginsAt at (listing_of code)
InListing code (Comparison.Ended at k) = BeginsAt at (listing_of code)
InListing code (Comparison.Refused at r k) = BeginsAt at (listing_of code)

-- what is left of a walk begins with a line of its address
line_here : (code : List ℕ) (at : ℕ) → at ≤ length code → HasLine at (rest code at)
line_here code at h = go (stands code at h)
  where
    go : Stands code at → HasLine at (rest code at)
    go (ends e) = rw (rest-ends code at e) refl
    go (finds i n f) = rw (rest-finds code at i n f) (inl refl)
    go (refuses r f) = rw (rest-refuses code at r f) refl

-- a line of what is left is a line of the whole
line_before : (a b : List ℕ) (x to : ℕ) → Together a b to → HasLine x (rest a to) → HasLine x (rest a 0)
line_before a b x to (start _ e) l = subst (λ (k : ℕ). HasLine x (rest a k)) e l
line_before a b x to (on _ at i n t f g e) l =
    let m = subst (λ (k : ℕ). HasLine x (rest a k)) e l in
    line_before a b x at t (rw (rest-finds a at i n f) (inr m))

-- where two kernels go together, both have a line of that address
line_at_lem : (a b : List ℕ) → length a ≤ limit → (to : ℕ) → Together a b to → BeginsAt to (listing_of a)
unfolding listing_of
line_at_lem a b la to t =
    text_line to (walk_of a) (rw (walk_whole a la) (line_before a b to to t (line_here a to (within a b to t).0)))

-- every listing has a line of address 0
line_zero : (code : List ℕ) → BeginsAt 0 (listing_of code)
unfolding walk_of listing_of
line_zero code = text_line 0 (walk_of code) (go (leb (length code) limit))
  where
    go : (s : Bool) → HasLine 0 (cond s (walk_from (length code) 0 code) (refused 0 (refusal 1)))
    go true = line_here code 0 (omega arith)
    go false = refl

-- In the listing of the first kernel a line begins with the address of the answer, and in that of the second.
pub listed : (a b : List ℕ) → InListing a (compare_of a b) × InListing b (compare_of a b)
listed a b = go (sizes a b)
  where
    at : length a ≤ limit → length b ≤ limit → (to : ℕ) → Together a b to → (s : Stop a b to)
        → InListing a (answer_at a b to s) × InListing b (answer_at a b to s)
    at la lb to t (first_refused r f) = (line_at_lem a b la to t, line_at_lem b a lb to (exchange_together a b to t))
    at la lb to t (second_refused r k g) = (line_at_lem a b la to t, line_at_lem b a lb to (exchange_together a b to t))
    at la lb to t (both-ended e g) = (tt, tt)
    at la lb to t (first_ended j m e g) = (line_at_lem a b la to t, line_at_lem b a lb to (exchange_together a b to t))
    at la lb to t (second_ended i n f e) = (line_at_lem a b la to t, line_at_lem b a lb to (exchange_together a b to t))
    at la lb to t (differ i n j m f x y d) = (line_at_lem a b la to t, line_at_lem b a lb to (exchange_together a b to t))

    go : Sizes a b → InListing a (compare_of a b) × InListing b (compare_of a b)
    go (first_long h e) = rw e (line_zero a, line_zero b)
    go (second_long h g e) = rw e (line_zero a, line_zero b)
    go (both_fit la lb o) = rw o.answer (at la lb o.to o.together o.stop)

-- ---- what a line can tell

abbrev short_bit : Field → Bool
short_bit Field.Instruction = true
short_bit Field.Length = true
short_bit Field.Destination = true
short_bit Field.SourceA = true
short_bit Field.SourceB = true
short_bit Field.SourceC = true
short_bit Field.Immediate = true
short_bit (Field.Other bit) = ltb bit 100
short_bit Field.Hint = true
short_bit Field.Bit = true

short_bit_lem : (f : Field) → T (short_bit f) → Short f
short_bit_lem Field.Instruction h = tt
short_bit_lem Field.Length h = tt
short_bit_lem Field.Destination h = tt
short_bit_lem Field.SourceA h = tt
short_bit_lem Field.SourceB h = tt
short_bit_lem Field.SourceC h = tt
short_bit_lem Field.Immediate h = tt
short_bit_lem (Field.Other bit) h = ltb→lt bit 100 h
short_bit_lem Field.Hint h = tt
short_bit_lem Field.Bit h = tt

all_short : T (all (λ (e : Entry). short_bit e.called) order)
unfolding rows others order
all_short = tt

-- Every answer has an address of four digits and, if it names a bit, one of two.
pub printable : (a b : List ℕ) → Printable (compare_of a b)
unfolding difference_of
printable a b = go (sizes a b)
  where
    at : length a ≤ limit → (to : ℕ) → Together a b to → (s : Stop a b to) → Printable (answer_at a b to s)
    at la to t (first_refused r f) = omega (arith, within a b to t)
    at la to t (second_refused r k g) = omega (arith, within a b to t)
    at la to t (both-ended e g) = tt
    at la to t (first_ended j m e g) = omega (arith, within a b to t)
    at la to t (second_ended i n f e) = omega (arith, within a b to t)
    at la to t (differ i n j m f x y d) = (omega (arith, within a b to t), short_bit_lem f (named_in short_bit order all_short i n j m f d))

    go : Sizes a b → Printable (compare_of a b)
    go (first_long h e) = rw e (omega arith)
    go (second_long h g e) = rw e (omega arith)
    go (both_fit la lb o) = rw o.answer (at la o.to o.together o.stop)
