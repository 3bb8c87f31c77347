-- No two different answers give the same line: from the line the answer is read again.
use Rattle.std.proofs.Common.{Option, Some, None}
use mathlib.Core.Path.{◌≡◌, refl, sym, ap, ap₂, ◌∙◌, subst}
use mathlib.Core.Bool.{Bool, true, false, cond}
use mathlib.Core.List.{List, [], ◌∷◌, ◌++◌}
use Prim.Native.Nat.{ℕ, ◌+◌, ◌*◌, ◌-◌, ◌/◌, ◌%◌, ◌<◌, ◌≤◌}
use native.Mathlib.Omega.{arith}
use lib.Dec.{eqb, leb, ltb}
use lib.ListN.{length, get_or, take, drop, length-append, length-drop}
use lib.Seq.{take-append_seam}
use borrow.Author.Tests.{ltb-false, lt-ltb, ne_eqb, le-leb, leb-true, leb-false}
use Rattle.isa.specs.Text.{ascii}
use Rattle.isa.specs.Refusal.{number_of, refusal}
use Rattle.isa.proofs.Numbers.{of_number, number_below}
use Rattle.digits.specs.Digits.{digit, hex_address}
use Rattle.digits.proofs.Digits.{value_of, value-digit, digit_below}
use Rattle.comparison.specs.Compare.{compare_of}
use Rattle.comparison.specs.AnswerLine.{decimal, word_of, kernel_number, ended_words, refused_words, at_address, line_of, written_of, line_left, Short, Printable}
use Rattle.comparison.specs.declared.Field.{Field}
use Rattle.comparison.specs.declared.Kernel.{Kernel}
use Rattle.comparison.specs.declared.Comparison.{Comparison}
use Rattle.compared.proofs.Listed.{printable}

abbrev nth : ℕ → List ℕ → ℕ
nth k l = get_or l k 0

-- ---- addresses

abbrev address_back : List ℕ → ℕ
address_back l =
    256 * (16 * value_of (nth 0 l) + value_of (nth 1 l)) + (16 * value_of (nth 2 l) + value_of (nth 3 l))

byte_back : (b : ℕ) → b < 256 → 16 * value_of (digit (b / 16)) + value_of (digit (b % 16)) ≡ b
byte_back b h =
    let e = value-digit (b / 16) (omega arith) in
    let f = value-digit (b % 16) (omega arith) in
    rw (e, f) (omega arith)

address-back : (at : ℕ) → at < 65536 → (l : List ℕ) → address_back (hex_address at ++ l) ≡ at
address-back at h l =
    let e = byte_back (at / 256) (omega arith) in
    let f = byte_back (at % 256) (omega arith) in
    rw (e, f) (omega arith)

-- ---- words

-- of decimal digits, as many as there are
abbrev decimal_back : List ℕ → ℕ
decimal_back [] = 0
decimal_back (c ∷ []) = c - 48
decimal_back (c ∷ (d ∷ l)) = 10 * (c - 48) + (d - 48)

decimal-back : (n : ℕ) → n < 100 → decimal_back (decimal n) ≡ n
decimal-back n h = go (ltb n 10) refl
  where
    go : (s : Bool) → ltb n 10 ≡ s → decimal_back (decimal n) ≡ n
    go true e = rw e (omega arith)
    go false e =
        let l = ltb-false n 10 e in
        rw (e, lt-ltb (n / 10) 10 (omega arith), lt-ltb (n % 10) 10 (omega arith)) (omega arith)

-- a field by the letters of its word: i and n, or i alone; l; d; s, and a letter; f, and a number; h; b
abbrev word_back : List ℕ → Field
word_back w =
    cond (eqb (nth 0 w) 105) (cond (eqb (nth 1 w) 110) Field.Instruction Field.Immediate)
    (cond (eqb (nth 0 w) 108) Field.Length
    (cond (eqb (nth 0 w) 100) Field.Destination
    (cond (eqb (nth 0 w) 115) (cond (eqb (nth 7 w) 65) Field.SourceA (cond (eqb (nth 7 w) 66) Field.SourceB Field.SourceC))
    (cond (eqb (nth 0 w) 102) (Field.Other (decimal_back (drop 6 w)))
    (cond (eqb (nth 0 w) 104) Field.Hint Field.Bit)))))

word-back : (f : Field) → Short f → word_back (word_of f) ≡ f
word-back Field.Instruction h = refl
word-back Field.Length h = refl
word-back Field.Destination h = refl
word-back Field.SourceA h = refl
word-back Field.SourceB h = refl
word-back Field.SourceC h = refl
word-back Field.Immediate h = refl
word-back (Field.Other bit) h = ap Field.Other (decimal-back bit h)
word-back Field.Hint h = refl
word-back Field.Bit h = refl

abbrev kernel_back : ℕ → Kernel
kernel_back c = cond (eqb c 49) Kernel.First Kernel.Second

kernel-back : (k : Kernel) → kernel_back (digit (kernel_number k)) ≡ k
kernel-back Kernel.First = refl
kernel-back Kernel.Second = refl

-- ---- lines

-- by the letter after the address: e, r, or that of a field's word
abbrev after_address : List ℕ → Comparison
after_address l =
    cond (eqb (nth 5 l) 101) (Comparison.Ended (address_back l) (kernel_back (nth 11 l)))
    (cond (eqb (nth 5 l) 114) (Comparison.Refused (address_back l) (refusal (value_of (nth 13 l))) (kernel_back (nth 15 l)))
    (Comparison.Differs (address_back l) (word_back (drop 5 l))))

-- s is the first letter of `same`
abbrev line_back : List ℕ → Comparison
line_back l = cond (eqb (nth 0 l) 115) Comparison.Same (after_address l)

-- a line that begins with a digit is not `same`
not_same : (at : ℕ) → at < 65536 → (words : List ℕ) → line_back (at_address at words) ≡ after_address (at_address at words)
not_same at h words =
    let l = digit_below (at / 256 / 16) (omega arith) in
    rw (ne_eqb (digit (at / 256 / 16)) 115 (omega arith))

-- and no word of a field begins with e or r
field_after : (at : ℕ) (f : Field) → after_address (at_address at (word_of f))
    ≡ Comparison.Differs (address_back (at_address at (word_of f))) (word_back (word_of f))
field_after at Field.Instruction = refl
field_after at Field.Length = refl
field_after at Field.Destination = refl
field_after at Field.SourceA = refl
field_after at Field.SourceB = refl
field_after at Field.SourceC = refl
field_after at Field.Immediate = refl
field_after at (Field.Other bit) = refl
field_after at Field.Hint = refl
field_after at Field.Bit = refl

line_back_lem : (c : Comparison) → Printable c → line_back (line_of c) ≡ c
unfolding line_of
line_back_lem Comparison.Same p = refl
line_back_lem (Comparison.Differs at f) p =
    not_same at p.0 (word_of f)
    ∙ field_after at f
    ∙ ap₂ Comparison.Differs (address-back at p.0 (32 ∷ word_of f)) (word-back f p.1)
line_back_lem (Comparison.Ended at k) p =
    not_same at p (ended_words k) ∙ ap₂ Comparison.Ended (address-back at p (32 ∷ ended_words k)) (kernel-back k)
line_back_lem (Comparison.Refused at r k) p =
    not_same at p (refused_words r k)
    ∙ ap (λ (x : ℕ). Comparison.Refused x (refusal (value_of (digit (number_of r)))) (kernel_back (digit (kernel_number k))))
    (address-back at p (32 ∷ refused_words r k))
    ∙ ap₂ (Comparison.Refused at)
    (ap refusal (value-digit (number_of r) (omega (arith, number_below r))) ∙ of_number r)
    (kernel-back k)

-- Answers with an address of four digits and a bit of two are told apart by their lines ..
pub apart : (c d : Comparison) → Printable c → Printable d → line_of c ≡ line_of d → c ≡ d
apart c d p q e = sym (line_back_lem c p) ∙ ap line_back e ∙ line_back_lem d q

-- .. so all answers are.
pub lines_apart : (a b x y : List ℕ) → line_of (compare_of a b) ≡ line_of (compare_of x y) → compare_of a b ≡ compare_of x y
lines_apart a b x y e = apart (compare_of a b) (compare_of x y) (printable a b) (printable x y) e

-- ---- how long a line is

short_word : (f : Field) → length (word_of f) ≤ 11
short_word Field.Instruction = omega arith
short_word Field.Length = omega arith
short_word Field.Destination = omega arith
short_word Field.SourceA = omega arith
short_word Field.SourceB = omega arith
short_word Field.SourceC = omega arith
short_word Field.Immediate = omega arith
short_word (Field.Other bit) = go (ltb bit 10)
  where
    go : (s : Bool) → length (ascii "field " ++ cond s (digit bit ∷ []) (digit (bit / 10) ∷ digit (bit % 10) ∷ [])) ≤ 11
    go true = omega arith
    go false = omega arith
short_word Field.Hint = omega arith
short_word Field.Bit = omega arith

-- A line has four characters at least, and sixteen at most.
pub line_length : (c : Comparison) → (4 ≤ length (line_of c)) × (length (line_of c) ≤ 16)
unfolding line_of
line_length Comparison.Same = omega arith
line_length (Comparison.Differs at f) = omega (arith, short_word f)
line_length (Comparison.Ended at k) = omega arith
line_length (Comparison.Refused at r k) = omega arith

-- ---- the call on a text

-- a text of sixteen bytes or more has room: its first bytes are the line
pub with-room : (c : Comparison) (old new : List ℕ) (o : Option ℕ) → 16 ≤ length old → o ≡ written_of (line_of c) (length old)
    → new ≡ line_left (line_of c) old
    → (o ≡ Some (length (line_of c))) × (length (line_of c) ≤ 16) × (length new ≡ length old) × (take (length (line_of c)) new ≡ line_of c)
with-room c old new o h e f =
    let line = line_of c in
    let l = line_length c in
    let t = le-leb (length line) (length old) (omega arith) in
    let g : new ≡ line ++ drop (length line) old = rw t at f in
    let s = length-append line (drop (length line) old) in
    let d = length-drop (length line) old in
    (rw t at e, l.1, omega (arith, ap length g), rw g (take-append_seam line (drop (length line) old)))

-- nothing is written exactly where the text is too short for the line
abbrev pub Written : List ℕ → ℕ → Option ℕ → Type 0
Written line room None = room < length line
Written line room (Some n) = (n ≤ 16) × (n ≡ length line) × (length line ≤ room)

pub written : (c : Comparison) (room : ℕ) (o : Option ℕ) → o ≡ written_of (line_of c) room → Written (line_of c) room o
written c room o e = subst (Written (line_of c) room) (sym e) (go (leb (length (line_of c)) room) refl)
  where
    go : (s : Bool) → leb (length (line_of c)) room ≡ s → Written (line_of c) room (cond s (Some (length (line_of c))) None)
    go true f = ((line_length c).1, refl, leb-true (length (line_of c)) room f)
    go false f = leb-false (length (line_of c)) room f
