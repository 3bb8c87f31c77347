-- A text of seventeen bytes has room for every line and its line feed.
use Rattle.std.proofs.Common.{◌≡◌, ℕ, ◌+◌, ◌≤◌, ◌<◌, List, [], ◌∷◌, ◌++◌, length, take, set, arith, sym, ap, ◌∙◌, length-append, length-set, length-take-le, Option, Some, refl}
use lib.Seq.{sets-eq, take_at}
use Rattle.comparison.specs.declared.Comparison.{Comparison}
use Rattle.comparison.specs.AnswerLine.{line_of, written_of, line_left}
use Rattle.compared.proofs.Lines.{with-room}
use Rattle.comparer.proofs.compare_whole.Goals as goal

-- a line feed after the first n bytes
fed : (t : List ℕ) (n : ℕ) → n < length t → take (n + 1) (set t n 10) ≡ take n t ++ (10 ∷ [])
fed t n h =
    let l = length-take-le n t (omega arith) in
    let a : length (take n t ++ (10 ∷ [])) ≡ n + 1 = length-append (take n t) (10 ∷ []) ∙ omega arith in
    ap (take (n + 1)) (sets-eq (10 ∷ []) t n (omega arith)) ∙ take_at (take n t ++ (10 ∷ [])) _ (n + 1) a

-- what the call leaves in a text of seventeen bytes: at most sixteen of them are the line
room : (c : Comparison) (old new : List ℕ) (o : Option ℕ) (n : ℕ) → 17 ≡ length old
    → (o ≡ written_of (line_of c) (length old)) × (new ≡ line_left (line_of c) old) → o ≡ Some n
    → (n ≤ 16) × (length new ≡ 17) × (take n new ≡ line_of c)
room c old new o n h e g =
    let w = with-room c old new o (omega arith) e.0 e.1 in
    let m : n ≡ length (line_of c) = cc in
    (omega (arith, w.1), w.2 ∙ sym h, rw m w.3)

pub unwrap-n-requires : goal.unwrap-n-requires
unwrap-n-requires c =
    let l = c.compare_line in
    rw (with-room _ c.args.text.now l.new.text l.result (omega arith) l.ensures.0 l.ensures.1).0 refl

pub bounds-text-n : goal.bounds-text-n
bounds-text-n c =
    let l = c.compare_line in
    let r = room _ c.args.text.now l.new.text l.result c.unwrap-n.result c.requires l.ensures c.unwrap-n.ensures in
    omega (arith, r)

pub returns-clause-prefix_len : goal.returns-clause-prefix_len
returns-clause-prefix_len c =
    let l = c.compare_line in
    let n = c.unwrap-n.result in
    let r = room _ c.args.text.now l.new.text l.result n c.requires l.ensures c.unwrap-n.ensures in
    let h : n + 1 ≤ length (set l.new.text n 10) = omega (arith, length-set l.new.text n 10) in
    (h, sym (length-take-le (n + 1) (set l.new.text n 10) h))

pub returns-clause-text_after : goal.returns-clause-text_after
returns-clause-text_after c =
    let l = c.compare_line in
    let n = c.unwrap-n.result in
    let r = room _ c.args.text.now l.new.text l.result n c.requires l.ensures c.unwrap-n.ensures in
    fed l.new.text n (omega arith) ∙ ap (λ (x : List ℕ). x ++ (10 ∷ [])) r.2
