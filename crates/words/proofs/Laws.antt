-- Laws of words and the bytes that spell them, and the steps of filling the one from the other.
use mathlib.Core.Path.{◌≡◌, refl, sym, ap, ap₂, ◌∙◌}
use mathlib.Core.List.{List, [], ◌∷◌, ◌++◌, append-nil}
use Prim.Native.Nat.{ℕ, zero, suc, ◌+◌, ◌*◌, ◌/◌, ◌^◌, ◌≤◌, ◌<◌}
use native.Mathlib.Omega.{arith}
use mir.Syntax.{w32}
use lib.ListN.{length, get_or, take, drop, drop_of_length-le, length-append, length-drop}
use lib.Seq.{sets, sets-eq, drop-drop}
use Rattle.std.specs.Int.{to_le_bytes, from_le_bytes}
use Rattle.std.specs.Simd.{first_chunks}
use Rattle.std.proofs.lemmas.List.{drop_more}
use Rattle.bits.specs.Word.{bytes_of}
use Rattle.bits.proofs.Pieces.{after}
use Rattle.bits.proofs.Laws.{Bytes, bytes_le, le_bytes, bytes_of_4}
use Rattle.words.specs.Spelling.{words_of, bytes_for}

pub length-words : (s : List ℕ) → length (words_of s) ≡ length s / 4
length-words [] = refl
length-words (a ∷ []) = refl
length-words (a ∷ b ∷ []) = refl
length-words (a ∷ b ∷ c ∷ []) = refl
length-words (a ∷ b ∷ c ∷ d ∷ s) = omega (arith, length-words s)

pub length-bytes : (words : List ℕ) → length (bytes_for words) ≡ 4 * length words
length-bytes [] = refl
length-bytes (w ∷ words) = omega (arith, length-append (bytes_of 4 w) (bytes_for words), length-bytes words)

-- the bytes of the words that bytes spell
pub bytes-words : (s : List ℕ) (n : ℕ) → Bytes s → length s ≡ 4 * n → bytes_for (words_of s) ≡ s
bytes-words [] n h e = refl
bytes-words (a ∷ []) n h e = absurd (omega arith)
bytes-words (a ∷ b ∷ []) n h e = absurd (omega arith)
bytes-words (a ∷ b ∷ c ∷ []) n h e = absurd (omega arith)
bytes-words (a ∷ b ∷ c ∷ d ∷ s) zero h e = absurd (omega arith)
bytes-words (a ∷ b ∷ c ∷ d ∷ s) (suc n) h e =
    ap₂ (λ (x y : List ℕ). x ++ y) (bytes_le (a ∷ b ∷ c ∷ d ∷ []) (λ k. first k))
    (bytes-words s n (λ k. h (suc (suc (suc (suc k))))) (omega arith))
  where
    first : Bytes (a ∷ b ∷ c ∷ d ∷ [])
    first zero = h 0
    first (suc zero) = h 1
    first (suc (suc zero)) = h 2
    first (suc (suc (suc zero))) = h 3
    first (suc (suc (suc (suc k)))) = omega arith

-- the words that the bytes of words spell
pub words-bytes : (words : List ℕ) → ((k : ℕ) → get_or words k 0 < 2 ^ 32) → words_of (bytes_for words) ≡ words
words-bytes [] h = refl
words-bytes (w ∷ words) h = ap₂ (λ (x : ℕ) (s : List ℕ). x ∷ s) (le_bytes 4 w (h 0)) (words-bytes words (λ k. h (suc k)))

-- ---- one step of filling

-- four bytes spell a word, as the library reads it
spelled_word : (s : List ℕ) → 4 ≤ length s → words_of s ≡ from_le_bytes w32 (take 4 s) ∷ words_of (drop 4 s)
spelled_word [] h = absurd (omega arith)
spelled_word (a ∷ []) h = absurd (omega arith)
spelled_word (a ∷ b ∷ []) h = absurd (omega arith)
spelled_word (a ∷ b ∷ c ∷ []) h = absurd (omega arith)
spelled_word (a ∷ b ∷ c ∷ d ∷ s) h = ap (λ (w : ℕ). w ∷ words_of s) (omega arith)

-- the chunk at a place of as many as there are
chunk_at : (s : List ℕ) (k i : ℕ) → i < k → get_or (first_chunks 4 k s) i [] ≡ take 4 (drop (4 * i) s)
chunk_at s zero i h = absurd (omega arith)
chunk_at s (suc k) zero h = refl
chunk_at s (suc k) (suc i) h =
    let e : 4 + 4 * i ≡ 4 * suc i = omega arith in
    chunk_at (drop 4 s) k i (omega arith) ∙ ap (take 4) (drop-drop (4 * i) 4 s) ∙ ap (λ (n : ℕ). take 4 (drop n s)) e

-- four bytes more, of the chunks c, spell the word w more
pub word_next : (s : List ℕ) (c : List (List ℕ)) (k i w : ℕ) → i < k → 4 * k ≡ length s → c ≡ first_chunks 4 k s → w ≡ from_le_bytes w32 (get_or c i [])
    → words_of (drop (4 * i) s) ≡ w ∷ words_of (drop (4 * (i + 1)) s)
word_next s c k i w h e g p =
    let l : 4 ≤ length (drop (4 * i) s) = omega (arith, length-drop (4 * i) s) in
    let f : 4 * i + 4 ≡ 4 * (i + 1) = omega arith in
    let q : w ≡ from_le_bytes w32 (take 4 (drop (4 * i) s)) = p ∙ ap (λ (x : List (List ℕ)). from_le_bytes w32 (get_or x i [])) g ∙ ap (from_le_bytes w32) (chunk_at s k i h) in
    rw q (spelled_word (drop (4 * i) s) l
    ∙ ap (λ (t : List ℕ). from_le_bytes w32 (take 4 (drop (4 * i) s)) ∷ words_of t) (drop-drop 4 (4 * i) s ∙ ap (λ (n : ℕ). drop n s) f))

-- the bytes p of one word more, put into t
pub bytes_next : (words p t : List ℕ) (i : ℕ) → i < length words → p ≡ to_le_bytes w32 (get_or words i 0)
    → sets (sets t (4 * i) p) (4 * (i + 1)) (bytes_for (drop (i + 1) words)) ≡ sets t (4 * i) (bytes_for (drop i words))
bytes_next words p t i h e =
    let q : p ≡ bytes_of 4 (get_or words i 0) = e ∙ bytes_of_4 (get_or words i 0) in
    let n : 4 * (i + 1) ≡ 4 * i + length p = rw q (omega arith) in
    after p (bytes_for (drop (i + 1) words)) (bytes_for (drop i words)) t (sets t (4 * i) p) (4 * i) (4 * (i + 1)) refl n
    (rw (drop_more words i 0 h) (ap (λ (b : List ℕ). b ++ bytes_for (drop (i + 1) words)) (sym q)))

-- what fills all is all
pub filled : (t p : List ℕ) → length t ≡ length p → sets t 0 p ≡ p
filled t p e =
    sets-eq p t 0 (omega arith)
    ∙ ap (λ (l : List ℕ). p ++ l) (drop_of_length-le t {i = 0 + length p} (omega arith))
    ∙ append-nil p
