-- A colon, the digits of the bytes before the data, those of the data and of the sum, and a line feed, put one after the other.
use mathlib.Core.Path.{◌≡◌, refl, ap, ◌∙◌}
use mathlib.Core.List.{List, [], ◌∷◌, ◌++◌}
use Prim.Native.Nat.{ℕ, ◌+◌, ◌*◌, ◌/◌, ◌%◌}
use native.Mathlib.Omega.{arith}
use lib.ListN.{length, set, length-set, length-append}
use lib.Seq.{sets}
use Rattle.bits.proofs.Pieces.{after}
use Rattle.digits.specs.Digits.{hex_byte, hex_bytes}
use Rattle.digits.proofs.Digits.{length-hex_bytes, hex_append}
use Rattle.hexwrite.specs.Write.{head_of, sum_for, row_for}
use Rattle.hexwrite.proofs.row.put_row.Goals as goal

-- the pieces of a row
module _ (at : ℕ) (bytes : List ℕ) where
  sum : ℕ
  sum = sum_for (head_of 0 at bytes)

  head : List ℕ
  head = length bytes ∷ at / 256 ∷ at % 256 ∷ 0 ∷ []

  -- a colon, the head and the data
  front : List ℕ
  front = 58 ∷ hex_bytes head ++ hex_bytes bytes

  pieces : row_for 0 at bytes ≡ (front ++ hex_byte sum) ++ (10 ∷ [])
  unfolding row_for head front sum
  pieces = rw (hex_append bytes (sum_for (head_of 0 at bytes) ∷ []))

  front_length : length front ≡ 9 + 2 * length bytes
  unfolding head front
  front_length = omega (arith, length-hex_bytes bytes)

pub put_bytes-requires : goal.put_bytes-requires
put_bytes-requires c =
    omega (arith, length-set c.args.text.now c.args.n 58)

pub put_bytes-requires-2 : goal.put_bytes-requires-2
put_bytes-requires-2 c =
    omega (arith, length-set c.args.text.now c.args.n 58)

pub put_byte-requires : goal.put_byte-requires
put_byte-requires c =
    omega (arith, length-set c.args.text.now c.args.n 58)

pub bounds-text-end : goal.bounds-text-end
bounds-text-end c =
    omega (arith, length-set c.args.text.now c.args.n 58)

pub returns : goal.returns
unfolding head front sum
returns c =
    let f = front_length c.args.at c.args.bytes.now in
    let high : c.args.at / 256 % 256 ≡ c.args.at / 256 = omega arith in
    let p =
    after (58 ∷ []) (hex_bytes (head c.args.at c.args.bytes.now)) (58 ∷ hex_bytes (head c.args.at c.args.bytes.now)) c.args.text.now (set c.args.text.now c.args.n 58) c.args.n (c.args.n + 1) refl refl refl in
    let q =
    after (58 ∷ hex_bytes (head c.args.at c.args.bytes.now)) (hex_bytes c.args.bytes.now) (front c.args.at c.args.bytes.now) c.args.text.now c.put_bytes.new.text c.args.n (c.args.n + 9) (rw (c.to_be_bytes.ensures, high) at c.put_bytes.ensures ∙ p) refl refl in
    let r =
    after (front c.args.at c.args.bytes.now) (hex_byte (sum c.args.at c.args.bytes.now)) (front c.args.at c.args.bytes.now ++ hex_byte (sum c.args.at c.args.bytes.now)) c.args.text.now c.put_bytes-2.new.text c.args.n
    (c.args.n + 9 + 2 * length c.args.bytes.now) (c.put_bytes-2.ensures ∙ q) (omega arith) refl in
    let e : c.put_byte.new.text ≡ sets c.args.text.now c.args.n (front c.args.at c.args.bytes.now ++ hex_byte (sum c.args.at c.args.bytes.now)) =
    c.put_byte.ensures ∙ ap (λ (b : ℕ). sets c.put_bytes-2.new.text (c.args.n + 9 + 2 * length c.args.bytes.now) (hex_byte b)) c.sum_for.ensures ∙ r in
    after (front c.args.at c.args.bytes.now ++ hex_byte (sum c.args.at c.args.bytes.now)) (10 ∷ []) (row_for 0 c.args.at c.args.bytes.now) c.args.text.now c.put_byte.new.text c.args.n
    (c.args.n + 9 + 2 * length c.args.bytes.now + 2) e (omega (arith, length-append (front c.args.at c.args.bytes.now) (hex_byte (sum c.args.at c.args.bytes.now)))) (pieces c.args.at c.args.bytes.now)
