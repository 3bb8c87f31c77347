-- Kernels that are listed alike: they agree up to the place where the listing stops, and altogether where it says `end`.
use mathlib.Core.Path.{◌≡◌, refl, sym, ap, ◌∙◌}
use mathlib.Core.List.{List, [], ◌∷◌}
use Rattle.std.proofs.Common.{None}
use Prim.Native.Nat.{ℕ, ◌+◌}
use lib.ListN.{length}
use Rattle.bits.proofs.Laws.{Bytes}
use Rattle.isa.specs.Text.{ascii}
use Rattle.isa.specs.Rows.{rows}
use Rattle.isa.specs.Find.{forms}
use Rattle.isa.specs.Operand.{destination_of}
use Rattle.isa.specs.Together.{with_dst}
use Rattle.isa.specs.Decode.{decode_of}
use Rattle.walk.specs.Walk.{walk_from, walk_of, shown, stop, refusal_of}
use Rattle.walk.proofs.Seen.{seen, shown-whole}
use Rattle.isa.specs.Parts.{parts_of}
use Rattle.lines.specs.Line.{line_at, end_line}
use Rattle.listing.specs.Listing.{text_of, listing_of}
use Rattle.listing.proofs.Apart.{text_same}
use Rattle.listing.proofs.Seen.{plain}

module _ (a b : List ℕ) (bytes-a : Bytes a) (bytes-b : Bytes b) (same : listing_of a ≡ listing_of b) where
  -- Two kernels listed alike show the same bytes, stop at the same address, and have the same refusal or none. What stands at and
  -- after a refusal may differ.
  pub alike_before : (shown (walk_of a) ≡ shown (walk_of b)) × (stop (walk_of a) ≡ stop (walk_of b))
      × (refusal_of (walk_of a) ≡ refusal_of (walk_of b))
  unfolding listing_of
  alike_before =
      let t = text_same (walk_of a) (walk_of b) (plain a bytes-a) (plain b bytes-b) same in
      let s = (seen a).place ∙ ap (λ (l : List ℕ). 0 + length l) t.0 ∙ sym (seen b).place in
      (t.0, s, t.1)

  -- No two different kernels are listed alike, where nothing is refused.
  pub alike : refusal_of (walk_of a) ≡ None → a ≡ b
  alike none-a =
      let t = alike_before in
      sym (shown-whole a none-a) ∙ t.0 ∙ shown-whole b (sym t.2 ∙ none-a)

-- The example of the statement of what to build.
pub example : listing_of (0x62 ∷ 0x04 ∷ 0x34 ∷ 0x12 ∷ 0x62 ∷ 0x05 ∷ 0x78 ∷ 0x56 ∷ 0x34 ∷ 0x12 ∷ [])
    ≡ ascii "0000 62043412 mov16\n0004 620578563412 mov32\n000A end\n"
unfolding rows forms parts_of destination_of with_dst decode_of walk_from walk_of line_at end_line text_of listing_of
example = refl
