-- What the program writes for a file whose bytes are known: the listing of the whole file, decoded and encoded again; or, since a read can
-- fail, that of a kernel too long. Of a part of the file it writes no listing.
use Rattle.std.specs.Prelude.{ℕ, List, Option, IfSome, ◌⊎◌}
use Rattle.std.specs.Io.KnownBytes.{Appends}
use Rattle.isa.specs.Refusal.{refusal}
use Rattle.walk.specs.Walk.{refused}
use Rattle.listing.specs.Listing.{text_of, listing_of}
use Rattle.recode.specs.Recode.{recoded_of}

abbrev pub too_long : List ℕ
too_long = text_of (refused 0 (refusal 1))

-- what the file has, and what has been written before and after
abbrev pub ListsAgain : Option (List ℕ) → Option (List ℕ) → Option (List ℕ) → Type 0
ListsAgain has old new = IfSome has (λ xs. Appends old new (listing_of (recoded_of xs)) ⊎ Appends old new too_long)
