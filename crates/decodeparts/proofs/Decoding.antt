-- What is read of the parts of what is found is the parts of what the bytes decode to.
use Rattle.std.proofs.Common.{◌≡◌, ℕ, List, Option, Result, Ok, Err, Some, None, refl, ap, ◌∙◌}
use Rattle.isa.specs.Find.{find_of}
use Rattle.isa.specs.Decode.{read_at, decoded_of, read_found, decode_of}
use Rattle.isa.specs.Answer.{Find, Reading}
use Rattle.isa.specs.declared.answer.Refusal.{Refusal}
use Rattle.isa.specs.declared.parts.Parts.{Parts}
use Rattle.decode.specs.With.{with_length, ReadsFound}
use Rattle.readparts.specs.Parts.{parts_read}
use Rattle.decodeparts.specs.Parts.{parts_decoded}

-- the parts of what was read are what was read of the parts
parts_of-read : (r : Reading) (n : ℕ) → with_length (parts_read r) n ≡ parts_decoded (decoded_of r n)
parts_of-read (Some i) n = refl
parts_of-read None n = refl

pub by_parts : (s : List ℕ) (x : Result (Parts × ℕ) Refusal) → ReadsFound (λ p w o. o ≡ parts_read (read_at p w)) (find_of s) s x
    → x ≡ parts_decoded (decode_of s)
unfolding decode_of
by_parts s x h = go (find_of s) h
  where
    go : (f : Find) → ReadsFound (λ p w o. o ≡ parts_read (read_at p w)) f s x → x ≡ parts_decoded (read_found f s)
    go (Ok (p, n)) h = h.2 ∙ ap (λ (o : Option Parts). with_length o n) h.1 ∙ parts_of-read (read_at p _) n
    go (Err r) h = h
