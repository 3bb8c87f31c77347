-- What is listed is all that the file has, or too long.
use Rattle.std.proofs.Common.{◌≡◌, ℕ, ◌<◌, ◌≤◌, Bool, true, false, List, Option, None, Some, IfSome, Result, Ok, Err, OnOk, inl, inr, length, take, arith, refl, subst, length-take-le, nat_lt}
use borrow.Author.Tests.{lt-leb, ltb-true, ltb-false}
use Rattle.std.specs.Io.KnownBytes.{Appends}
use Rattle.walk.specs.Walk.{walk_of, limit}
use Rattle.listing.specs.Listing.{listing_of}
use Rattle.recode.specs.Recode.{recoded_of}
use Rattle.recoder.specs.Program.{too_long, ListsAgain}

listing-too_long : (code : List ℕ) → limit < length code → listing_of code ≡ too_long
unfolding listing_of walk_of
listing-too_long code h = rw (lt-leb (length code) limit h) refl

pub lists : (has old new : Option (List ℕ)) (n : ℕ) (code : List ℕ) → 8193 ≡ length code → n ≤ length code
    → (n < length code → IfSome has (λ xs. take n code ≡ xs)) → Appends old new (listing_of (recoded_of (take n code)))
    → Appends old new (listing_of (take n code)) → ListsAgain has old new
lists None old new n code l h w a b = tt
lists (Some xs) old new n code l h w a b = go (nat_lt n (length code)) refl
  where
    go : (t : Bool) → nat_lt n (length code) ≡ t → ListsAgain (Some xs) old new
    go true e = inl (subst (λ s. Appends old new (listing_of (recoded_of s))) (w (ltb-true n (length code) e)) a)
    go false e =
        let m = ltb-false n (length code) e in
        inr (subst (Appends old new) (listing-too_long (take n code) (omega (arith, length-take-le n code h))) b)

pub on_ok : {T E P Q : Type 0} (r : Result T E) → (P → Q) → OnOk r P → OnOk r Q
on_ok (Ok x) f p = f p
on_ok (Err e) f p = p
