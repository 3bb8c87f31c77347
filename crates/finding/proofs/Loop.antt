-- The loop along the rows that a word can match: what is first from where it stands on is first of all.
use Rattle.std.proofs.Common.{◌≡◌, ◌+◌, ◌%◌, ◌≤◌, ◌<◌, ℕ, Bool, true, false, cond, Ok, Err, refl, sym, ap, ◌∙◌, subst, arith, length}
use lib.ListN.{get_or, drop}
use Rattle.bits.specs.Word.{ones}
use Rattle.isa.specs.Refusal.{refusal}
use Rattle.isa.specs.Answer.{Find}
use Rattle.isa.specs.declared.answer.Refusal.{Refusal}
use Rattle.rows.specs.Table.{table, no_row}
use Rattle.rows.specs.declared.Row.{Row}
use Rattle.finding.specs.First.{agrees_with, length_by, first_of, FoundWithin}
use Rattle.finding.specs.Candidates.{first_in, end_in}
use Rattle.finding.proofs.Steps.{hit, wait, pass, asked, measured}
use Rattle.finding.proofs.Candidates.{length-table, from_first, past_end, bytes-within, length-within}

-- before row i the answer would be a refusal for why; the first from it on is the first of all
pub record StandsAt (w n i : ℕ) (why : Refusal) : Type 0 where
  pub more : Bool
  pub seen : why ≡ cond more (refusal 2) (refusal 3)
  pub rest : first_of (drop i table) i more w n ≡ first_of table 0 false w n

pub at_first : (w n i : ℕ) → 0 < n → n < 9 → i ≡ first_in (w % 128) table → StandsAt w n i (refusal 3)
at_first w n i some few e =
    record {
      more = false;
      seen = refl;
      rest = rw e (from_first w n some few);
    }

-- the loop reads the row r at i, of which the lent bits agree where a is true, and goes on at j
module _ (w n k i start j : ℕ) (r : Row) (why : Refusal) (a : Bool) (here : i ≡ start) (next : j ≡ start + 1) (b : i < 22)
    (s : StandsAt w n start why) (er : r ≡ get_or table i no_row) (ek : k ≡ ones n) (ea : a ≡ agrees_with k r w) where
  at-i : StandsAt w n i why
  at-i = subst (λ (x : ℕ). StandsAt w n x why) (sym here) s

  on : j ≡ i + 1
  on = omega arith

  within : i < length table
  within = rw length-table b

  module _ (m : ℕ) (em : m ≡ length_by r w) where
    measure : length_by (get_or table i no_row) w ≡ m
    measure = measured r (get_or table i no_row) w m er em

    pub found_here : a ≡ true → m ≤ n → ◌≡◌ {A = Find} (Ok (i, m)) (first_of table 0 false w n) × FoundWithin (Ok (i, m))
    found_here h l = (
      rw⁻¹ measure (sym (hit table i within w n at-i.more (asked _ _ _ n w _ er ek ea ∙ h) (rw measure l)) ∙ at-i.rest),
      (b, rw⁻¹ measure (length-within (get_or table i no_row) w (bytes-within i b).1)),
    )

    pub waits : a ≡ true → n < m → StandsAt w n j (refusal 2)
    waits h l =
        rw on record {
          more = true;
          seen = refl;
          rest = sym (wait table i within w n at-i.more (asked _ _ _ n w _ er ek ea ∙ h) (rw measure l)) ∙ at-i.rest;
        }

  pub passes : a ≡ false → StandsAt w n j why
  passes h =
      rw on record {
        more = at-i.more;
        seen = at-i.seen;
        rest = sym (pass table i within w n at-i.more (asked _ _ _ n w _ er ek ea ∙ h)) ∙ at-i.rest;
      }

refused_for : (more : Bool) → ◌≡◌ {A = Find} (Err (cond more (refusal 2) (refusal 3))) (cond more (Err (refusal 2)) (Err (refusal 3)))
refused_for true = refl
refused_for false = refl

-- past the last that can match
pub at_end : (w n i : ℕ) (why : Refusal) → 0 < n → n < 9 → end_in (w % 128) table ≤ i → i ≤ 22 → StandsAt w n i why
    → ◌≡◌ {A = Find} (Err why) (first_of table 0 false w n)
at_end w n i why some few h l s =
    ap (λ (r : Refusal). Err r) s.seen ∙ refused_for s.more ∙ sym (past_end w n some few i s.more h l) ∙ s.rest
