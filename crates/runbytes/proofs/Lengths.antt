-- The sizes in bytes and in words: when a call is taken, and that there is space for its words.
use mathlib.Core.Path.{◌≡◌, sym, ◌∙◌}
use mathlib.Core.Bool.{Bool, true, false, not}
use Prim.Native.Nat.{ℕ, ◌/◌, ◌%◌, ◌≤◌}
use native.Mathlib.Omega.{arith}
use borrow.Author.Tests.{eqb-true, leb-true, not-false, not-true}
use lib.ListN.{length}
use Rattle.isa.specs.Refusal.{refusal}
use Rattle.machine.specs.Run.{arranged}
use Rattle.machine.specs.declared.answer.Ending.{Ending}
use Rattle.machine.proofs.Sizes.{parts, sizes}
use Rattle.sizes.specs.Sizes.{arranged_by}
use Rattle.sizes.proofs.Lengths.{arranged_in_lem}
use Rattle.words.proofs.Laws.{length-words}
use Rattle.runbytes.specs.RunBytes.{Lent, spelled_call, spelled, call_taken, ending_of, RanOnBytes}
use Rattle.sizes.specs.Lent.{answer_length, whole_words, spelled_by}
use Rattle.runbytes.specs.Space.{Space}

-- what is known of a call that is taken
pub record Known (l : Lent) : Type 0 where
  pub registers_most : length l.registers / 4 ≤ 4096
  pub specials_most : length l.specials / 4 ≤ 8192
  pub space : (r u s : ℕ) → r ≡ length l.registers / 4 → u ≡ 256 → s ≡ length l.specials / 4 → Space l r u s

module _ (l : Lent) where
  abbrev registers : ℕ
  registers = length l.registers

  abbrev uniforms : ℕ
  uniforms = length l.uniforms

  abbrev specials : ℕ
  specials = length l.specials

  abbrev spelled_in : Bool
  spelled_in = spelled_by registers uniforms specials (length l.answer)

  abbrev arranged_in : Bool
  arranged_in = arranged_by (length l.code) (registers / 4) (length l.marks) (uniforms / 4) (specials / 4) l.start l.budget (length l.records)

  -- the sizes by lengths are the sizes of the words
  arranged-words : arranged_in ≡ arranged (spelled_call l)
  arranged-words =
      rw (← length-words l.registers, ← length-words l.uniforms, ← length-words l.specials) (arranged_in_lem (spelled_call l))

  abbrev Refused : Type 0
  Refused = RanOnBytes l (Ending.Refused (refusal 1)) l.registers l.marks l.records l.answer

  refused_with_1 : call_taken l ≡ false → Refused
  unfolding ending_of
  refused_with_1 e =
      record {
        ends = rw e;
        leaves = record { registers_are_left = rw e; marks_are_left = rw e; records_are_left = rw e; answer_left = rw e };
        threads = λ t. let z : ◌≡◌ {A = ℕ} 0 1 = cc in absurd (omega arith);
      }

  -- the bytes spell no words, or there is no room for the answer
  pub not-spelled : (t : Bool) → t ≡ spelled_in → not t ≡ true → Refused
  unfolding spelled
  not-spelled t e f = refused_with_1 (let g : spelled_in ≡ false = sym e ∙ not-true t f in rw g)

  module _ (t : Bool) (e : t ≡ spelled_in) (f : not t ≡ false) (a : Bool) (g : a ≡ arranged_in) where
    are_spelled : spelled_in ≡ true
    are_spelled = sym e ∙ not-false t f

    -- the words are not as many as they have to be, or another size is not as it has to be
    pub not-arranged : not a ≡ true → Refused
    unfolding spelled
    not-arranged h =
        let b : arranged (spelled_call l) ≡ false = sym (g ∙ arranged-words) ∙ not-true a h in
        refused_with_1 (rw (are_spelled, b))

    pub is_known : not a ≡ false → Known l
    unfolding spelled
    is_known h =
        let b : arranged (spelled_call l) ≡ true = sym (g ∙ arranged-words) ∙ not-false a h in
        let sized = sizes (spelled_call l) b in
        let x = parts (whole_words registers) _ are_spelled in
        let y = parts (whole_words uniforms) _ x.1 in
        let z = parts (whole_words specials) _ y.1 in
        let i = eqb-true (registers % 4) 0 x.0 in
        let j = eqb-true (uniforms % 4) 0 y.0 in
        let k = eqb-true (specials % 4) 0 z.0 in
        let m = length-words l.registers in
        let n = length-words l.uniforms in
        let o = length-words l.specials in
        let p = sized.registers.greatest in
        let q = sized.uniforms in
        let r = sized.specials.greatest in
        record {
          registers_most = omega arith;
          specials_most = omega arith;
          space = λ r u s er eu es.
              record {
                is-taken = rw (are_spelled, b);
                registers_fit = omega arith;
                uniforms_fit = omega arith;
                specials_fit = omega arith;
                answer_fits = leb-true answer_length (length l.answer) z.1;
              };
        }
