-- What the calls gave, put together: a call that is taken, run on the words that its bytes spell.
use mathlib.Core.Path.{◌≡◌, refl, ap, ◌∙◌}
use mathlib.Core.List.{List, ◌++◌}
use Prim.Native.Nat.{ℕ, ◌^◌, ◌<◌}
use lib.ListN.{drop}
use lib.Seq.{sets}
use Rattle.machine.specs.Run.{Call, run_of, answer_of}
use Rattle.machine.specs.declared.answer.Answer.{Answer}
use Rattle.run.specs.Ran as library
use Rattle.words.specs.Spelling.{words_of, bytes_for}
use Rattle.runbytes.specs.RunBytes.{Lent, spelled_call, ending_of, mask_in}
use Rattle.answers.specs.Run.{answer_bytes}
use Rattle.sizes.specs.Lent.{answer_length}
use Rattle.runbytes.specs.Space.{Space, RanIn}
use Rattle.bits.proofs.Laws.{le_bytes}
use Rattle.bits.proofs.Pieces.{put_first}
use Rattle.machine.proofs.Runs.{mask_left}

-- the mask that a run answers has 32 bits
mask_fits : (c : Call) (a : Answer) → a ≡ answer_of (run_of c) → c.mask < 2 ^ 32 → a.mask < 2 ^ 32
unfolding answer_of
mask_fits c a e h = rw e (mask_left c h)

module _ (l : Lent) {r u s : ℕ} (h : Space l r u s) where
  -- registers, uniforms and special registers in words; then the answer, registers and records that the run left, and what was made of them
  pub runs : (rw₀ uw sw : List ℕ) → rw₀ ≡ words_of l.registers → uw ≡ words_of l.uniforms → sw ≡ words_of l.specials
      → (a : Answer) (words marks records : List ℕ)
      → library.Ran (library.call_of l.code rw₀ l.marks uw sw l.start l.mask l.budget l.records) a words marks records
      → l.mask < 2 ^ 32 → (registers bytes answer : List ℕ) → (registers ≡ bytes_for words) × (words_of registers ≡ words)
      → bytes ≡ answer_bytes a → answer ≡ sets l.answer 0 bytes
      → RanIn l a.ending registers marks records answer words uw sw
  unfolding ending_of
  runs rw₀ uw sw er eu es a words marks records given fits registers bytes answer e f g =
      let q : library.Ran (spelled_call l) a words marks records = rw (er, eu, es) at given in
      let t = h.is-taken in
      let left : answer ≡ answer_bytes a ++ drop answer_length l.answer =
      g ∙ ap (sets l.answer 0) f ∙ put_first l.answer (answer_bytes a) answer_length refl h.answer_fits in
      let mask_is : mask_in answer ≡ a.mask = ap mask_in left ∙ le_bytes 4 a.mask (mask_fits (spelled_call l) a q.answers fits) in
      record {
        ran =
            record {
              ends = rw t (ap (λ (x : Answer). x.ending) q.answers);
              leaves =
                  record {
                    registers_are_left = rw t (e.0 ∙ ap bytes_for q.leaves);
                    marks_are_left = rw t q.marks_are_left;
                    records_are_left = rw t q.writes;
                    answer_left = rw t (left ∙ ap (λ (x : Answer). answer_bytes x ++ drop answer_length l.answer) q.answers);
                  };
              threads = λ taken. rw (e.1, mask_is) q.threads;
            };
        register_words = q.leaves;
        uniform_words = eu;
        special_words = es;
      }
