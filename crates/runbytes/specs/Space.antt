-- A call that is taken, with space for as many words as its bytes spell: what it asks for, and what it leaves there.
use Rattle.std.specs.Prelude.{ℕ, ◌*◌, ◌≤◌, ◌≡◌, true, List, length}
use Rattle.machine.specs.Run.{registers_left}
use Rattle.machine.specs.declared.answer.Ending.{Ending}
use Rattle.words.specs.Spelling.{words_of}
use Rattle.runbytes.specs.RunBytes.{Lent, spelled_call, call_taken, RanOnBytes}
use Rattle.sizes.specs.Lent.{answer_length}

pub record Space (l : Lent) (registers uniforms specials : ℕ) : Type 0 where
  pub is-taken : call_taken l ≡ true
  pub registers_fit : length l.registers ≡ 4 * registers
  pub uniforms_fit : length l.uniforms ≡ 4 * uniforms
  pub specials_fit : length l.specials ≡ 4 * specials
  pub answer_fits : answer_length ≤ length l.answer

pub record RanIn (l : Lent) (ending : Ending) (registers marks records answer r u s : List ℕ) : Type 0 where
  pub ran : RanOnBytes l ending registers marks records answer
  pub register_words : r ≡ registers_left (spelled_call l)
  pub uniform_words : u ≡ words_of l.uniforms
  pub special_words : s ≡ words_of l.specials
