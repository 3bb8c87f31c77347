-- Bytes that spell no instruction, and those that do.
use Rattle.std.specs.Prelude.{Result, Ok, Err, Option, Some, None}
use Rattle.std.specs.Option.{ok_or}
use Rattle.std.proofs.lemmas.Result.{err_from_is_err_and}
use mathlib.Core.Path.{◌≡◌, refl, ◌∙◌}
use Rattle.isa.specs.declared.answer.Refusal.{Refusal}
use Rattle.isa.specs.declared.instruction.Instruction.{Instruction}
use Rattle.encode.proofs.encode_form.Goals as goal

spelled : (o : Option Instruction) (i : Instruction) → ◌≡◌ {A = Result Instruction Refusal} (Ok i) (ok_or o Refusal.NoEncoding) → o ≡ Some i
spelled (Some j) i e = cc
spelled None i e = cc

unspelled : (o : Option Instruction) (r : Refusal) → ◌≡◌ {A = Result Instruction Refusal} (Err r) (ok_or o Refusal.NoEncoding)
    → (o ≡ None) × (r ≡ Refusal.NoEncoding)
unspelled (Some j) r e = cc
unspelled None r e = (refl, (cc))

pub returns-in_err-i : goal.returns-in_err-i
returns-in_err-i c =
    let p = err_from_is_err_and c.from_residual.result c.from_residual.ensures.1 in
    let u = unspelled _ _ c.in_err-i.ensures.value in
    rw (← c.from_bytes.ensures, u.0) (p.1 ∙ rw (p.2, u.1), refl)

pub returns : goal.returns
returns c = rw (← c.from_bytes.ensures, spelled _ _ c.in_ok-i.ensures.value) c.encode.ensures
