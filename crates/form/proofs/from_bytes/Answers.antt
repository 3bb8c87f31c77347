use Rattle.std.proofs.Common.{Result, Ok, Err, Option, Some, None, subst}
use Rattle.std.specs.Result.{MatchResult, result_ok}
use mathlib.Core.List.{List}
use Prim.Native.Nat.{ℕ, ◌<◌}
use mathlib.Core.Path.{◌≡◌, sym, ap, ◌∙◌}
use native.Mathlib.Omega.{arith}
use Rattle.form.specs.Form.{form_of}
use Rattle.formread.specs.Read.{at, instruction_from}
use Rattle.form.proofs.Spelling.{differ, other_length, no_kind, high_kind, other_form}
use Rattle.form.proofs.from_bytes.Goals as goal
use Rattle.form.proofs.from_bytes.Goals.{then-kind-eq0-via-then-kind-eq0, then-kind-eq0-via-else-kind-eq0+then-kind-gt22}

-- ---- whether there are 48 bytes

not_there : {A E : Type 0} (r : Result A E) (P : A → Type 0) (N : Type 0) → MatchResult r P (λ _. N)
    → ◌≡◌ {A = Option A} None (result_ok r) → N
not_there (Ok x) P N m e = cc
not_there (Err y) P N m e = m

there : {A E : Type 0} (r : Result A E) (P : A → Type 0) (N : Type 0) (x : A) → MatchResult r P (λ _. N)
    → ◌≡◌ {A = Option A} (Some x) (result_ok r) → P x
there (Ok y) P N x m e = let z : y ≡ x = cc in subst P z m
there (Err y) P N x m e = cc

-- ---- the ways through the function

pub returns-in_err-form : goal.returns-in_err-form
returns-in_err-form c =
    c.from_residual.ensures ∙ other_length c.args.b.now (not_there _ _ _ c.try_from.ensures.1 c.in_err-form.ensures.value)

pub returns-then-kind-eq0 : goal.returns-then-kind-eq0
returns-then-kind-eq0 c =
    let w = there _ _ _ c.in_ok-form.form c.try_from.ensures.1 c.in_ok-form.ensures.value in
    elim c.then-kind-eq0.branch [
      | then-kind-eq0-via-then-kind-eq0 v ↦ no_kind c.args.b.now w.long (rw (← w.same) v.if-kind-eq0.true)
      | then-kind-eq0-via-else-kind-eq0+then-kind-gt22 v ↦ high_kind c.args.b.now w.long (rw (← w.same) v.if-kind-gt22.true)
    ]

pub returns-else-eq : goal.returns-else-eq
returns-else-eq c =
    let b = c.args.b.now in
    let w = there _ _ _ c.in_ok-form.form c.try_from.ensures.1 c.in_ok-form.ensures.value in
    let k : at c.in_ok-form.form.now 0 ≡ at b 0 = ap (λ (s : List ℕ). at s 0) w.same in
    let z : 0 < at b 0 = omega (arith, k) in
    let u : at b 0 < 23 = omega (arith, k) in
    let e : c.to_bytes.result ≡ form_of (instruction_from (at b 0) b) =
    c.to_bytes.ensures.0 ∙ ap form_of (c.instruction_from-i.ensures ∙ ap (λ (s : List ℕ). instruction_from (at s 0) s) w.same) in
    other_form b w.long z u (λ q. differ c.to_bytes.result c.in_ok-form.form.now c.eq.result c.eq.ensures c.if-eq.false (e ∙ q ∙ sym w.same))
