-- Equal answers that hold pairs hold equal parts.
use Rattle.std.proofs.Common.{◌≡◌, Result, Ok, ap}

same_parts : {A B : Type 0} (u v : A × B) → u ≡ v → (u.0 ≡ v.0) × (u.1 ≡ v.1)
same_parts u v e = (ap (λ q. q.0) e, ap (λ q. q.1) e)

pub ok_pair_parts : {A B E : Type 0} (a x : A) (b y : B) → ◌≡◌ {A = Result (A × B) E} (Ok (a, b)) (Ok (x, y)) → (a ≡ x) × (b ≡ y)
ok_pair_parts a x b y e = same_parts (a, b) (x, y) cc
