-- The cache: at first, and where the plan of an address is looked up.
use mathlib.Core.Path.{◌≡◌, refl, sym, subst, ap, ◌∙◌}
use mathlib.Core.Bool.{false}
use mathlib.Core.List.{List}
use mathlib.Core.Logic.{◌⊎◌, inl, inr}
use Prim.Native.Nat.{ℕ, ◌<◌}
use native.Mathlib.Decide.{ℕ_discrete}
use native.Mathlib.Omega.{arith}
use lib.ListN.{length, get_or, set, drop, replicate, length-set, length-replicate, get_or-replicate}
use lib.Seq.{get_or-set_same, get_or-set_other}
use Rattle.isa.specs.Decode.{decode_of}
use Rattle.isa.specs.declared.operand.Destination.{Destination}
use Rattle.machine.specs.Meaning.{none}
use Rattle.operations.specs.declared.Operation.{Operation}
use Rattle.operations.specs.declared.action.Kind.{Kind}
use Rattle.action.specs.Acts.{action_with}
use Rattle.std.specs.Prelude.{Ok}
use Rattle.plan.specs.Plan.{Says, Planned, PlanOf}
use Rattle.plan.specs.declared.Plan.{Plan}
use Rattle.run.specs.Cache.{slots, Cached}

-- what stands past the end of the cache
abbrev pub no_plan : Plan
no_plan = record {
  address = 0;
  task = Ok (record {
    bytes = 0;
    registers = 0;
    specials = 0;
    discards = false;
    action = action_with Kind.Writes (Destination.Half 0) none none none (Operation.Mov 0) 0;
  });
}

-- the plan of an address is the plan of the code at its own
plan_here : (code : List ℕ) (address : ℕ) (p : Plan) → Planned (decode_of (drop address code)) address p → PlanOf code p
plan_here code address p q = subst (λ (a : ℕ). Says (decode_of (drop a code)) p.task) (sym q.here) q.says

-- one plan in all slots
pub cached_first : (code : List ℕ) (address : ℕ) (p : Plan) → Planned (decode_of (drop address code)) address p → Cached code (replicate slots p)
cached_first code address p q = record {
  size = length-replicate slots p;
  slot = λ k other h. subst (PlanOf code) (sym (get_or-replicate slots k p other h)) (plan_here code address p q);
}

-- the slot of this address has its plan
pub record Here (code : List ℕ) (cache : List Plan) (p : Plan) (address : ℕ) : Type 0 where
  pub cached : Cached code cache
  pub is : PlanOf code p
  pub here : p.address ≡ address

module _ (code : List ℕ) (cache after : List Plan) (k address : ℕ) (w : Cached code cache) (h : k < slots) where
  -- it had it before
  known : (get_or cache k no_plan).address ≡ address → after ≡ cache → Here code after (get_or after k no_plan) address
  known a e = subst (λ (l : List Plan). Here code l (get_or l k no_plan) address) (sym e) (record { cached = w; is = w.slot k no_plan h; here = a })

  -- it has it now
  renewed : (p : Plan) → Planned (decode_of (drop address code)) address p → after ≡ set cache k p → Here code after (get_or after k no_plan) address
  renewed p q e =
      let inside : k < length cache = omega (arith, w.size) in
      let same = get_or-set_same cache k p no_plan inside in
      subst (λ (l : List Plan). Here code l (get_or l k no_plan) address) (sym e)
      (record {
        cached = record { size = length-set cache k p ∙ w.size; slot = at };
        is = subst (PlanOf code) (sym same) (plan_here code address p q);
        here = ap (λ (x : Plan). x.address) same ∙ q.here;
      })
    where
      at : (j : ℕ) (other : Plan) → j < slots → PlanOf code (get_or (set cache k p) j other)
      at j other l = go (ℕ_discrete j k)
        where
          go : Dec (j ≡ k) → PlanOf code (get_or (set cache k p) j other)
          go (yes e) =
              subst (λ (i : ℕ). PlanOf code (get_or (set cache k p) i other)) (sym e)
              (subst (PlanOf code) (sym (get_or-set_same cache k p other (omega (arith, w.size)))) (plan_here code address p q))
          go (no n) = subst (PlanOf code) (sym (get_or-set_other cache k j p other n)) (w.slot j other l)

  -- one or the other
  pub looked : ((p : Plan) × Planned (decode_of (drop address code)) address p × (after ≡ set cache k p))
      ⊎ (((get_or cache k no_plan).address ≡ address) × (after ≡ cache)) → Here code after (get_or after k no_plan) address
  looked (inl (p, q, e)) = renewed p q e
  looked (inr (a, e)) = known a e
