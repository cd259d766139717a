-- Constraints are made one after the other, and the first refusal counts.
use Rattle.std.specs.Prelude.{◌≡◌, ℕ, List, [], ◌∷◌, ◌++◌, Option, Some, None, refl}
use Rattle.std.specs.Option.{option_or}
use Rattle.std.proofs.Common.{◌∙◌, ap, sym, subst}
use Rattle.pi_constraints.specs.declared.constraint.Constraint.{Constraint}
use Rattle.pi_prop_spec.specs.Steps.{Refusal, Made}
use Rattle.pi_prop_spec.specs.Limits.{refusal_of, first_refusal}
use Rattle.pi_prop_spec.specs.Postings.{nothing_made}
use Rattle.pi_prop_made.specs.declared.limits.Limit.{Limit}
use Rattle.pi_prop_made.specs.declared.making.Making.{Making}
use Rattle.pi_prop_made.specs.Making.{refusal_for, AreKept, Shows, with_constraint}

or_none : (o : Option Refusal) → option_or o None ≡ o
or_none None = refl
or_none (Some r) = refl

refusal-behind : (cs : List Constraint) (c : Constraint) → first_refusal (cs ++ c ∷ []) ≡ option_or (first_refusal cs) (refusal_of c)
unfolding first_refusal
refusal-behind [] c = or_none (refusal_of c)
refusal-behind (d ∷ cs) c = ap (option_or (refusal_of d)) (refusal-behind cs c) ∙ nested (refusal_of d) (first_refusal cs) (refusal_of c)
  where
    nested : (o p q : Option Refusal) → option_or o (option_or p q) ≡ option_or (option_or o p) q
    nested None p q = refl
    nested (Some r) p q = refl

-- nothing was refused, and now this is
pub refused_first : (kept made : List Constraint) (limit : Limit) (c : Constraint) → AreKept None kept made → refusal_of c ≡ Some (refusal_for limit) → AreKept (Some limit) kept (made ++ c ∷ [])
refused_first kept made limit c k e = refusal-behind made c ∙ ((λ i. option_or (k.1 i) (refusal_of c)) ∙ e)

-- something was refused, whatever comes now
pub refused_before : (o : Limit) (kept made : List Constraint) (c : Constraint) → AreKept (Some o) kept made → AreKept (Some o) kept (made ++ c ∷ [])
refused_before o kept made c k = refusal-behind made c ∙ ap (λ (r : Option Refusal). option_or r (refusal_of c)) k

pub kept_more : (kept more made : List Constraint) (c : Constraint) → AreKept None kept made → more ≡ kept ++ c ∷ [] → refusal_of c ≡ None → AreKept None more (made ++ c ∷ [])
kept_more kept more made c k e f = (e ∙ ap (λ (cs : List Constraint). cs ++ c ∷ []) k.0, refusal-behind made c ∙ ((λ i. option_or (k.1 i) (refusal_of c)) ∙ f))

-- ---- what is shown

pub refuse_first : (old : Making) (limit : Limit) (m : Made) (c : Constraint) → old.refused ≡ None → Shows old m → refusal_of c ≡ Some (refusal_for limit) → Shows (record { unused = old.unused; constraints = old.constraints; refused = Some limit }) (with_constraint m c)
refuse_first old limit m c e s h = record {
  unused = s.unused;
  constraints = refused_first old.constraints m.constraints limit c (subst (λ (r : Option Limit). AreKept r old.constraints m.constraints) e s.constraints) h;
}

pub refuse_more : (old : Making) (limit : Limit) (m : Made) (c : Constraint) → old.refused ≡ Some limit → Shows old m → Shows old (with_constraint m c)
refuse_more old limit m c e s = record {
  unused = s.unused;
  constraints = subst (λ (r : Option Limit). AreKept r old.constraints (m.constraints ++ c ∷ [])) (sym e)
      (refused_before limit old.constraints m.constraints c (subst (λ (r : Option Limit). AreKept r old.constraints m.constraints) e s.constraints));
}

pub keep_more : (old : Making) (more : List Constraint) (m : Made) (c : Constraint) → old.refused ≡ None → Shows old m → more ≡ old.constraints ++ c ∷ [] → refusal_of c ≡ None →
    Shows (record { unused = old.unused; constraints = more; refused = old.refused }) (with_constraint m c)
keep_more old more m c e s p f = record {
  unused = s.unused;
  constraints = subst (λ (r : Option Limit). AreKept r more (m.constraints ++ c ∷ [])) (sym e)
      (kept_more old.constraints more m.constraints c (subst (λ (r : Option Limit). AreKept r old.constraints m.constraints) e s.constraints) p f);
}

pub nothing_shown : (n : ℕ) (cs : List Constraint) → cs ≡ [] → Shows (record { unused = n; constraints = cs; refused = None }) (nothing_made n)
unfolding first_refusal
nothing_shown n cs e = record { unused = refl; constraints = (e, refl) }
