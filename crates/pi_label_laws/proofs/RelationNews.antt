-- A relation between an operand and an integer makes the variables that the operand's reading makes, and no others where all holds that it posts.
use Rattle.std.specs.Prelude.{◌≡◌, ℕ, suc, Bool, true, false, cond, List, [], ◌∷◌, ◌++◌, ℤ, Ok}
use Rattle.std.proofs.Common.{sym, ◌∙◌, ap, subst}
use Rattle.pi_constraints.specs.declared.constraint.Rel.{Rel}
use Rattle.pi_prop_spec.specs.Operands.{Operand, number, Comparison}
use Rattle.pi_prop_spec.specs.PostingSums.{Sum, of_number}
use Rattle.pi_prop_spec.specs.Steps.{Made, Known, gives, then, step, linear, read_operand}
use Rattle.pi_prop_spec.specs.Relations.{Standing, relation_of, sides_apart, and_apart, read_relation, stands, posts_never, posts_by_terms, posts_standing, posts_relation}
use Rattle.pi_prop_spec.specs.Says.{AllHold}
use Rattle.pi_prop_spec.proofs.GrowLemmas.{with_all, hold-first, hold-added, after_is, is_known}
use Rattle.pi_prop_spec.proofs.OperandLemmas.{step_is}
use Rattle.pi_label_laws.proofs.NewTruths.{never, never-false}

-- the operand was read, all holds that its reading made, and no more variables were made
pub record OperandFirst (x : Operand) (m : Made) (l : Made) (b : ℕ → ℤ) : Type 0 where
  pub known : Known Sum
  pub read : read_operand x m ≡ Ok known
  pub holds : AllHold known.made.constraints b
  pub many : l.unused ≡ known.made.unused

relation-made : (c : Comparison) (x : Operand) (v : ℤ) (m : Made) (r : Known Standing) → read_relation c x (number v) m ≡ Ok r → (k : Known Sum) × (read_operand x m ≡ Ok k) × (k.made ≡ r.made)
unfolding read_relation read_operand
relation-made c x v m r e =
    let first = after_is (read_operand x m) (λ u. then (read_operand (number v)) (λ w. then (step (sides_apart c u w)) (λ z. gives (record { rel = relation_of c; sum = and_apart c z })))) r e in
    let k : Known Sum = first.0 in
    let last = after_is (step (sides_apart c k.what (of_number v)) k.made) (λ z. gives (record { rel = relation_of c; sum = and_apart c z })) r first.2 in
    let stepped = step_is (sides_apart c k.what (of_number v)) k.made last.0 last.1 in
    let given = is_known (record { what = record { rel = relation_of c; sum = and_apart c last.0.what }; made = last.0.made }) r last.2 in
    (k, first.1, ap (λ (z : Known Sum). z.made) stepped ∙ ap (λ (z : Known Standing). z.made) given)

-- what is posted of the sum
posted-more : (ts : List (ℤ × ℕ)) (rel : Rel) (u : Sum) (m : Made) (l : Known (Unit {0})) (b : ℕ → ℤ) → posts_by_terms ts rel u m ≡ Ok l → AllHold l.made.constraints b → AllHold m.constraints b × (l.made.unused ≡ m.unused)
unfolding AllHold
posted-more [] rel u m l b e h = by (stands rel u.constant) e
  where
    by : (p : Bool) → cond p (gives (tt {0})) posts_never m ≡ Ok l → AllHold m.constraints b × (l.made.unused ≡ m.unused)
    by true f =
        let same : m ≡ l.made = ap (λ (z : Known (Unit {0})). z.made) (is_known (record { what = tt {0}; made = m }) l f) in
        (subst (λ (z : Made). AllHold z.constraints b) (sym same) h, ap (λ (z : Made). z.unused) (sym same))
    by false f =
        let n : ℕ = m.unused in
        let made : Made = record { unused = suc n; constraints = with_all m.constraints (never n) } in
        let same : made ≡ l.made = ap (λ (z : Known (Unit {0})). z.made) (is_known (record { what = tt {0}; made = made }) l f) in
        let both = hold-added m.constraints (never n) b (subst (λ (z : Made). AllHold z.constraints b) (sym same) h) in
        absurd (never-false n b both.0 both.1.0)
posted-more (t ∷ ts) rel u m l b e h =
    let made : Made = record { unused = m.unused; constraints = m.constraints ++ linear rel u ∷ [] } in
    let same : made ≡ l.made = ap (λ (z : Known (Unit {0})). z.made) (is_known (record { what = tt {0}; made = made }) l e) in
    (hold-first m.constraints (linear rel u ∷ []) b (subst (λ (z : Made). AllHold z.constraints b) (sym same) h), ap (λ (z : Made). z.unused) (sym same))

pub relation-operand : (c : Comparison) (x : Operand) (v : ℤ) (m : Made) (l : Known (Unit {0})) (b : ℕ → ℤ) → posts_relation c x (number v) m ≡ Ok l → AllHold l.made.constraints b → OperandFirst x m l.made b
relation-operand c x v m l b e h =
    let first = after_is (read_relation c x (number v) m) (λ w. posts_standing w.rel w.sum) l e in
    let r : Known Standing = first.0 in
    let more = posted-more r.what.sum.terms r.what.rel r.what.sum r.made l b first.2 h in
    let k = relation-made c x v m r first.1 in
    record { known = k.0; read = k.1; holds = subst (λ (z : Made). AllHold z.constraints b) (sym k.2) more.0; many = more.1 ∙ ap (λ (z : Made). z.unused) (sym k.2) }
