-- What joined truths and relations post.
use Rattle.std.specs.Prelude.{◌≡◌, ⊤, ℕ, ◌≤◌, List, [], ◌∷◌, ℤ, pos, Result, Ok, Err}
use Rattle.std.proofs.Common.{arith, ap, subst}
use Rattle.pi_constraints.specs.declared.constraint.Rel.{Rel}
use Rattle.pi_constraints.specs.declared.constraint.Item.{Item}
use Rattle.pi_constraints.specs.declared.constraint.Constraint.{Constraint}
use Rattle.pi_prop_spec.specs.Operands.{Connective as ConnectiveOf, and, or, either, implies, equivalent}
use Rattle.pi_prop_spec.specs.PostingSums.{Sum, of_number, of_item, added, difference}
use Rattle.pi_prop_spec.specs.Steps.{Refusal, Made, Known, Reading, gives, after, posting}
use Rattle.pi_prop_spec.specs.Truths.{truth_variable_is, new_truth, truth_by_terms, truth_of_standing, truth_of_negation, truth_of_joined, posting_at_most}
use Rattle.pi_prop_made.specs.declared.making.Making.{Making}
use Rattle.pi_prop_made.specs.Making.{Shows, Reads, with_constraint}
use Rattle.pi_prop_read.specs.Sums.{apart, two_apart, both_apart}

-- three constraints
abbrev pub with_three : Made → Constraint → Constraint → Constraint → Made
with_three m a b c = with_constraint (with_constraint (with_constraint m a) b) c

-- a new truth, and what is posted of it
behind : (f : Item → Reading Item) (n : ℕ) (m : Made) (mid : Making) → (r : Reads new_truth m (Item.Var n) mid) → after (new_truth m) f ≡ f (Item.Var n) r.made
behind f n m mid r = ap (λ (o : Result (Known Item) Refusal). after o f) r.is

pub both-made : (x y : Item) (n : ℕ) (m : Made) (mid new : Making) → (r : Reads new_truth m (Item.Var n) mid) → Shows new (with_three r.made (apart (Item.Var n) x) (apart (Item.Var n) y) (both_apart x y (Item.Var n))) → Reads (truth_of_joined and x y) m (Item.Var n) new
both-made x y n m mid new r s = record {
  made = with_three r.made (apart (Item.Var n) x) (apart (Item.Var n) y) (both_apart x y (Item.Var n));
  is = behind (λ t. posting_at_most (difference (of_item t) (of_item x)) (posting_at_most (difference (of_item t) (of_item y)) (posting_at_most (difference (difference (added (of_item x) (of_item y)) (of_item t)) (of_number (pos 1))) (gives t)))) n m mid r;
  shown = s;
}

pub either-made : (x y : Item) (n : ℕ) (m : Made) (mid new : Making) → (r : Reads new_truth m (Item.Var n) mid) → Shows new (with_three r.made (apart x (Item.Var n)) (apart y (Item.Var n)) (two_apart (Item.Var n) x y)) → Reads (truth_of_joined or x y) m (Item.Var n) new
either-made x y n m mid new r s = record {
  made = with_three r.made (apart x (Item.Var n)) (apart y (Item.Var n)) (two_apart (Item.Var n) x y);
  is = behind (λ t. posting_at_most (difference (of_item x) (of_item t)) (posting_at_most (difference (of_item y) (of_item t)) (posting_at_most (difference (difference (of_item t) (of_item x)) (of_item y)) (gives t)))) n m mid r;
  shown = s;
}

pub implication-made : (x y : Item) (n : ℕ) (m : Made) (mid new : Making) → (r : Reads new_truth m (Item.Var n) mid) → Shows new (with_three r.made (two_apart (Item.Int (pos 1)) x (Item.Var n)) (apart y (Item.Var n)) (both_apart (Item.Var n) x y)) → Reads (truth_of_joined implies x y) m (Item.Var n) new
implication-made x y n m mid new r s = record {
  made = with_three r.made (two_apart (Item.Int (pos 1)) x (Item.Var n)) (apart y (Item.Var n)) (both_apart (Item.Var n) x y);
  is = behind (λ t. posting_at_most (difference (difference (of_number (pos 1)) (of_item x)) (of_item t)) (posting_at_most (difference (of_item y) (of_item t)) (posting_at_most (difference (difference (added (of_item t) (of_item x)) (of_item y)) (of_number (pos 1))) (gives t)))) n m mid r;
  shown = s;
}

-- ---- variables are only added

abbrev pub Grown : {A : Type 0} → ℕ → Result (Known A) Refusal → Type 0
Grown n (Err r) = ⊤
Grown n (Ok k) = n ≤ k.made.unused

pub grown-reads : {A : Type 0} (r : Reading A) (m : Made) (x : A) (new : Making) → Grown m.unused (r m) → (q : Reads r m x new) → m.unused ≤ q.made.unused
grown-reads r m x new g q = subst (Grown m.unused) q.is g

pub grown-variable : (n : ℕ) (m : Made) → Grown m.unused (truth_variable_is n m)
grown-variable n m = omega arith

pub grown-standing : (rel : Rel) (u : Sum) (m : Made) → Grown m.unused (truth_of_standing rel u m)
grown-standing rel u m = by u.terms
  where
    by : (ts : List (ℤ × ℕ)) → Grown m.unused (truth_by_terms ts rel u m)
    by [] = omega arith
    by (t ∷ ts) = omega arith

pub grown-negation : (x : Item) (m : Made) → Grown m.unused (truth_of_negation x m)
grown-negation x m = omega arith

pub grown-joined : (k : ConnectiveOf) (x y : Item) (m : Made) → Grown m.unused (truth_of_joined k x y m)
grown-joined and x y m = omega arith
grown-joined or x y m = omega arith
grown-joined either x y m = grown-standing Rel.Unequal (difference (of_item x) (of_item y)) m
grown-joined implies x y m = omega arith
grown-joined equivalent x y m = grown-standing Rel.Equal (difference (of_item x) (of_item y)) m
