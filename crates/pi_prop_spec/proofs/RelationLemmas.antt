-- What the reading of a relation gives, and what a sum that stands so to 0 posts.
use Rattle.std.specs.Prelude.{◌≡◌, ◌≢◌, ℕ, suc, ◌≤◌, Bool, true, false, not, cond, List, [], ◌∷◌, ◌++◌, ℤ, pos, ◌+ℤ◌, ◌-ℤ◌, ◌≤ℤ◌, int_le, int_lt, Ok, refl}
use Rattle.std.specs.Ordering.{int_eq}
use Rattle.std.proofs.Common.{arith, ◌∙◌, ap, sym, subst}
use Rattle.std.proofs.lemmas.Int.{ints}
use Rattle.pi_constraints.specs.declared.constraint.Rel.{Rel}
use Rattle.pi_constraints.specs.declared.constraint.Constraint.{Constraint}
use Rattle.pi_prop_spec.specs.Solutions.{sum_of, Stands}
use Rattle.pi_prop_spec.specs.Operands.{Operand, Comparison, equal, unequal, less, at_most, greater, at_least}
use Rattle.pi_prop_spec.specs.PostingSums.{Sum, of_number, of_variable, with_term, with_terms, scaled_terms, added, difference, sum_value}
use Rattle.pi_prop_spec.specs.Steps.{Made, Known, Reading, gives, then, linear, step, read_operand}
use Rattle.pi_prop_spec.specs.Relations.{Standing, relation_of, sides_apart, and_apart, read_relation, stands, posts_never, posts_by_terms, posts_standing, posts_relation}
use Rattle.pi_prop_spec.specs.Says.{operand_value, compares, AllHold, AgreeBelow}
use Rattle.pi_prop_spec.proofs.PostingSumLemmas.{sums_add, value-difference, value-of_variable, value-of_number}
use Rattle.pi_prop_spec.proofs.FormLemmas.{ascend_below, IsJoined, joined-added, joined-difference, joined-of_number, joined-of_variable}
use Rattle.pi_prop_spec.proofs.GrowLemmas.{AreFormed, Any, Grows, grows_for, agree_less, grows_none, grows_then, grows_posted, grows_defined, hold-added, after_is, is_known}
use Rattle.pi_prop_spec.proofs.OperandLemmas.{OperandBelow, operands_agree, SumRead, step_is, operand-read}

-- ---- a relation that was read

pub record StandingRead (m : Made) (l : Known Standing) (p : (ℕ → ℤ) → Bool) : Type 0 where
  pub grows : Grows Any m l.made
  pub joined : IsJoined l.made.unused l.what.sum
  pub value : (a : ℕ → ℤ) → AllHold l.made.constraints a → stands l.what.rel (sum_value a l.what.sum) ≡ p a

-- the difference of the sides, and what it says of them
difference_of : Comparison → ℤ → ℤ → ℤ
difference_of equal i j = i -ℤ j
difference_of unequal i j = i -ℤ j
difference_of less i j = i -ℤ j
difference_of at_most i j = i -ℤ j
difference_of greater i j = j -ℤ i
difference_of at_least i j = j -ℤ i

joined-sides : (c : Comparison) (n : ℕ) (u v : Sum) → IsJoined n u → IsJoined n v → IsJoined n (sides_apart c u v)
joined-sides equal n u v s r = joined-difference n u v s r
joined-sides unequal n u v s r = joined-difference n u v s r
joined-sides less n u v s r = joined-difference n u v s r
joined-sides at_most n u v s r = joined-difference n u v s r
joined-sides greater n u v s r = joined-difference n v u r s
joined-sides at_least n u v s r = joined-difference n v u r s

value-sides : (c : Comparison) (a : ℕ → ℤ) (u v : Sum) → sum_value a (sides_apart c u v) ≡ difference_of c (sum_value a u) (sum_value a v)
unfolding difference_of
value-sides equal a u v = value-difference a u v
value-sides unequal a u v = value-difference a u v
value-sides less a u v = value-difference a u v
value-sides at_most a u v = value-difference a u v
value-sides greater a u v = value-difference a v u
value-sides at_least a u v = value-difference a v u

joined-apart : (c : Comparison) (n : ℕ) (u : Sum) → IsJoined n u → IsJoined n (and_apart c u)
joined-apart equal n u s = s
joined-apart unequal n u s = s
joined-apart less n u s = joined-added n u (of_number (pos 1)) s (joined-of_number n (pos 1))
joined-apart at_most n u s = s
joined-apart greater n u s = joined-added n u (of_number (pos 1)) s (joined-of_number n (pos 1))
joined-apart at_least n u s = s

one_more : (a : ℕ → ℤ) (u : Sum) → sum_value a (added u (of_number (pos 1))) ≡ sum_value a u +ℤ pos 1
one_more a u = sums_add a u (of_number (pos 1)) ∙ ap (λ (x : ℤ). sum_value a u +ℤ x) (value-of_number a (pos 1))

equal_is : (i j : ℤ) → int_eq (i -ℤ j) (pos 0) ≡ int_eq i j
equal_is i j = grind (arith, ints)

at_most_is : (i j : ℤ) → int_le (i -ℤ j) (pos 0) ≡ int_le i j
at_most_is i j = grind (arith, ints)

less_is : (i j : ℤ) → int_le (i -ℤ j +ℤ pos 1) (pos 0) ≡ int_lt i j
less_is i j = grind (arith, ints)

-- the sum stands so just where the sides compare so
stands_so : (c : Comparison) (a : ℕ → ℤ) (u : Sum) (i j : ℤ) → sum_value a u ≡ difference_of c i j → stands (relation_of c) (sum_value a (and_apart c u)) ≡ compares c i j
unfolding difference_of
stands_so equal a u i j e = ap (stands Rel.Equal) e ∙ equal_is i j
stands_so unequal a u i j e = ap (stands Rel.Unequal) e ∙ ap not (equal_is i j)
stands_so less a u i j e = ap (stands Rel.AtMost) (one_more a u ∙ ap (λ (x : ℤ). x +ℤ pos 1) e) ∙ less_is i j
stands_so at_most a u i j e = ap (stands Rel.AtMost) e ∙ at_most_is i j
stands_so greater a u i j e = ap (stands Rel.AtMost) (one_more a u ∙ ap (λ (x : ℤ). x +ℤ pos 1) e) ∙ less_is j i
stands_so at_least a u i j e = ap (stands Rel.AtMost) e ∙ at_most_is j i

-- the difference as the relation has it
abbrev standing_of : Comparison → Known Sum → Known Standing
standing_of c k = record { what = record { rel = relation_of c; sum = and_apart c k.what }; made = k.made }

pub relation-read : (n : ℕ) (c : Comparison) (x y : Operand) (m : Made) (l : Known Standing) → OperandBelow n x → OperandBelow n y → n ≤ m.unused → read_relation c x y m ≡ Ok l → StandingRead m l (λ a. compares c (operand_value a x) (operand_value a y))
unfolding read_relation
relation-read n c x y m l s t b e =
    let first = after_is (read_operand x m) (λ u. then (read_operand y) (λ v. then (step (sides_apart c u v)) (λ w. gives (record { rel = relation_of c; sum = and_apart c w })))) l e in
    let second = after_is (read_operand y first.0.made) (λ v. then (step (sides_apart c first.0.what v)) (λ w. gives (record { rel = relation_of c; sum = and_apart c w }))) l first.2 in
    let apart : Sum = sides_apart c first.0.what second.0.what in
    let third = after_is (step apart second.0.made) (λ w. gives (record { rel = relation_of c; sum = and_apart c w })) l second.2 in
    let u : SumRead m first.0 (λ a. operand_value a x) = operand-read n x m first.0 s b first.1 in
    let v : SumRead first.0.made second.0 (λ a. operand_value a y) = operand-read n y first.0.made second.0 t (omega (arith, b, u.grows.more)) second.1 in
    let same : standing_of c (record { what = apart; made = second.0.made }) ≡ l =
    ap (standing_of c) (step_is apart second.0.made third.0 third.1)
    ∙ is_known (record { what = record { rel = relation_of c; sum = and_apart c third.0.what }; made = third.0.made }) l third.2 in
    subst (λ k. StandingRead m k (λ a. compares c (operand_value a x) (operand_value a y))) same (record {
      grows = grows_then Any Any m first.0.made second.0.made u.grows v.grows (λ a b p q h. tt);
      joined = joined-apart c second.0.made.unused apart
          (joined-sides c second.0.made.unused first.0.what second.0.what (ascend_below first.0.made.unused second.0.made.unused 0 first.0.what.terms v.grows.more u.joined) v.joined);
      value = λ a h. stands_so c a apart (operand_value a x) (operand_value a y)
          (value-sides c a first.0.what second.0.what ∙ (let p = u.value a (v.grows.keeps a h) in let q = v.value a h in (λ i. difference_of c (p i) (q i))));
    })

-- ---- what is posted

-- the goal's posting says p
pub record Posts (m : Made) (l : Known (Unit {0})) (p : (ℕ → ℤ) → Type 0) : Type 0 where
  pub grows : Grows p m l.made
  pub says : (a : ℕ → ℤ) → AllHold l.made.constraints a → p a

pub stands_true : (rel : Rel) (x : ℤ) → stands rel x ≡ true → Stands rel x
stands_true Rel.Equal x e = grind (arith, ints)
stands_true Rel.Unequal x e = λ f. grind (arith, ints)
stands_true Rel.AtMost x e = grind (arith, ints)

pub true_stands : (rel : Rel) (x : ℤ) → Stands rel x → stands rel x ≡ true
true_stands Rel.Equal x e = grind (arith, ints)
true_stands Rel.Unequal x e = grind (arith, ints, e)
true_stands Rel.AtMost x e = grind (arith, ints)

pub no_terms-value : (a : ℕ → ℤ) (u : Sum) → u.terms ≡ [] → sum_value a u ≡ u.constant
unfolding sum_of
no_terms-value a u e = ap (λ ts. u.constant +ℤ sum_of a ts) e ∙ no_more u.constant
  where
    no_more : (x : ℤ) → x +ℤ pos 0 ≡ x
    no_more x = omega (arith, ints)

-- what is never so
never : ℕ → List Constraint
never n = linear Rel.AtMost (of_variable n) ∷ linear Rel.AtMost (difference (of_number (pos 1)) (of_variable n)) ∷ []

never_holds : (n : ℕ) (a : ℕ → ℤ) → AllHold (never n) a → ⊥
unfolding never AllHold
never_holds n a h = both (a n) (subst (λ (x : ℤ). x ≤ℤ pos 0) (value-of_variable a n) h.0)
    (subst (λ (x : ℤ). x ≤ℤ pos 0) (value-difference a (of_number (pos 1)) (of_variable n) ∙ (λ i. value-of_number a (pos 1) i -ℤ value-of_variable a n i)) h.1.0)
  where
    both : (x : ℤ) → x ≤ℤ pos 0 → (pos 1 -ℤ x) ≤ℤ pos 0 → ⊥
    both x h k = omega (arith, ints)

never-formed : (n : ℕ) → AreFormed (suc n) (never n)
unfolding never AreFormed with_terms with_term scaled_terms
never-formed n = (
  ((λ e. absurd cc), joined-of_variable (suc n) n (omega arith)),
  (((λ e. absurd cc), joined-difference (suc n) (of_number (pos 1)) (of_variable n) (joined-of_number (suc n) (pos 1)) (joined-of_variable (suc n) n (omega arith))), tt),
)

pub standing-posts : (rel : Rel) (u : Sum) (m : Made) (l : Known (Unit {0})) → IsJoined m.unused u → posts_standing rel u m ≡ Ok l → Posts m l (λ a. stands rel (sum_value a u) ≡ true)
unfolding never AreFormed AllHold
standing-posts rel u m l s e = by u.terms refl e
  where
    p : (ℕ → ℤ) → Type 0
    p a = stands rel (sum_value a u) ≡ true

    at_once : (b : Bool) → u.terms ≡ [] → stands rel u.constant ≡ b → cond {A = Reading (Unit {0})} b (gives tt) posts_never m ≡ Ok l → Posts m l (λ a. stands rel (sum_value a u) ≡ true)
    at_once true f g e = subst (λ k. Posts m k (λ a. stands rel (sum_value a u) ≡ true)) (is_known (record { what = tt; made = m }) l e) (record {
      grows = grows_none (λ a. stands rel (sum_value a u) ≡ true) m;
      says = λ a h. ap (stands rel) (no_terms-value a u f) ∙ g;
    })
    at_once false f g e =
        let wrong : (a : ℕ → ℤ) → stands rel (sum_value a u) ≡ true → ⊥ = λ a h. (let contrary : true ≡ false = sym h ∙ (ap (stands rel) (no_terms-value a u f) ∙ g) in absurd cc) in
        subst (λ k. Posts m k (λ a. stands rel (sum_value a u) ≡ true))
        (is_known (record { what = tt; made = record { unused = suc m.unused; constraints = (m.constraints ++ linear Rel.AtMost (of_variable m.unused) ∷ []) ++ linear Rel.AtMost (difference (of_number (pos 1)) (of_variable m.unused)) ∷ [] } }) l e) (record {
          grows = grows_defined (λ a. stands rel (sum_value a u) ≡ true) m (never m.unused) (λ a. pos 0) (record {
            formed = never-formed m.unused;
            agrees = λ a b g. refl;
            possible = λ a b q g. absurd (wrong a q);
            holds = λ a q h e. absurd (wrong a q);
            only = λ a h z. absurd (never_holds m.unused a z);
          });
          says = λ a h. absurd (never_holds m.unused a (hold-added m.constraints (never m.unused) a h));
        })

    by : (ts : List (ℤ × ℕ)) → u.terms ≡ ts → posts_by_terms ts rel u m ≡ Ok l → Posts m l (λ a. stands rel (sum_value a u) ≡ true)
    by [] f e = at_once (stands rel u.constant) f refl e
    by (t ∷ ts) f e =
        let some : u.terms ≢ [] = λ g. (let contrary : t ∷ ts ≡ [] = sym f ∙ g in absurd cc) in
        subst (λ k. Posts m k (λ a. stands rel (sum_value a u) ≡ true)) (is_known (record { what = tt; made = record { unused = m.unused; constraints = m.constraints ++ linear rel u ∷ [] } }) l e) (record {
          grows = grows_posted (λ a. stands rel (sum_value a u) ≡ true) m (linear rel u ∷ []) ((some, s), tt) (λ a h. (stands_true rel (sum_value a u) h, tt));
          says = λ a h. true_stands rel (sum_value a u) (hold-added m.constraints (linear rel u ∷ []) a h).0;
        })

pub relations_agree : (n : ℕ) (c : Comparison) (x y : Operand) (a b : ℕ → ℤ) → OperandBelow n x → OperandBelow n y → AgreeBelow n a b →
    compares c (operand_value b x) (operand_value b y) ≡ compares c (operand_value a x) (operand_value a y)
relations_agree n c x y a b s t g = let p = operands_agree n x a b s g in let q = operands_agree n y a b t g in (λ i. compares c (p i) (q i))

-- a relation as a goal
pub relation-posts : (n : ℕ) (c : Comparison) (x y : Operand) (m : Made) (l : Known (Unit {0})) → OperandBelow n x → OperandBelow n y → n ≤ m.unused → posts_relation c x y m ≡ Ok l → Posts m l (λ a. compares c (operand_value a x) (operand_value a y) ≡ true)
relation-posts n c x y m l s t b e =
    let first = after_is (read_relation c x y m) (λ w. posts_standing w.rel w.sum) l e in
    let w : StandingRead m first.0 (λ a. compares c (operand_value a x) (operand_value a y)) = relation-read n c x y m first.0 s t b first.1 in
    let p : Posts first.0.made l (λ a. stands first.0.what.rel (sum_value a first.0.what.sum) ≡ true) = standing-posts first.0.what.rel first.0.what.sum first.0.made l w.joined first.2 in
    record {
      grows = grows_then (λ a. compares c (operand_value a x) (operand_value a y) ≡ true) (λ a. stands first.0.what.rel (sum_value a first.0.what.sum) ≡ true) m first.0.made l.made
          (grows_for Any (λ a. compares c (operand_value a x) (operand_value a y) ≡ true) m first.0.made (λ a q. tt) w.grows) p.grows
          (λ a d q g h. w.value d h ∙ (relations_agree n c x y a d s t (agree_less n m.unused a d b g) ∙ q));
      says = λ a h. sym (w.value a (p.grows.keeps a h)) ∙ p.says a h;
    }
