-- Which goal of constraints a name is: each name that is listed, and that there are no others.
use Rattle.std.specs.Prelude.{◌≡◌, ⊤, ℕ, zero, suc, Bool, true, false, ◌&&◌, ◌||◌, cond, List, [], ◌∷◌, Option, Some, None, codes, refl}
use Rattle.std.specs.Option.{option_or}
use Rattle.std.specs.Str.{bytes_eq}
use Rattle.std.proofs.Common.{arith, sym, ◌∙◌, ap, subst}
use Rattle.std.proofs.lemmas.Slice.Eq.{bytes_eq-Decides}
use Rattle.pi_terms.specs.Tree.{Tree, Trees, comp, no_trees, tree, tree_count}
use Rattle.pi_constraints.specs.State.{State, bindings, next}
use Rattle.pi_constraints.specs.Value.{value}
use Rattle.pi_effects.specs.Rows.{Row, fits, done_by, has_line}
use Rattle.pi_prop_read.specs.declared.relations.Comparison.{Comparison}
use Rattle.pi_prop_read.specs.declared.truths.nodes.Connective.{Connective}
use Rattle.pi_prop_spec.specs.Postings.{posting_of}
use Rattle.pi_prop_spec.specs.Terms.{goal_of, boolean_of, comparison_named}
use Rattle.pi_settling.specs.DomainValues.{domain_functions, is_domain_function}
use Rattle.pi_settling.specs.Goals.{constraint_goals, constraint_effect, is_constraint_goal}
use Rattle.pi_settling.specs.Posted.{effect_of_posting}
use Rattle.pi_lib_constraints.specs.Names.{goal_name, goal_arity, two_name}
use Rattle.pi_lib_constraints.specs.Named.{IsConstraintNamed, one_named, two_named, ranged, compared, connected, function_named}
use Rattle.pi_lib_constraints.specs.Functions.{function_name}
use Rattle.pi_lib_constraints.specs.declared.functions.DomainFunction.{DomainFunction}
use Rattle.pi_lib_constraints.specs.declared.kinds.GoalOfOne.{GoalOfOne}
use Rattle.pi_lib_constraints.specs.declared.kinds.GoalOfTwo.{GoalOfTwo}
use Rattle.pi_lib_constraints.specs.declared.kinds.ConstraintGoal.{ConstraintGoal}
use Rattle.pi_lib_constraints.proofs.GoalLemmas.{two-value}

-- ---- each name

-- a name that does what its goal does
itself : (name : List ℕ) (count : ℕ) (g : ConstraintGoal) → is_constraint_goal name count ≡ true → goal_arity g ≡ count → name ≡ goal_name g → IsConstraintNamed name count g
itself name count g known takes same = record { known = known; takes = takes; same = λ ts s many. ap (λ (f : List ℕ). constraint_effect f ts s) same }

negation : IsConstraintNamed (codes "#~") 1 (ConstraintGoal.OfOne GoalOfOne.Negation)
unfolding has_line constraint_goals
negation = itself (codes "#~") 1 (ConstraintGoal.OfOne GoalOfOne.Negation) refl refl refl

different : IsConstraintNamed (codes "all_different") 1 (ConstraintGoal.OfOne GoalOfOne.Different)
unfolding has_line constraint_goals
different = itself (codes "all_different") 1 (ConstraintGoal.OfOne GoalOfOne.Different) refl refl refl

distinct : IsConstraintNamed (codes "all_distinct") 1 (ConstraintGoal.OfOne GoalOfOne.Distinct)
unfolding has_line constraint_goals
distinct = itself (codes "all_distinct") 1 (ConstraintGoal.OfOne GoalOfOne.Distinct) refl refl refl

pub element : IsConstraintNamed (codes "element") 3 ConstraintGoal.Element
unfolding has_line constraint_goals
element = itself (codes "element") 3 ConstraintGoal.Element refl refl refl

by-two : (g : GoalOfTwo) → IsConstraintNamed (two_name g) 2 (ConstraintGoal.OfTwo g)
unfolding has_line constraint_goals
by-two GoalOfTwo.Within = itself (codes "::") 2 (ConstraintGoal.OfTwo GoalOfTwo.Within) refl refl refl
by-two GoalOfTwo.NotIn = itself (codes "notin") 2 (ConstraintGoal.OfTwo GoalOfTwo.NotIn) refl refl refl
by-two (GoalOfTwo.Relation Comparison.Equal) = itself (codes "#=") 2 (ConstraintGoal.OfTwo (GoalOfTwo.Relation Comparison.Equal)) refl refl refl
by-two (GoalOfTwo.Relation Comparison.Unequal) = itself (codes "#!=") 2 (ConstraintGoal.OfTwo (GoalOfTwo.Relation Comparison.Unequal)) refl refl refl
by-two (GoalOfTwo.Relation Comparison.Less) = itself (codes "#<") 2 (ConstraintGoal.OfTwo (GoalOfTwo.Relation Comparison.Less)) refl refl refl
by-two (GoalOfTwo.Relation Comparison.AtMost) = itself (codes "#=<") 2 (ConstraintGoal.OfTwo (GoalOfTwo.Relation Comparison.AtMost)) refl refl refl
by-two (GoalOfTwo.Relation Comparison.Greater) = itself (codes "#>") 2 (ConstraintGoal.OfTwo (GoalOfTwo.Relation Comparison.Greater)) refl refl refl
by-two (GoalOfTwo.Relation Comparison.AtLeast) = itself (codes "#>=") 2 (ConstraintGoal.OfTwo (GoalOfTwo.Relation Comparison.AtLeast)) refl refl refl
by-two (GoalOfTwo.Joined Connective.And) = itself (codes "#/\\") 2 (ConstraintGoal.OfTwo (GoalOfTwo.Joined Connective.And)) refl refl refl
by-two (GoalOfTwo.Joined Connective.Or) = itself (codes "#\\/") 2 (ConstraintGoal.OfTwo (GoalOfTwo.Joined Connective.Or)) refl refl refl
by-two (GoalOfTwo.Joined Connective.Either) = itself (codes "#^") 2 (ConstraintGoal.OfTwo (GoalOfTwo.Joined Connective.Either)) refl refl refl
by-two (GoalOfTwo.Joined Connective.Implies) = itself (codes "#=>") 2 (ConstraintGoal.OfTwo (GoalOfTwo.Joined Connective.Implies)) refl refl refl
by-two (GoalOfTwo.Joined Connective.Equivalent) = itself (codes "#<=>") 2 (ConstraintGoal.OfTwo (GoalOfTwo.Joined Connective.Equivalent)) refl refl refl

-- `#<=` is another name of `#=<`
same-goal : (t u : Tree) → goal_of (comp (codes "#<=") (tree t (tree u no_trees))) ≡ goal_of (comp (codes "#=<") (tree t (tree u no_trees)))
unfolding goal_of boolean_of comparison_named
same-goal t u = refl

same-effect : (ts : Trees) (s : State) → tree_count ts ≡ 2 → constraint_effect (codes "#<=") ts s ≡ constraint_effect (codes "#=<") ts s
unfolding done_by constraint_goals tree_count
same-effect no_trees s e = absurd (omega (arith, e))
same-effect (tree t no_trees) s e = absurd (omega (arith, e))
same-effect (tree t (tree u no_trees)) s e =
    ap (λ g. Some (effect_of_posting s (posting_of (next s) g)))
    (ap goal_of (two-value (bindings s) (codes "#<=") t u) ∙ (same-goal (value (bindings s) t) (value (bindings s) u) ∙ sym (ap goal_of (two-value (bindings s) (codes "#=<") t u))))
same-effect (tree t (tree u (tree w ts))) s e = absurd (omega (arith, e))

at-most : IsConstraintNamed (codes "#<=") 2 (ConstraintGoal.OfTwo (GoalOfTwo.Relation Comparison.AtMost))
unfolding has_line constraint_goals
at-most = record { known = refl; takes = refl; same = same-effect }

-- ---- a name that is looked up

bytes-same : (a b : List ℕ) → bytes_eq a b ≡ true → a ≡ b
bytes-same a b e = (bytes_eq-Decides a b).0 e

pick : {G : Type 0} (P : List ℕ → G → Type 0) (name known : List ℕ) (h g : G) (b : Bool) (rest : Option G) → bytes_eq name known ≡ b → P known h → (rest ≡ Some g → P name g) → cond b (Some h) rest ≡ Some g → P name g
pick P name known h g true rest e here other at = let same : h ≡ g = cc in subst (P name) same (subst (λ (f : List ℕ). P f h) (sym (bytes-same name known e)) here)
pick P name known h g false rest e here other at = other at

never : {G : Type 0} (g : G) (P : Type 0) → None ≡ Some g → P
never g P e = absurd cc

pub one-found : (name : List ℕ) (g : GoalOfOne) → one_named name ≡ Some g → IsConstraintNamed name 1 (ConstraintGoal.OfOne g)
one-found name g e =
    let P : List ℕ → GoalOfOne → Type 0 = λ f h. IsConstraintNamed f 1 (ConstraintGoal.OfOne h) in
    pick P name (codes "#~") GoalOfOne.Negation g (bytes_eq name (codes "#~")) _ refl negation
    (pick P name (codes "all_different") GoalOfOne.Different g (bytes_eq name (codes "all_different")) _ refl different
    (pick P name (codes "all_distinct") GoalOfOne.Distinct g (bytes_eq name (codes "all_distinct")) None refl distinct (never g (P name g)))) e

abbrev IsTwo : List ℕ → GoalOfTwo → Type 0
IsTwo f h = IsConstraintNamed f 2 (ConstraintGoal.OfTwo h)

ranged-found : (name : List ℕ) (g : GoalOfTwo) → ranged name ≡ Some g → IsTwo name g
ranged-found name g e =
    pick IsTwo name (codes "::") GoalOfTwo.Within g (bytes_eq name (codes "::")) _ refl (by-two GoalOfTwo.Within)
    (pick IsTwo name (codes "notin") GoalOfTwo.NotIn g (bytes_eq name (codes "notin")) None refl (by-two GoalOfTwo.NotIn) (never g (IsTwo name g))) e

compared-found : (name : List ℕ) (g : GoalOfTwo) → compared name ≡ Some g → IsTwo name g
compared-found name g e =
    let C : Comparison → GoalOfTwo = GoalOfTwo.Relation in
    pick IsTwo name (codes "#=") (C Comparison.Equal) g (bytes_eq name (codes "#=")) _ refl (by-two (C Comparison.Equal))
    (pick IsTwo name (codes "#!=") (C Comparison.Unequal) g (bytes_eq name (codes "#!=")) _ refl (by-two (C Comparison.Unequal))
    (pick IsTwo name (codes "#<") (C Comparison.Less) g (bytes_eq name (codes "#<")) _ refl (by-two (C Comparison.Less))
    (pick IsTwo name (codes "#=<") (C Comparison.AtMost) g (bytes_eq name (codes "#=<")) _ refl (by-two (C Comparison.AtMost))
    (pick IsTwo name (codes "#<=") (C Comparison.AtMost) g (bytes_eq name (codes "#<=")) _ refl at-most
    (pick IsTwo name (codes "#>") (C Comparison.Greater) g (bytes_eq name (codes "#>")) _ refl (by-two (C Comparison.Greater))
    (pick IsTwo name (codes "#>=") (C Comparison.AtLeast) g (bytes_eq name (codes "#>=")) None refl (by-two (C Comparison.AtLeast)) (never g (IsTwo name g)))))))) e

connected-found : (name : List ℕ) (g : GoalOfTwo) → connected name ≡ Some g → IsTwo name g
connected-found name g e =
    let J : Connective → GoalOfTwo = GoalOfTwo.Joined in
    pick IsTwo name (codes "#/\\") (J Connective.And) g (bytes_eq name (codes "#/\\")) _ refl (by-two (J Connective.And))
    (pick IsTwo name (codes "#\\/") (J Connective.Or) g (bytes_eq name (codes "#\\/")) _ refl (by-two (J Connective.Or))
    (pick IsTwo name (codes "#^") (J Connective.Either) g (bytes_eq name (codes "#^")) _ refl (by-two (J Connective.Either))
    (pick IsTwo name (codes "#=>") (J Connective.Implies) g (bytes_eq name (codes "#=>")) _ refl (by-two (J Connective.Implies))
    (pick IsTwo name (codes "#<=>") (J Connective.Equivalent) g (bytes_eq name (codes "#<=>")) None refl (by-two (J Connective.Equivalent)) (never g (IsTwo name g)))))) e

either-found : (o p : Option GoalOfTwo) (g : GoalOfTwo) (P : Type 0) → (o ≡ Some g → P) → (p ≡ Some g → P) → option_or o p ≡ Some g → P
either-found None p g P first second e = second e
either-found (Some h) p g P first second e = first e

pub two-found : (name : List ℕ) (g : GoalOfTwo) → two_named name ≡ Some g → IsConstraintNamed name 2 (ConstraintGoal.OfTwo g)
two-found name g e =
    either-found (ranged name) (option_or (compared name) (connected name)) g (IsTwo name g) (ranged-found name g)
    (either-found (compared name) (connected name) g (IsTwo name g) (compared-found name g) (connected-found name g)) e

pub element-found : (name : List ℕ) → bytes_eq name (codes "element") ≡ true → IsConstraintNamed name 3 ConstraintGoal.Element
element-found name e = subst (λ (f : List ℕ). IsConstraintNamed f 3 ConstraintGoal.Element) (sym (bytes-same name (codes "element") e)) element

-- ---- there are no others

-- each line is another one, or of another number of arguments
unfoldable AllOut : {R : Type 0} → List (Row R) → List ℕ → ℕ → Type 0
AllOut [] name k = ⊤
AllOut (r ∷ rows) name k = (fits r.body k ≡ true → bytes_eq name r.name ≡ false) × AllOut rows name k

other-way : (a b : List ℕ) → bytes_eq a b ≡ false → bytes_eq b a ≡ false
other-way a b e = by (bytes_eq b a) refl
  where
    by : (q : Bool) → bytes_eq b a ≡ q → q ≡ false
    by true f = absurd (let same : b ≡ a = (bytes_eq-Decides b a).0 f in let own : bytes_eq a b ≡ true = (bytes_eq-Decides a b).1 (sym same) in let both : true ≡ false = sym own ∙ e in cc)
    by false f = refl

row-out : (b c : Bool) → (c ≡ true → b ≡ false) → (b && c) ≡ false
row-out true true h = h refl
row-out true false h = refl
row-out false c h = refl

none-line : {R : Type 0} (rows : List (Row R)) (name : List ℕ) (k : ℕ) → AllOut rows name k → has_line rows name k ≡ false
unfolding AllOut has_line
none-line [] name k h = refl
none-line (r ∷ rows) name k h =
    (λ i. row-out (bytes_eq r.name name) (fits r.body k) (λ e. other-way name r.name (h.0 e)) i || none-line rows name k h.1 i)

miss : {G : Type 0} (b : Bool) (h : G) (rest : Option G) → cond b (Some h) rest ≡ None → (b ≡ false) × (rest ≡ None)
miss true h rest e = absurd cc
miss false h rest e = (refl, e)

neither : (o p : Option GoalOfTwo) → option_or o p ≡ None → (o ≡ None) × (p ≡ None)
neither None p e = (refl, e)
neither (Some h) p e = absurd cc

no-fit : (P : Type 0) → false ≡ true → P
no-fit P e = absurd cc

pub one-none : (name : List ℕ) → one_named name ≡ None → is_constraint_goal name 1 ≡ false
unfolding AllOut constraint_goals
one-none name e =
    let a = miss (bytes_eq name (codes "#~")) GoalOfOne.Negation _ e in
    let b = miss (bytes_eq name (codes "all_different")) GoalOfOne.Different _ a.1 in
    let d = miss (bytes_eq name (codes "all_distinct")) GoalOfOne.Distinct _ b.1 in
    none-line constraint_goals name 1
    (no-fit _, (no-fit _, (no-fit _, (no-fit _, (no-fit _, (no-fit _, (no-fit _, (no-fit _, (no-fit _, (λ f. a.0, (no-fit _, (no-fit _, (no-fit _, (no-fit _, (no-fit _, (λ f. b.0, (λ f. d.0, (no-fit _, tt))))))))))))))))))

pub two-none : (name : List ℕ) → two_named name ≡ None → is_constraint_goal name 2 ≡ false
unfolding AllOut constraint_goals
two-none name e =
    let C : Comparison → GoalOfTwo = GoalOfTwo.Relation in
    let J : Connective → GoalOfTwo = GoalOfTwo.Joined in
    let first = neither (ranged name) (option_or (compared name) (connected name)) e in
    let second = neither (compared name) (connected name) first.1 in
    let w = miss (bytes_eq name (codes "::")) GoalOfTwo.Within _ first.0 in
    let n = miss (bytes_eq name (codes "notin")) GoalOfTwo.NotIn _ w.1 in
    let c1 = miss (bytes_eq name (codes "#=")) (C Comparison.Equal) _ second.0 in
    let c2 = miss (bytes_eq name (codes "#!=")) (C Comparison.Unequal) _ c1.1 in
    let c3 = miss (bytes_eq name (codes "#<")) (C Comparison.Less) _ c2.1 in
    let c4 = miss (bytes_eq name (codes "#=<")) (C Comparison.AtMost) _ c3.1 in
    let c5 = miss (bytes_eq name (codes "#<=")) (C Comparison.AtMost) _ c4.1 in
    let c6 = miss (bytes_eq name (codes "#>")) (C Comparison.Greater) _ c5.1 in
    let c7 = miss (bytes_eq name (codes "#>=")) (C Comparison.AtLeast) _ c6.1 in
    let j1 = miss (bytes_eq name (codes "#/\\")) (J Connective.And) _ second.1 in
    let j2 = miss (bytes_eq name (codes "#\\/")) (J Connective.Or) _ j1.1 in
    let j3 = miss (bytes_eq name (codes "#^")) (J Connective.Either) _ j2.1 in
    let j4 = miss (bytes_eq name (codes "#=>")) (J Connective.Implies) _ j3.1 in
    let j5 = miss (bytes_eq name (codes "#<=>")) (J Connective.Equivalent) _ j4.1 in
    none-line constraint_goals name 2
    (λ f. w.0, (λ f. n.0, (λ f. c1.0, (λ f. c2.0, (λ f. c3.0, (λ f. c4.0, (λ f. c5.0, (λ f. c6.0, (λ f. c7.0, (no-fit _, (λ f. j1.0, (λ f. j2.0, (λ f. j3.0, (λ f. j4.0, (λ f. j5.0, (no-fit _, (no-fit _, (no-fit _, tt))))))))))))))))))

pub three-none : (name : List ℕ) → bytes_eq name (codes "element") ≡ false → is_constraint_goal name 3 ≡ false
unfolding AllOut constraint_goals
three-none name e =
    none-line constraint_goals name 3
    (no-fit _, (no-fit _, (no-fit _, (no-fit _, (no-fit _, (no-fit _, (no-fit _, (no-fit _, (no-fit _, (no-fit _, (no-fit _, (no-fit _, (no-fit _, (no-fit _, (no-fit _, (no-fit _, (no-fit _, (λ f. e, tt))))))))))))))))))

none-with : (name : List ℕ) (k : ℕ) → (k ≡ 1 → ⊥) → (k ≡ 2 → ⊥) → (k ≡ 3 → ⊥) → is_constraint_goal name k ≡ false
unfolding AllOut constraint_goals
none-with name zero a b d =
    none-line constraint_goals name 0
    (no-fit _, (no-fit _, (no-fit _, (no-fit _, (no-fit _, (no-fit _, (no-fit _, (no-fit _, (no-fit _, (no-fit _, (no-fit _, (no-fit _, (no-fit _, (no-fit _, (no-fit _, (no-fit _, (no-fit _, (no-fit _, tt))))))))))))))))))
none-with name (suc zero) a b d = absurd (a refl)
none-with name (suc (suc zero)) a b d = absurd (b refl)
none-with name (suc (suc (suc zero))) a b d = absurd (d refl)
none-with name (suc (suc (suc (suc k)))) a b d =
    none-line constraint_goals name (suc (suc (suc (suc k))))
    (no-fit _, (no-fit _, (no-fit _, (no-fit _, (no-fit _, (no-fit _, (no-fit _, (no-fit _, (no-fit _, (no-fit _, (no-fit _, (no-fit _, (no-fit _, (no-fit _, (no-fit _, (no-fit _, (no-fit _, (no-fit _, tt))))))))))))))))))

pub other-none : (name : List ℕ) (k : ℕ) → (k ≡ 1 → ⊥) → (k ≡ 2 → ⊥) → (k ≡ 3 → ⊥) → is_constraint_goal name k ≡ false
other-none name k a b d = none-with name k a b d

-- ---- functions of domains

pub function-found : (name : List ℕ) (f : DomainFunction) → function_named name ≡ Some f → name ≡ function_name f
function-found name f e =
    let P : List ℕ → DomainFunction → Type 0 = λ g h. g ≡ function_name h in
    pick P name (codes "fd_min") DomainFunction.Least f (bytes_eq name (codes "fd_min")) _ refl refl
    (pick P name (codes "fd_max") DomainFunction.Greatest f (bytes_eq name (codes "fd_max")) _ refl refl
    (pick P name (codes "fd_size") DomainFunction.Size f (bytes_eq name (codes "fd_size")) _ refl refl
    (pick P name (codes "fd_dom") DomainFunction.Values f (bytes_eq name (codes "fd_dom")) None refl refl (never f (P name f))))) e

pub function-none : (name : List ℕ) → function_named name ≡ None → is_domain_function name 1 ≡ false
unfolding AllOut domain_functions
function-none name e =
    let a = miss (bytes_eq name (codes "fd_min")) DomainFunction.Least _ e in
    let b = miss (bytes_eq name (codes "fd_max")) DomainFunction.Greatest _ a.1 in
    let c = miss (bytes_eq name (codes "fd_size")) DomainFunction.Size _ b.1 in
    let d = miss (bytes_eq name (codes "fd_dom")) DomainFunction.Values _ c.1 in
    none-line domain_functions name 1 (λ f. a.0, (λ f. b.0, (λ f. c.0, (λ f. d.0, tt))))

functions-none : (name : List ℕ) (k : ℕ) → (k ≡ 1 → ⊥) → is_domain_function name k ≡ false
unfolding AllOut domain_functions
functions-none name zero a = none-line domain_functions name 0 (no-fit _, (no-fit _, (no-fit _, (no-fit _, tt))))
functions-none name (suc zero) a = absurd (a refl)
functions-none name (suc (suc k)) a = none-line domain_functions name (suc (suc k)) (no-fit _, (no-fit _, (no-fit _, (no-fit _, tt))))

pub no-function : (name : List ℕ) (k : ℕ) → (k ≡ 1 → ⊥) → is_domain_function name k ≡ false
no-function name k a = functions-none name k a
