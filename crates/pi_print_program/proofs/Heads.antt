-- Heads: their names, and equations of a head and a value.
use Rattle.std.proofs.Common.{◌≡◌, ℕ, ◌==◌, Bool, true, false, not, ◌&&◌, List, ◌++◌, Option, Some, None, refl, sym, ap, subst, ◌∙◌, codes, inl, inr}
use Rattle.std.proofs.lemmas.Bool.{cases_Bool, and_parts, eqb-true, false≢true, not-true, not-false}
use Rattle.std.proofs.lemmas.Slice.Eq.{bytes_eq-Decides}
use Rattle.std.specs.List.{list_any}
use Rattle.std.specs.Str.{bytes_eq}
use Rattle.pi_prog_clauses.specs.Items.{is_head, has_bad_head, breaks_pattern, head_of as clause_head}
use Rattle.pi_prog_clauses.specs.Operators.{is_operator, is_goal_sign, is_relation, is_reified, is_membership, is_arithmetic}
use Rattle.pi_prog_clauses.specs.Places.{head_placed}
use Rattle.pi_prog_clauses.specs.Shape.{Equation, equation}
use Rattle.pi_syntax.specs.ExpTree.{ExpTree, atom, call, ExpTrees, no_exps, exp, one_exp}
use Rattle.pi_syntax.specs.Grammar.{call_two}
use Rattle.pi_syntax.specs.ProgramTree.{WrittenClause}
use Rattle.pi_syntax.specs.Signature.{exp_count}
use Rattle.pi_syntax.specs.Tokens.{is_one_of}
use Rattle.pi_print_program.specs.Canonical.{head_text, begins_declaration}
use Rattle.pi_print_program.specs.CanonicalExp.{exp_text, is_conjunction}
use Rattle.pi_print_program.specs.Patterns.{Fine}
use Rattle.pi_print_program.specs.Signs.{is_two_place, is_prefix_word, is_prefix_sign, is_sign, two_place_signs, prefix_words, prefix_signs}
use Rattle.pi_print_program.proofs.Calls.{neither}
use Rattle.pi_print_program.proofs.FineNodes.{fine_patterns}
use Rattle.pi_print_program.proofs.Sides.{HasName, UnitText, head_unit, head_of, equation_unit}
use Rattle.pi_print_program.proofs.SignForms.{each_name}
use Rattle.pi_print_program.proofs.Tree.{Tree, Trees, none, some, last_item, more_items, two, a_call}
use Rattle.pi_print_program.proofs.WrittenTrees.{writes}

-- ---- each sign is an operator

operator_two : (name : List ℕ) → is_one_of two_place_signs name ≡ true → is_operator name 2 ≡ true
unfolding is_operator is_goal_sign is_relation is_reified is_membership is_arithmetic
operator_two name is = each_name (λ n. is_operator n 2 ≡ true) two_place_signs name (refl, (refl, (refl, (refl, (refl, (refl, (refl, (refl, (refl, (refl, (refl, (refl, (refl, (refl, (refl, (refl, (refl, (refl, (refl, (refl, (refl, (refl, (refl, (refl, (refl, (refl, (refl, (refl, (refl, (refl, (refl, (refl, (refl, (refl, (refl, (refl, (refl, (refl, (refl, (refl, (refl, (refl, (refl, (refl, tt)))))))))))))))))))))))))))))))))))))))))))) is

operator_word : (name : List ℕ) → is_one_of prefix_words name ≡ true → is_operator name 1 ≡ true
unfolding is_operator is_goal_sign is_relation is_reified is_membership is_arithmetic
operator_word name is = each_name (λ n. is_operator n 1 ≡ true) prefix_words name (refl, (refl, tt)) is

operator_sign : (name : List ℕ) → is_one_of prefix_signs name ≡ true → is_operator name 1 ≡ true
unfolding is_operator is_goal_sign is_relation is_reified is_membership is_arithmetic
operator_sign name is = each_name (λ n. is_operator n 1 ≡ true) prefix_signs name (refl, (refl, (refl, (refl, tt)))) is

-- where so many operands make a sign an operator, what is none is not among the signs
absent : (name : List ℕ) (arity k : ℕ) (among : Bool) → (among ≡ true → is_operator name k ≡ true) → is_operator name arity ≡ false → (arity == k && among) ≡ false
absent name arity k among operator plain =
    elim (cases_Bool (arity == k && among)) [
      | inl both ↦
          let (same, is) = and_parts (arity == k) among both in
          absurd (false≢true (sym plain ∙ subst (λ (n : ℕ). is_operator name n ≡ true) (sym (eqb-true arity k same)) (operator is)))
      | inr other ↦ other
    ]

no_two : (name : List ℕ) (arity : ℕ) → is_operator name arity ≡ false → is_two_place name arity ≡ false
unfolding is_two_place
no_two name arity plain = absent name arity 2 (is_one_of two_place_signs name) (operator_two name) plain

no_word : (name : List ℕ) (arity : ℕ) → is_operator name arity ≡ false → is_prefix_word name arity ≡ false
unfolding is_prefix_word
no_word name arity plain = absent name arity 1 (is_one_of prefix_words name) (operator_word name) plain

no_prefix : (name : List ℕ) (arity : ℕ) → is_operator name arity ≡ false → is_prefix_sign name arity ≡ false
unfolding is_prefix_sign
no_prefix name arity plain = absent name arity 1 (is_one_of prefix_signs name) (operator_sign name) plain

no_sign : (name : List ℕ) (arity : ℕ) → is_operator name arity ≡ false → is_sign name arity ≡ false
no_sign name arity plain = rw (no_two name arity plain, no_word name arity plain, no_prefix name arity plain) refl

-- ---- heads

call_name : (name : List ℕ) (es : ExpTrees) → is_sign name (exp_count es) ≡ false → HasName (call name es)
unfolding begins_declaration
call_name name es free = record { name = name; is = rw free refl; begins = refl }

head_name : (e : ExpTree) → is_head e ≡ true → HasName e
unfolding begins_declaration
head_name (atom name) is = record { name = name; is = refl; begins = refl }
head_name (call name es) is = call_name name es (no_sign name (exp_count es) (not-true (is_operator name (exp_count es)) is))
head_name e is = absurd (false≢true is)

pub head_no_conjunction : (e : ExpTree) → is_head e ≡ true → is_conjunction e ≡ false
head_no_conjunction (atom name) is = refl
head_no_conjunction (call name es) is = refl
head_no_conjunction e is = absurd (false≢true is)

head_fine : (e : ExpTree) → is_head e ≡ true → list_any breaks_pattern (head_placed e) ≡ false → Fine e
unfolding Fine
head_fine (atom name) is clear = tt
head_fine (call name es) is clear = fine_patterns false es clear
head_fine e is clear = absurd (false≢true is)

-- a head in which each argument is a pattern
pub record GoodHead (e : ExpTree) : Type 0 where
  pub is : is_head e ≡ true
  pub fine : Fine e

pub good_head : (c : WrittenClause) → has_bad_head c ≡ false → GoodHead (clause_head c)
unfolding has_bad_head
good_head c good =
    let (is, patterns) = neither (not (is_head (clause_head c))) (list_any breaks_pattern (head_placed (clause_head c))) good in
    let head = not-false (is_head (clause_head c)) is in
    record { is = head; fine = head_fine (clause_head c) head patterns }

-- ---- equations

equation_by : (name : List ℕ) (head value : ExpTree) (b : Bool) (q : Equation) → bytes_eq name (codes "=") ≡ b
    → equation (call name (exp head (one_exp value))) ≡ Some q → call name (exp head (one_exp value)) ≡ call_two (codes "=") q.head q.value
equation_by name head value true q named is =
    let same : name ≡ codes "=" = (bytes_eq-Decides name (codes "=")).0 named in
    let found : ◌≡◌ {A = Option Equation} (Some (record { head = head; value = value })) (Some q) = rw named at is in
    let e : record { head = head; value = value } ≡ q = cc in
    ap (λ n. call n (exp head (one_exp value))) same ∙ ap (λ (p : Equation). call_two (codes "=") p.head p.value) e
equation_by name head value false q named is =
    let found : ◌≡◌ {A = Option Equation} None (Some q) = rw named at is in
    absurd (none_some found)
  where
    none_some : ◌≡◌ {A = Option Equation} None (Some q) → ⊥
    none_some e = cc

no_equation : {P : Type 0} (q : Equation) → ◌≡◌ {A = Option Equation} None (Some q) → P
no_equation q e = absurd (cc)

call_equation : (name : List ℕ) (es : ExpTrees) (q : Equation) → equation (call name es) ≡ Some q → call name es ≡ call_two (codes "=") q.head q.value
call_equation name no_exps q is = no_equation q is
call_equation name (exp head no_exps) q is = no_equation q is
call_equation name (exp head (exp value no_exps)) q is = equation_by name head value (bytes_eq name (codes "=")) q refl is
call_equation name (exp head (exp value (exp e es))) q is = no_equation q is

-- an equation is the sign `=` between its head and its value
pub equation_is : (e : ExpTree) (q : Equation) → equation e ≡ Some q → e ≡ call_two (codes "=") q.head q.value
equation_is (call name es) q is = call_equation name es q is
equation_is e q is = no_equation q is

-- both operands of a tree
abbrev TwoOf : ExpTrees → Type 0
TwoOf (exp a (exp b no_exps)) = Tree a × Tree b
TwoOf es = Unit {0}

abbrev OperandsOf : ExpTree → Type 0
OperandsOf (call name es) = TwoOf es
OperandsOf e = Unit {0}

two_of : {es : ExpTrees} → Trees es → TwoOf es
two_of none = tt
two_of (some (last_item u)) = tt
two_of (some (more_items u (last_item v))) = (u, v)
two_of (some (more_items u (more_items v (last_item w)))) = tt
two_of (some (more_items u (more_items v (more_items w ws)))) = tt

operands_of : {e : ExpTree} → Tree e → OperandsOf e
operands_of (two is u v) = (u, v)
operands_of (a_call is free us) = two_of us
operands_of u = tt

pub operands : {name : List ℕ} {a b : ExpTree} → Tree (call_two name a b) → Tree a × Tree b
operands u = operands_of u

-- ---- a first unit

-- the head of a unit, alone or with a value
abbrev pub head_by : Option Equation → ExpTree → ExpTree
head_by None e = e
head_by (Some q) e = q.head

abbrev pub first_text : Option Equation → ExpTree → List ℕ
first_text None e = head_text e
first_text (Some q) e = head_text q.head ++ (codes " = " ++ exp_text q.value)

pub first_unit_text : (e : ExpTree) (q : Option Equation) → equation e ≡ q → is_head (head_by q e) ≡ true → Tree e → UnitText (first_text q e) e
first_unit_text e None is head u = head_unit (head_of (head_name e head) (writes u))
first_unit_text e (Some q) is head u =
    let same = equation_is e q is in
    let both = operands (subst Tree same u) in
    subst (λ x. UnitText (first_text (Some q) e) x) (sym same) (equation_unit (head_of (head_name q.head head) (writes both.0)) (writes both.1))

pub first_no_conjunction : (e : ExpTree) (q : Option Equation) → equation e ≡ q → is_head (head_by q e) ≡ true → is_conjunction e ≡ false
first_no_conjunction e None is head = head_no_conjunction e head
first_no_conjunction e (Some q) is head = subst (λ x. is_conjunction x ≡ false) (sym (equation_is e q is)) refl
