-- Where the arguments of calls stand.
use Rattle.std.proofs.Common.{◌≡◌, ℕ, zero, suc, Bool, true, false, if◌then◌else◌, List, ◌++◌, refl, ap, sym, ◌∙◌}
use Rattle.std.specs.Prelude.{◌==◌, ◌&&◌, ◌||◌, codes}
use Rattle.std.specs.Str.{bytes_eq}
use Rattle.std.proofs.lemmas.Bool.{or_parts, or_from}
use Rattle.pi_syntax.specs.ExpTree.{ExpTree, var, int, atom, str, list, list_onto, array, call, quote, index, range, range_by, at, collect, and, or, arrow, if_then, if_else, foreach, while_do, do_while, ExpTrees, no_exps, exp, ExpBranches, no_branches, branch}
use Rattle.pi_syntax.specs.Signature.{exp_count}
use Rattle.pi_meaning.specs.Shared.Names.{is_catch}
use Rattle.pi_meaning.specs.OverNames.Forms.{is_find_all, is_count_all}
use Rattle.pi_prog_clauses.specs.Operators.{is_goal_sign, is_membership, is_reified}
use Rattle.pi_prog_clauses.specs.Places.{Place, goal, asked, expression, operand, iterator, term, pattern, inside, quoted, body, placed, is_asked, called, argument, below, all_placed, arguments_placed, branches_placed}
use Rattle.pi_rewrite_sound.proofs.PlainNames.{has_places}

-- ---- a call with no such places

is-expression : (a m z r : Bool) → a ≡ false → m ≡ false → r ≡ false → (if a then asked else if m && z then pattern false else if r then operand else expression) ≡ expression
is-expression true m z r e f g = absurd cc
is-expression false true z r e f g = absurd cc
is-expression false false z true e f g = absurd cc
is-expression false false z false e f g = refl

with-place : (a b c : Bool) → (b && a) ≡ false → (a && (b && c)) ≡ false
with-place true true c h = absurd cc
with-place true false c h = refl
with-place false b c h = refl

turned : (a b : Bool) → (b && a) ≡ false → (a && b) ≡ false
turned true true h = absurd cc
turned true false h = refl
turned false b h = refl

pub plain-place : (name : List ℕ) (k i : ℕ) → has_places name k ≡ false → called name k i ≡ expression
plain-place name k i none =
    let signs = or_parts (is_goal_sign name k) _ none in
    let finds = or_parts (is_find_all name k) _ signs.1 in
    let counts = or_parts (is_count_all name k) _ finds.1 in
    let catches = or_parts (is_catch name k) _ counts.1 in
    let others = or_parts (is_membership name k) (is_reified name k) catches.1 in
    is-expression (is_asked name k i) (is_membership name k) (i == 0) (is_reified name k)
    (or_from (is_goal_sign name k) _ signs.0
    (or_from (bytes_eq name (codes "find_all") && (k == 2 && i == 1)) _ (with-place (bytes_eq name (codes "find_all")) (k == 2) (i == 1) finds.0)
    (or_from (bytes_eq name (codes "count_all") && k == 1) _ (turned (bytes_eq name (codes "count_all")) (k == 1) counts.0)
    (with-place (bytes_eq name (codes "catch")) (k == 3) (i == 0 || i == 2) catches.0)))) others.0 others.1

-- all its arguments stand as expressions
pub plain-arguments : (name : List ℕ) (k from : ℕ) (es : ExpTrees) → has_places name k ≡ false → arguments_placed expression name k from es ≡ all_placed expression es
unfolding arguments_placed
plain-arguments name k from no_exps none = refl
plain-arguments name k from (exp e es) none =
    ap (λ p. placed p e ++ arguments_placed expression name k (suc from) es) (plain-place name k from none)
    ∙ ap (λ ns. placed expression e ++ ns) (plain-arguments name k (suc from) es none)

-- ---- by what the call stands as

-- Below a node that stands so, all stands as below a test.
pub record GoesBelow (p : Place) : Type 0 where
  pub inside_is : inside p ≡ expression
  pub quoted_is : quoted p ≡ term
  pub body_is : body p ≡ goal false
  pub argument_is : (name : List ℕ) (k i : ℕ) → argument p name k i ≡ called name k i

pub arguments-below : (p : Place) → ((name : List ℕ) (k i : ℕ) → argument p name k i ≡ called name k i) → (name : List ℕ) (k from : ℕ) (es : ExpTrees) → arguments_placed p name k from es ≡ arguments_placed expression name k from es
unfolding arguments_placed
arguments-below p is name k from no_exps = refl
arguments-below p is name k from (exp e es) =
    ap (λ q. placed q e ++ arguments_placed p name k (suc from) es) (is name k from) ∙ ap (λ ns. placed (called name k from) e ++ ns) (arguments-below p is name k (suc from) es)

-- arguments stand in a goal as they do in an expression
pub goal-arguments : (assigns : Bool) (name : List ℕ) (k from : ℕ) (es : ExpTrees) → arguments_placed (goal assigns) name k from es ≡ arguments_placed expression name k from es
goal-arguments assigns name k from es = arguments-below (goal assigns) (λ n j i. refl) name k from es

branches-below : (p : Place) → body p ≡ goal false → (bs : ExpBranches) → branches_placed p bs ≡ branches_placed (goal false) bs
unfolding branches_placed
branches-below p is no_branches = refl
branches-below p is (branch c e bs) =
    ap (λ q. placed (goal false) c ++ (placed q e ++ branches_placed p bs)) is ∙ ap (λ ns. placed (goal false) c ++ (placed (goal false) e ++ ns)) (branches-below p is bs)

below-test : (p : Place) → GoesBelow p → (e : ExpTree) → below p e ≡ below (goal false) e
unfolding below
below-test p is (var name) = refl
below-test p is (int n) = refl
below-test p is (atom name) = refl
below-test p is (str text) = refl
below-test p is (list es) = ap (λ q. all_placed q es) is.inside_is
below-test p is (list_onto es e) = ap (λ q. all_placed q es ++ placed q e) is.inside_is
below-test p is (array es) = ap (λ q. all_placed q es) is.inside_is
below-test p is (call name es) = arguments-below p is.argument_is name (exp_count es) 0 es ∙ sym (goal-arguments false name (exp_count es) 0 es)
below-test p is (quote e) = ap (λ q. placed q e) is.quoted_is
below-test p is (index e es) = ap (λ q. placed q e ++ all_placed q es) is.inside_is
below-test p is (range first last) = ap (λ q. placed q first ++ placed q last) is.inside_is
below-test p is (range_by first step last) = ap (λ q. placed q first ++ (placed q step ++ placed q last)) is.inside_is
below-test p is (at name e) = ap (λ q. placed q e) is.inside_is
below-test p is (collect is_array e es) = ap (λ q. placed q e ++ all_placed iterator es) is.inside_is
below-test p is (and es) = ap (λ q. all_placed q es) is.body_is
below-test p is (or es) = ap (λ q. all_placed q es) is.body_is
below-test p is (arrow c e) = ap (λ q. placed (goal false) c ++ placed q e) is.body_is
below-test p is (if_then bs) = branches-below p is.body_is bs
below-test p is (if_else bs e) = ap (λ ns. ns ++ placed (body p) e) (branches-below p is.body_is bs) ∙ ap (λ q. branches_placed (goal false) bs ++ placed q e) is.body_is
below-test p is (foreach es e) = ap (λ q. all_placed iterator es ++ placed q e) is.body_is
below-test p is (while_do c e) = ap (λ q. placed (goal false) c ++ placed q e) is.body_is
below-test p is (do_while e c) = ap (λ q. placed q e ++ placed (goal false) c) is.body_is

-- so of a goal that is asked, and of an iterator or a test of a loop
pub below-asked : (e : ExpTree) → below asked e ≡ below (goal false) e
below-asked e = below-test asked (record { inside_is = refl; quoted_is = refl; body_is = refl; argument_is = λ name k i. refl }) e

pub below-iterator : (e : ExpTree) → below iterator e ≡ below (goal false) e
below-iterator e = below-test iterator (record { inside_is = refl; quoted_is = refl; body_is = refl; argument_is = λ name k i. refl }) e

-- so between the signs of constraints, as below an expression
pub below-operand : (e : ExpTree) → below operand e ≡ below expression e
below-operand e =
    below-test operand (record { inside_is = refl; quoted_is = refl; body_is = refl; argument_is = λ name k i. refl }) e
    ∙ sym (below-test expression (record { inside_is = refl; quoted_is = refl; body_is = refl; argument_is = λ name k i. refl }) e)

pub iterator-arguments : (name : List ℕ) (k from : ℕ) (es : ExpTrees) → arguments_placed iterator name k from es ≡ arguments_placed expression name k from es
iterator-arguments name k from es = arguments-below iterator (λ n j i. refl) name k from es

-- where the argument stands that is so far behind one
abbrev pub place_behind : List ℕ → ℕ → ℕ → ℕ → Place
place_behind name k from zero = called name k from
place_behind name k from (suc i) = place_behind name k (suc from) i
