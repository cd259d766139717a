-- The prelude's clauses are of the forms with loops, in front of any program.
use Rattle.std.proofs.Common.{◌≡◌, ℕ, Bool, true, false, List, [], ◌++◌, refl, sym, subst}
use Rattle.std.proofs.lemmas.Bool.{false≢true}
use Rattle.std.specs.Prelude.{Some, None, pos, codes, ◌||◌, IsTrue}
use Rattle.std.specs.List.{AllByRecursion}
use Rattle.pi_syntax.specs.ExpTree.{ExpTree, var, int, list, call, ExpTrees, no_exps, exp}
use Rattle.pi_syntax.specs.ProgramTree.{ProgramTree}
use Rattle.pi_syntax.specs.Signature.{signature, exp_count}
use Rattle.pi_effects.specs.Rows.{has_line}
use Rattle.pi_effects.specs.Integers.{integer_functions}
use Rattle.pi_effects.specs.Comparing.{comparing_tests}
use Rattle.pi_effects.specs.Kinds.{kind_tests}
use Rattle.pi_effects.specs.Collections.{collection_functions}
use Rattle.pi_effects.specs.Sorting.{sorting_functions}
use Rattle.pi_effects.specs.Indexing.{index_functions}
use Rattle.pi_effects.specs.Ranges.{range_functions}
use Rattle.pi_effects.specs.Naming.{naming_functions}
use Rattle.pi_effects.specs.Texts.{text_functions, writing_predicates}
use Rattle.pi_effects.specs.Making.{making_functions}
use Rattle.pi_effects.specs.BuiltIns.{reading_functions, tests, other_predicates, is_predicate, is_function}
use Rattle.pi_meaning.specs.Shared.Names.{later_predicates, is_later_predicate, is_later_function, is_given_predicate, is_given_function}
use Rattle.pi_meaning.specs.OverNames.Forms.{form_of, readings}
use Rattle.pi_meaning.specs.OverNames.Prelude.{cell, prelude}
use Rattle.pi_rewrite_spec.specs.Forms.{IsRead, AreRead, Knows, IsPredicateCall, IsPattern, IsAssigned, IsExpression, AreExpressions, IsExpressionAt, IsGoalAt, IsGoal}
use Rattle.pi_rewrite_laws.specs.Within.{IsFree, IsPart}
use Rattle.pi_rewrite_laws.specs.Laws.{known_of}

-- names that mean nothing else
free-of : (name : List ℕ) (k : ℕ) → is_given_predicate name k || is_given_function name k ≡ false → (head : ExpTree) → signature head ≡ Some (record { name = name; arity = k }) → IsFree head
free-of name k free head is = record { named = record { name = name; arity = k }; is_named = is; free = free }

names-free : (is_given_predicate (codes "member") 2 || is_given_function (codes "member") 2 ≡ false)
    × (is_given_predicate (codes "append") 3 || is_given_function (codes "append") 3 ≡ false)
    × (is_given_predicate (codes "select") 3 || is_given_function (codes "select") 3 ≡ false)
    × (is_given_predicate (codes "between") 3 || is_given_function (codes "between") 3 ≡ false)
unfolding is_predicate is_function has_line tests comparing_tests kind_tests writing_predicates other_predicates later_predicates is_later_predicate is_later_function reading_functions making_functions
    integer_functions collection_functions sorting_functions index_functions range_functions naming_functions text_functions
names-free = (refl, refl, refl, refl)

-- names that are there
names-there : (is_given_predicate (codes "=") 2 ≡ true) × (is_given_predicate (codes "var") 1 ≡ true) × (is_given_predicate (codes "=<") 2 ≡ true) × (is_given_predicate (codes "<") 2 ≡ true) × (is_given_function (codes "+") 2 ≡ true)
unfolding is_predicate is_function has_line tests comparing_tests kind_tests writing_predicates other_predicates later_predicates is_later_predicate is_later_function reading_functions making_functions
    integer_functions collection_functions sorting_functions index_functions range_functions naming_functions text_functions
names-there = (refl, refl, refl, refl, refl)

own-names : (program : ProgramTree) → ((known_of program).predicate (codes "member") 2 ≡ true) × ((known_of program).predicate (codes "append") 3 ≡ true) × ((known_of program).predicate (codes "select") 3 ≡ true)
    × ((known_of program).predicate (codes "between") 3 ≡ true)
unfolding prelude exp_count
own-names program = (refl, refl, refl, refl)

first-there : (a c : Bool) → a ≡ true → IsTrue (a || c)
first-there true c is = refl
first-there false c is = absurd (false≢true is)

second-there : (a c : Bool) → c ≡ true → IsTrue (a || c)
second-there true c is = refl
second-there false c is = is

-- a call of a predicate that is there
goal-there : (known : Knows) (name : List ℕ) (es : ExpTrees) → form_of name (exp_count es) ≡ None → AreExpressions known es → readings name (exp_count es) ≡ [] →
    IsTrue (is_given_predicate name (exp_count es) || known.predicate name (exp_count es)) → IsGoal known (call name es)
unfolding IsGoal
goal-there known name es form exps plain there =
    subst (λ o. IsPredicateCall known o name (exp_count es) (AreRead known (readings name (exp_count es)) es) (IsExpressionAt known es) (IsGoalAt known es) × IsAssigned o es) (sym form)
    ((subst (λ rs. AreRead known rs es) (sym plain) exps, there), tt)

-- `L+1`
abbrev one_more : ExpTree
one_more = call (codes "+") (exp (var (codes "L")) (exp (int (pos 1)) no_exps))

sum : (program : ProgramTree) → IsExpression (known_of program) one_more
unfolding IsRead exp_count
sum program = ((tt, (tt, tt)), first-there (is_given_function (codes "+") 2) ((known_of program).function (codes "+") 2) names-there.4)

pub prelude-parts : (program : ProgramTree) → AllByRecursion (IsPart (known_of program)) program → AllByRecursion (IsPart (known_of program)) (prelude ++ program)
unfolding prelude IsRead IsPattern form_of readings exp_count
prelude-parts program is = (
  record { modes = tt; clause = (record { head = (tt, (((tt, tt), tt), tt)); cond = tt; events = refl; body = goal-there (known_of program) (codes "=") (exp (var (codes "X")) (exp (var (codes "Y")) no_exps)) refl (tt, (tt, tt)) refl (first-there (is_given_predicate (codes "=") 2) ((known_of program).predicate (codes "=") 2) names-there.0) }, free-of (codes "member") 2 names-free.0 _ refl) },
  (
    record { modes = tt; clause = (record { head = (tt, (((tt, tt), tt), tt)); cond = tt; events = refl; body = goal-there (known_of program) (codes "member") (exp (var (codes "X")) (exp (var (codes "L")) no_exps)) refl (tt, (tt, tt)) refl (second-there (is_given_predicate (codes "member") 2) ((known_of program).predicate (codes "member") 2) (own-names program).0) }, free-of (codes "member") 2 names-free.0 _ refl) },
    (
      record { modes = tt; clause = (record { head = (tt, (tt, (tt, tt))); cond = goal-there (known_of program) (codes "var") (exp (var (codes "Xs")) no_exps) refl (tt, tt) refl (first-there (is_given_predicate (codes "var") 1) ((known_of program).predicate (codes "var") 1) names-there.1); events = refl; body = (goal-there (known_of program) (codes "=") (exp (var (codes "Xs")) (exp (list no_exps) no_exps)) refl (tt, (tt, tt)) refl (first-there (is_given_predicate (codes "=") 2) ((known_of program).predicate (codes "=") 2) names-there.0), (goal-there (known_of program) (codes "=") (exp (var (codes "Ys")) (exp (var (codes "Zs")) no_exps)) refl (tt, (tt, tt)) refl (first-there (is_given_predicate (codes "=") 2) ((known_of program).predicate (codes "=") 2) names-there.0), tt)) }, free-of (codes "append") 3 names-free.1 _ refl) },
      (
        record { modes = tt; clause = (record { head = (tt, (tt, (tt, tt))); cond = goal-there (known_of program) (codes "var") (exp (var (codes "Xs")) no_exps) refl (tt, tt) refl (first-there (is_given_predicate (codes "var") 1) ((known_of program).predicate (codes "var") 1) names-there.1); events = refl; body = (goal-there (known_of program) (codes "=") (exp (var (codes "Xs")) (exp (cell (var (codes "X")) (var (codes "R"))) no_exps)) refl (tt, (((tt, tt), tt), tt)) refl (first-there (is_given_predicate (codes "=") 2) ((known_of program).predicate (codes "=") 2) names-there.0), (goal-there (known_of program) (codes "=") (exp (var (codes "Zs")) (exp (cell (var (codes "X")) (var (codes "S"))) no_exps)) refl (tt, (((tt, tt), tt), tt)) refl (first-there (is_given_predicate (codes "=") 2) ((known_of program).predicate (codes "=") 2) names-there.0), (goal-there (known_of program) (codes "append") (exp (var (codes "R")) (exp (var (codes "Ys")) (exp (var (codes "S")) no_exps))) refl (tt, (tt, (tt, tt))) refl (second-there (is_given_predicate (codes "append") 3) ((known_of program).predicate (codes "append") 3) (own-names program).1), tt))) }, free-of (codes "append") 3 names-free.1 _ refl) },
        (
          record { modes = tt; clause = (record { head = (tt, (tt, (tt, tt))); cond = tt; events = refl; body = goal-there (known_of program) (codes "=") (exp (var (codes "Ys")) (exp (var (codes "Zs")) no_exps)) refl (tt, (tt, tt)) refl (first-there (is_given_predicate (codes "=") 2) ((known_of program).predicate (codes "=") 2) names-there.0) }, free-of (codes "append") 3 names-free.1 _ refl) },
          (
            record { modes = tt; clause = (record { head = (((tt, tt), tt), (tt, (tt, tt))); cond = tt; events = refl; body = (goal-there (known_of program) (codes "=") (exp (var (codes "Zs")) (exp (cell (var (codes "X")) (var (codes "S"))) no_exps)) refl (tt, (((tt, tt), tt), tt)) refl (first-there (is_given_predicate (codes "=") 2) ((known_of program).predicate (codes "=") 2) names-there.0), (goal-there (known_of program) (codes "append") (exp (var (codes "Xs")) (exp (var (codes "Ys")) (exp (var (codes "S")) no_exps))) refl (tt, (tt, (tt, tt))) refl (second-there (is_given_predicate (codes "append") 3) ((known_of program).predicate (codes "append") 3) (own-names program).1), tt)) }, free-of (codes "append") 3 names-free.1 _ refl) },
            (
              record { modes = tt; clause = (record { head = (tt, (((tt, tt), tt), (tt, tt))); cond = tt; events = refl; body = (goal-there (known_of program) (codes "=") (exp (var (codes "X")) (exp (var (codes "Y")) no_exps)) refl (tt, (tt, tt)) refl (first-there (is_given_predicate (codes "=") 2) ((known_of program).predicate (codes "=") 2) names-there.0), (goal-there (known_of program) (codes "=") (exp (var (codes "R")) (exp (var (codes "L")) no_exps)) refl (tt, (tt, tt)) refl (first-there (is_given_predicate (codes "=") 2) ((known_of program).predicate (codes "=") 2) names-there.0), tt)) }, free-of (codes "select") 3 names-free.2 _ refl) },
              (
                record { modes = tt; clause = (record { head = (tt, (((tt, tt), tt), (tt, tt))); cond = tt; events = refl; body = (goal-there (known_of program) (codes "=") (exp (var (codes "R")) (exp (cell (var (codes "Y")) (var (codes "S"))) no_exps)) refl (tt, (((tt, tt), tt), tt)) refl (first-there (is_given_predicate (codes "=") 2) ((known_of program).predicate (codes "=") 2) names-there.0), (goal-there (known_of program) (codes "select") (exp (var (codes "X")) (exp (var (codes "L")) (exp (var (codes "S")) no_exps))) refl (tt, (tt, (tt, tt))) refl (second-there (is_given_predicate (codes "select") 3) ((known_of program).predicate (codes "select") 3) (own-names program).2), tt)) }, free-of (codes "select") 3 names-free.2 _ refl) },
                (
                  record { modes = tt; clause = (record { head = (tt, (tt, (tt, tt))); cond = goal-there (known_of program) (codes "=<") (exp (var (codes "L")) (exp (var (codes "U")) no_exps)) refl (tt, (tt, tt)) refl (first-there (is_given_predicate (codes "=<") 2) ((known_of program).predicate (codes "=<") 2) names-there.2); events = refl; body = goal-there (known_of program) (codes "=") (exp (var (codes "X")) (exp (var (codes "L")) no_exps)) refl (tt, (tt, tt)) refl (first-there (is_given_predicate (codes "=") 2) ((known_of program).predicate (codes "=") 2) names-there.0) }, free-of (codes "between") 3 names-free.3 _ refl) },
                  (
                    record { modes = tt; clause = (record { head = (tt, (tt, (tt, tt))); cond = goal-there (known_of program) (codes "<") (exp (var (codes "L")) (exp (var (codes "U")) no_exps)) refl (tt, (tt, tt)) refl (first-there (is_given_predicate (codes "<") 2) ((known_of program).predicate (codes "<") 2) names-there.3); events = refl; body = goal-there (known_of program) (codes "between") (exp one_more (exp (var (codes "U")) (exp (var (codes "X")) no_exps))) refl (sum program, (tt, (tt, tt))) refl (second-there (is_given_predicate (codes "between") 3) ((known_of program).predicate (codes "between") 3) (own-names program).3) }, free-of (codes "between") 3 names-free.3 _ refl) },
                    is,
                  ),
                ),
              ),
            ),
          ),
        ),
      ),
    ),
  ),
)
