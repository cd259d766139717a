-- The facts of a call's predicate have the keys by which they are found, from what the tables have.
use Rattle.std.proofs.Common.{◌≡◌, ℕ, zero, suc, ◌+◌, ◌≤◌, ◌<◌, Bool, List, [], ◌∷◌, Some, length, drop, map, refl, sym, ◌∙◌, ap, arith}
use Rattle.std.specs.Prelude.{slice_get, option_map}
use Rattle.std.proofs.lemmas.Option.{slice_get_within, slice_get-map}
use Rattle.pi_terms.specs.PatternTree.{PatternTree}
use Rattle.pi_constraints.specs.State.{State}
use Rattle.pi_core.specs.CoreTree.{ClauseTree, PredTree, clause_tree, pattern_tree, pattern_trees}
use Rattle.pi_core.specs.declared.core_program.CoreClause.{CoreClause}
use Rattle.pi_core.specs.declared.core_program.Pattern.{Pattern}
use Rattle.pi_meaning.specs.CoreMeaning.Sound.{pattern_count}
use Rattle.pi_engine_code.specs.Keyed.{shown_by, IsFactKeyed}
use Rattle.pi_engine_code.specs.LaidRules.{IsTestOf}
use Rattle.pi_engine_code.specs.declared.code.HeadTest.{HeadTest}
use Rattle.pi_engine_code.specs.declared.code.Predicate.{Predicate}
use Rattle.pi_engine_code.specs.declared.code.Rule.{Rule}
use Rattle.pi_meaning.specs.Machine.Configuration.{Frame, Called, Entry as EntryData}
use Rattle.pi_engine_facts.specs.Keyed.{IsShown, HaveKeys}
use Rattle.pi_engine_stands.specs.Stands.{World, tables_in, AreTestsOf, IsRuleOf, IsPredicateOf}
use Rattle.pi_engine_stands.specs.Tries.{CallIs}
use Rattle.pi_engine_stands.proofs.ArgumentsStand.{behind-first}
use Rattle.pi_engine_steps.proofs.FactsTried.{there-of, same-pred}

-- the pattern in a place, and its test
record TestThere (names : List (List ℕ)) (ps : List Pattern) (ts : List HeadTest) (place : ℕ) : Type 0 where
  pub pattern_is : Pattern
  pub at : slice_get ps place ≡ Some pattern_is
  pub test : HeadTest
  pub there : slice_get ts place ≡ Some test
  pub is : IsTestOf names (pattern_tree pattern_is) test

test-there : (names : List (List ℕ)) (ps : List Pattern) (ts : List HeadTest) (place : ℕ) → AreTestsOf names (pattern_trees ps) ts → place < length ps → TestThere names ps ts place
unfolding AreTestsOf pattern_trees
test-there names [] ts place are less = absurd (omega (arith, less))
test-there names (p ∷ ps) [] place are less = absurd are
test-there names (p ∷ ps) (t ∷ ts) zero are less = record { pattern_is = p; at = refl; test = t; there = refl; is = are.0 }
test-there names (p ∷ ps) (t ∷ ts) (suc place) are less =
    let rest : TestThere names ps ts place = test-there names ps ts place are.1 (omega (arith, less)) in
    record { pattern_is = rest.pattern_is; at = rest.at; test = rest.test; there = rest.there; is = rest.is }

counted : (ps : List Pattern) → pattern_count (pattern_trees ps) ≡ length ps
unfolding pattern_count pattern_trees
counted [] = refl
counted (p ∷ ps) = ap suc (counted ps)

shown-of : (names : List (List ℕ)) (p : PatternTree) (t : HeadTest) → IsTestOf names p t → IsShown names p (shown_by t)
shown-of names p (HeadTest.Slot k) is = tt
shown-of names p (HeadTest.Int n) is = is
shown-of names p (HeadTest.Atom k) is = is
shown-of names p HeadTest.Deep is = tt

pub facts-keyed : {M : Type 0} (w : World M) (p base frame from : ℕ) (called : Called) (cs : List ClauseTree) (s : State) (k : List Frame) (es : List EntryData) (again : Bool) (pred : PredTree) (predicate : Predicate) (facts : List CoreClause) → CallIs w p base frame from called cs s k es again →
    slice_get w.loaded.preds p ≡ Some pred → slice_get w.loaded.code.predicates.items p ≡ Some predicate → pred.clauses ≡ map clause_tree facts → HaveKeys w.store.names w.loaded.code.keys p facts predicate.first
facts-keyed w p base frame from called cs s k es again pred predicate facts is at there clauses = λ place i d listed here.
    let in_tables : IsPredicateOf w.loaded.code (tables_in w.loaded) w.store.names is.call.call.pred predicate = there-of w p base frame from called cs s k es again predicate is there in
    let clause : slice_get is.call.call.pred.clauses i ≡ Some (clause_tree d) =
    ap (λ q. slice_get q.clauses i) (same-pred (slice_get w.loaded.preds p) is.call.call.pred pred is.call.call.is_pred at) ∙ (ap (λ xs. slice_get xs i) clauses ∙ (slice_get-map clause_tree facts i ∙ ap (option_map clause_tree) here)) in
    let rule : (r : Rule) × (slice_get w.loaded.code.rules.items (predicate.first + i) ≡ Some r) × IsRuleOf w.loaded.code (tables_in w.loaded) w.store.names is.call.call.pred (clause_tree d) r = in_tables.each i (clause_tree d) clause in
    let keyed : (place < predicate.arity) × ((number : ℕ) → predicate.first ≤ number → number < predicate.end → IsFactKeyed w.loaded.code.rules.items w.loaded.code.tests.items w.loaded.code.keys p place number) = is.code.keyed p place listed predicate there in
    let within : i < length is.call.call.pred.clauses = slice_get_within is.call.call.pred.clauses i (clause_tree d) clause in
    let arguments : length d.head.items ≡ is.call.call.pred.arity = sym (counted d.head.items) ∙ rule.2.patterns in
    let test : TestThere w.store.names d.head.items (drop rule.0.tests w.loaded.code.tests.items) place =
    test-there w.store.names d.head.items (drop rule.0.tests w.loaded.code.tests.items) place rule.2.tests (omega (arith, keyed.0, in_tables.arity, arguments)) in
    record {
      pattern = test.pattern_is;
      at = test.at;
      value = shown_by test.test;
      shown = shown-of w.store.names (pattern_tree test.pattern_is) test.test test.is;
      key = keyed.1 (predicate.first + i) (omega arith) (omega (arith, within, in_tables.rules)) rule.0 test.test rule.1 (sym (behind-first w.loaded.code.tests.items rule.0.tests place) ∙ test.there);
    }
