-- A program in tables, where atoms get more names.
use Rattle.pi_engine_code.proofs.LaidTests.{test-keeps, MoreNames}
use Rattle.std.proofs.Common.{ℕ, List, [], ◌∷◌, drop}
use Rattle.pi_terms.specs.PatternTree.{PatternTrees, no_patterns, pattern}
use Rattle.pi_core.specs.CoreTree.{ClauseTree, PredTree}
use Rattle.pi_engine_code.specs.declared.code.HeadTest.{HeadTest}
use Rattle.pi_engine_code.specs.declared.code.Rule.{Rule}
use Rattle.pi_engine_code.specs.declared.code.Predicate.{Predicate}
use Rattle.pi_engine_code.specs.declared.code.Code.{Code}
use Rattle.pi_engine_code.specs.Code.{Tables}
use Rattle.pi_engine_code.specs.Callables.{HasPlace}
use Rattle.pi_engine_stands.specs.Stands.{AreTestsOf, IsRuleOf, IsPredicateOf, NamedHere, AreNamed, IsCodeOf}

tests-keep : (names others : List (List ℕ)) (ps : PatternTrees) (ts : List HeadTest) → MoreNames names others → AreTestsOf names ps ts → AreTestsOf others ps ts
unfolding AreTestsOf
tests-keep names others no_patterns ts more are = are
tests-keep names others (pattern p ps) [] more are = are
tests-keep names others (pattern p ps) (t ∷ ts) more are = (test-keeps names others p t more are.0, tests-keep names others ps ts more are.1)

rule-keeps : (code : Code) (t : Tables) (names others : List (List ℕ)) (pred : PredTree) (c : ClauseTree) (r : Rule) → MoreNames names others → IsRuleOf code t names pred c r → IsRuleOf code t others pred c r
rule-keeps code t names others pred c r more is =
    record {
      slots = is.slots;
      leaves_others = is.leaves_others;
      patterns = is.patterns;
      tests = tests-keep names others c.head (drop r.tests code.tests.items) more is.tests;
      shallow = is.shallow;
      value = is.value;
      guard = is.guard;
      last = is.last;
      body = is.body;
    }

pred-keeps : (code : Code) (t : Tables) (names others : List (List ℕ)) (pred : PredTree) (p : Predicate) → MoreNames names others → IsPredicateOf code t names pred p → IsPredicateOf code t others pred p
pred-keeps code t names others pred p more is =
    record {
      arity = is.arity;
      quiet = is.quiet;
      facts = is.facts;
      rules = is.rules;
      each = λ i c at. ((is.each i c at).0, (is.each i c at).1, rule-keeps code t names others pred c (is.each i c at).0 more (is.each i c at).2);
    }

named-keeps : (code : Code) (t : Tables) (names others : List (List ℕ)) (preds : List PredTree) → MoreNames names others → AreNamed code t names preds → AreNamed code t others preds
named-keeps code t names others preds more are =
    record {
      right = λ n k place found.
          (let it : NamedHere code t names preds n k place = are.right n k place found in
          record { name = it.name; name_is = more n it.name it.name_is; it = it.it; is = it.is; here = it.here });
      each = λ name k g is.
          (let it : HasPlace names code.callables name k = are.each name k g is in
          record { number = it.number; place = it.place; name_is = more it.number name it.name_is; place_is = it.place_is });
    }

pub code-keeps : (code : Code) (t : Tables) (names others : List (List ℕ)) (preds : List PredTree) → MoreNames names others → IsCodeOf code t names preds → IsCodeOf code t others preds
code-keeps code t names others preds more is =
    record {
      source = is.source;
      apart = is.apart;
      free = is.free;
      predicates = λ n pred at. ((is.predicates n pred at).0, (is.predicates n pred at).1, pred-keeps code t names others pred (is.predicates n pred at).0 more (is.predicates n pred at).2);
      numbers = is.numbers;
      named = named-keeps code t names others preds more is.named;
      keyed = is.keyed;
    }
