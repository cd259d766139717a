-- Tables that are filled are those of a sound program.
use Rattle.std.proofs.Common.{◌≡◌, ◌≢◌, ℕ, zero, suc, ◌+◌, Bool, true, false, List, [], ◌∷◌, Option, Some, None, is_none, take, drop, map, refl, sym, ◌∙◌, ap, subst, arith}
use Rattle.std.specs.Prelude.{slice_get, Contains}
use Rattle.std.proofs.lemmas.Option.{slice_get_within, get_or_from_slice_get}
use Rattle.pi_terms.specs.Tree.{Tree}
use Rattle.pi_constraints.specs.State.{SpeaksBelow}
use Rattle.pi_constraints.specs.Store.{Terms}
use Rattle.pi_core.specs.GoalTree.{GoalTree, no_goals, goal, nodes}
use Rattle.pi_terms.specs.PatternTree.{PatternTrees, no_patterns, pattern}
use Rattle.pi_core.specs.CoreTree.{ClauseTree, PredTree, pred_tree}
use Rattle.pi_meaning.specs.CoreMeaning.Sound.{IsSound, IsSoundClause, pattern_count}
use Rattle.pi_meaning.specs.CoreMeaning.Defined.{ClauseCallsDefined, ProgramCallsDefined, NamesAreFree}
use Rattle.pi_core.specs.declared.core_program.CorePred.{CorePred}
use Rattle.pi_engine_code.specs.declared.code.HeadTest.{HeadTest}
use Rattle.pi_engine_code.specs.declared.code.Rule.{Rule}
use Rattle.pi_engine_code.specs.declared.code.Predicate.{Predicate}
use Rattle.pi_engine_code.specs.declared.code.Code.{Code}
use Rattle.pi_engine_code.specs.Code.{Tables, preds_of, tables_of}
use Rattle.pi_engine_stands.specs.Here.{AreHere, last_here, more_here, value_here}
use Rattle.pi_engine_stands.specs.Stands.{AreTestsOf, NoneIsDeep, clause_block, IsGuardHere, IsRuleOf, IsPredicateOf, IsCodeOf}
use Rattle.pi_engine_code.specs.Laid.{tables_for, IsLaid, layout}
use Rattle.pi_engine_code.specs.LaidRules.{TestsAt, IsGuardLaid, IsBodyEnd, IsRuleLaid, RulesAt, IsPredicateLaid, PredicatesAt, IsFilled, in_tables}
use Rattle.pi_engine_stands.proofs.ReadsHere.{drop-got}
use Rattle.pi_engine.proofs.LaidHere.{goal-here, value-here, have-numbers}
use Rattle.pi_engine.proofs.NamedLaid.{named-stand}

-- ---- tests

are-tests : (names : List (List ℕ)) (ts : List HeadTest) (deep : Bool) (at : ℕ) (ps : PatternTrees) → TestsAt names ts deep at ps → AreTestsOf names ps (drop at ts)
unfolding TestsAt AreTestsOf
are-tests names ts deep at no_patterns are = tt
are-tests names ts deep at (pattern p ps) (first, rest) = subst (AreTestsOf names (pattern p ps)) (sym (drop-got ts at first.0 first.1)) (first.2, are-tests names ts deep (suc at) ps rest)

none-deep-more : (t : HeadTest) (ts : List HeadTest) → t ≢ HeadTest.Deep → NoneIsDeep ts → NoneIsDeep (t ∷ ts)
none-deep-more t ts isnt none zero r at = λ e. isnt (cc (at, e))
none-deep-more t ts isnt none (suc i) r at = none i r at

none-deep : (names : List (List ℕ)) (ts : List HeadTest) (deep : Bool) (at : ℕ) (ps : PatternTrees) → deep ≡ false → TestsAt names ts deep at ps → NoneIsDeep (take (pattern_count ps) (drop at ts))
unfolding TestsAt pattern_count
none-deep names ts deep at no_patterns shallow are = λ i t h. absurd cc
none-deep names ts deep at (pattern p ps) shallow (first, rest) =
    subst (λ r. NoneIsDeep (take (suc (pattern_count ps)) r)) (sym (drop-got ts at first.0 first.1))
    (none-deep-more first.0 (take (pattern_count ps) (drop (suc at) ts)) (first.3 shallow) (none-deep names ts deep (suc at) ps shallow rest))

-- ---- rules

guard-here : (all : List CorePred) (terms : Terms) (code : Code) (pred : PredTree) (c : ClauseTree) (base : ℕ) (place : Option ℕ) → IsGuardLaid (layout all (tables_for all terms code) code.steps.items pred.arity c.slots) place c.guard → IsSoundClause (map pred_tree all) pred c → ClauseCallsDefined (map pred_tree all) c →
    IsGuardHere (tables_for all terms code) code.steps.items (clause_block base pred c) place c.guard
guard-here all terms code pred c base None is sound calls = is
guard-here all terms code pred c base (Some at) is sound calls = (is.0, goal-here all terms code (clause_block base pred c) at c.guard false is.1 calls.guard sound.slots.guard)

-- a body, and behind it the value
body-here : (all : List CorePred) (terms : Terms) (code : Code) (pred : PredTree) (c : ClauseTree) (base at goals : ℕ) (v : Option Tree) → IsLaid (layout all (tables_for all terms code) code.steps.items pred.arity c.slots) at c.body (is_none v) →
    IsBodyEnd (layout all (tables_for all terms code) code.steps.items pred.arity c.slots) (at + nodes c.body) goals v → IsSoundClause (map pred_tree all) pred c → ClauseCallsDefined (map pred_tree all) c → ((t : Tree) → v ≡ Some t → SpeaksBelow c.slots t) →
    AreHere (tables_for all terms code) code.steps.items (clause_block base pred c) at goals (goal c.body no_goals) v (is_none v)
body-here all terms code pred c base at goals None laid end sound calls below =
    subst (λ n. AreHere (tables_for all terms code) code.steps.items (clause_block base pred c) at n (goal c.body no_goals) None true) (sym end)
    (last_here (goal-here all terms code (clause_block base pred c) at c.body true laid calls.body sound.slots.body))
body-here all terms code pred c base at goals (Some v) laid end sound calls below =
    subst (λ n. AreHere (tables_for all terms code) code.steps.items (clause_block base pred c) at n (goal c.body no_goals) (Some v) false) (sym end.0)
    (more_here (goal-here all terms code (clause_block base pred c) at c.body false laid calls.body sound.slots.body)
    (value_here (value-here all terms code (clause_block base pred c) (at + nodes c.body) v end.1 (below v refl))))

rule-stands : (all : List CorePred) (terms : Terms) (names : List (List ℕ)) (code : Code) (pred : PredTree) (c : ClauseTree) (r : Rule) → IsRuleLaid (in_tables all (tables_for all terms code) names code) pred c r → IsSoundClause (map pred_tree all) pred c → ClauseCallsDefined (map pred_tree all) c →
    IsRuleOf code (tables_for all terms code) names pred c r
rule-stands all terms names code pred c r laid sound calls =
    record {
      slots = laid.slots;
      leaves_others = laid.leaves_others_is;
      patterns = sound.arity;
      tests = are-tests names code.tests.items r.is_deep r.tests c.head laid.tests_are;
      shallow = λ shallow.
          subst (λ n. NoneIsDeep (take n (drop r.tests code.tests.items))) sound.arity (none-deep names code.tests.items r.is_deep r.tests c.head shallow laid.tests_are);
      value = sound.value;
      guard = λ base. guard-here all terms code pred c base r.guard laid.guard sound calls;
      last = is_none c.value;
      body = λ base. body-here all terms code pred c base r.body r.goals c.value laid.body laid.end sound calls sound.slots.value;
    }

same-clause : (d c : ClauseTree) → Some d ≡ Some c → d ≡ c
same-clause d c e = cc

same-pred : (p q : PredTree) → Some p ≡ Some q → p ≡ q
same-pred p q e = cc

rules-got : (all : List CorePred) (t : Tables) (names : List (List ℕ)) (code : Code) (pred : PredTree) (at : ℕ) (cs : List ClauseTree) (i : ℕ) (c : ClauseTree) → RulesAt (in_tables all t names code) pred at cs → slice_get cs i ≡ Some c →
    (r : Rule) × (slice_get code.rules.items (at + i) ≡ Some r) × IsRuleLaid (in_tables all t names code) pred c r
unfolding RulesAt
rules-got all t names code pred at [] i c are here = absurd cc
rules-got all t names code pred at (d ∷ cs) zero c (first, rest) here =
    (first.0, ap (slice_get code.rules.items) (omega arith) ∙ first.1, subst (λ k. IsRuleLaid (in_tables all t names code) pred k first.0) (same-clause d c here) first.2)
rules-got all t names code pred at (d ∷ cs) (suc i) c (first, rest) here =
    let more : (r : Rule) × (slice_get code.rules.items (suc at + i) ≡ Some r) × IsRuleLaid (in_tables all t names code) pred c r = rules-got all t names code pred (suc at) cs i c rest here in
    (more.0, ap (slice_get code.rules.items) (omega arith) ∙ more.1, more.2)

-- ---- predicates

member : {A : Type 0} (xs : List A) (i : ℕ) (x : A) → slice_get xs i ≡ Some x → Contains xs x
member xs i x at = (i, slice_get_within xs i x at, get_or_from_slice_get xs i x x at)

predicate-stands : (all : List CorePred) (terms : Terms) (names : List (List ℕ)) (code : Code) (pred : PredTree) (p : Predicate) → IsPredicateLaid (in_tables all (tables_for all terms code) names code) pred p →
    ((c : ClauseTree) → Contains pred.clauses c → IsSoundClause (map pred_tree all) pred c) → ((c : ClauseTree) → Contains pred.clauses c → ClauseCallsDefined (map pred_tree all) c) → IsPredicateOf code (tables_for all terms code) names pred p
predicate-stands all terms names code pred p laid sound calls =
    record {
      arity = laid.arity;
      quiet = laid.quiet;
      facts = laid.facts;
      rules = laid.rules;
      each = λ i c at.
          (let got : (r : Rule) × (slice_get code.rules.items (p.first + i) ≡ Some r) × IsRuleLaid (in_tables all (tables_for all terms code) names code) pred c r =
          rules-got all (tables_for all terms code) names code pred p.first pred.clauses i c laid.each at in
          (got.0, got.1, rule-stands all terms names code pred c got.0 got.2 (sound c (member pred.clauses i c at)) (calls c (member pred.clauses i c at))));
    }

predicates-got : (all : List CorePred) (t : Tables) (names : List (List ℕ)) (code : Code) (at : ℕ) (ps : List PredTree) (i : ℕ) (pred : PredTree) → PredicatesAt (in_tables all t names code) at ps → slice_get ps i ≡ Some pred →
    (p : Predicate) × (slice_get code.predicates.items (at + i) ≡ Some p) × IsPredicateLaid (in_tables all t names code) pred p
unfolding PredicatesAt
predicates-got all t names code at [] i pred are here = absurd cc
predicates-got all t names code at (q ∷ ps) zero pred (first, rest) here =
    (first.0, ap (slice_get code.predicates.items) (omega arith) ∙ first.1, subst (λ k. IsPredicateLaid (in_tables all t names code) k first.0) (same-pred q pred here) first.2)
predicates-got all t names code at (q ∷ ps) (suc i) pred (first, rest) here =
    let more : (p : Predicate) × (slice_get code.predicates.items (suc at + i) ≡ Some p) × IsPredicateLaid (in_tables all t names code) pred p = predicates-got all t names code (suc at) ps i pred rest here in
    (more.0, ap (slice_get code.predicates.items) (omega arith) ∙ more.1, more.2)

pub code-stands : (terms : Terms) (names : List (List ℕ)) (code : Code) (g : GoalTree) (slots place : ℕ) → IsFilled (in_tables (preds_of code) (tables_of terms code) names code) g slots place → IsSound (map pred_tree (preds_of code)) → ProgramCallsDefined (map pred_tree (preds_of code)) → NamesAreFree (map pred_tree (preds_of code)) →
    IsCodeOf code (tables_of terms code) names (map pred_tree (preds_of code))
code-stands terms names code g slots place filled sound calls free =
    record {
      source = refl;
      apart = sound.apart;
      free = free;
      predicates = λ n pred at.
          (let got : (p : Predicate) × (slice_get code.predicates.items (0 + n) ≡ Some p) × IsPredicateLaid (in_tables (preds_of code) (tables_of terms code) names code) pred p =
          predicates-got (preds_of code) (tables_of terms code) names code 0 (map pred_tree (preds_of code)) n pred filled.predicates at in (
            got.0,
            ap (slice_get code.predicates.items) (omega arith) ∙ got.1,
            predicate-stands (preds_of code) terms names code pred got.0 got.2 (sound.clauses pred (member (map pred_tree (preds_of code)) n pred at)) (calls pred (member (map pred_tree (preds_of code)) n pred at)),
          ));
      numbers = have-numbers (preds_of code) code.steps.items filled.resolved;
      named = named-stand terms names code (filled.callables sound.apart);
      keyed = filled.keyed;
    }

-- ---- filling
