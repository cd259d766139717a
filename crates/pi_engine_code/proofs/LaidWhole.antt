-- Tables that are filled, part by part.
use Rattle.std.proofs.Common.{◌≡◌, ℕ, suc, ◌+◌, false, List, [], ◌∷◌, ◌++◌, length, map, refl, sym, ap, subst, arith}
use Rattle.std.specs.Prelude.{slice_get, AllPairs}
use Rattle.pi_meaning.specs.CoreMeaning.Sound.{IsAnother}
use Rattle.pi_engine_code.specs.declared.callables.Callables.{Callables}
use Rattle.pi_engine_code.specs.Callables.{AreCallable}
use Rattle.pi_engine_code.specs.declared.fact_keys.FactKeys.{FactKeys}
use Rattle.pi_engine_code.specs.Keyed.{AreKeyed}
use Rattle.std.proofs.lemmas.List.{length-map, map-append}
use Rattle.pi_constraints.specs.State.{bindings}
use Rattle.pi_constraints.specs.Store.{StoreView}
use Rattle.pi_core.specs.GoalTree.{GoalTree}
use Rattle.pi_core.specs.CoreTree.{PredTree, pred_tree}
use Rattle.pi_core.specs.declared.core_program.CorePred.{CorePred}
use Rattle.pi_engine_code.specs.declared.code.Step.{Step}
use Rattle.pi_engine_code.specs.declared.code.Code.{Code}
use Rattle.pi_engine_code.specs.Code.{Tables}
use Rattle.pi_engine_code.specs.Laid.{Adds, AddsSteps, tables_for, IsLaid, AreResolved, layout}
use Rattle.pi_engine_code.specs.LaidRules.{PredicatesAt, IsFilled, in_tables}
use Rattle.pi_constraints.specs.Value.{IsAcyclic}
use Rattle.pi_unify.proofs.KeepsLemmas.{keeps_none}
use Rattle.pi_engine_code.specs.declared.build.numbers.Numbers.{Numbers}
use Rattle.pi_engine_code.specs.Numbers.{IsNumbering}
use Rattle.pi_engine_code.proofs.LaidTables.{longer-same, adds-then}
use Rattle.pi_engine_code.proofs.LaidRuleLemmas.{predicates-wider, laid-then}
use Rattle.pi_engine_code.proofs.LaidTests.{acyclic-stays}

-- the predicates of a program, and behind them the query's own
pub both-filled : (all : List CorePred) (t : Tables) (names : List (List ℕ)) (code : Code) (at n : ℕ) (ps qs : List PredTree) → PredicatesAt (in_tables all t names code) at ps → n ≡ at + length ps → PredicatesAt (in_tables all t names code) n qs → PredicatesAt (in_tables all t names code) at (ps ++ qs)
unfolding PredicatesAt
both-filled all t names code at n [] qs are e more = subst (λ k. PredicatesAt (in_tables all t names code) k qs) (omega (arith, e)) more
both-filled all t names code at n (p ∷ ps) qs (first, rest) e more = (first, both-filled all t names code (suc at) n ps qs rest (omega (arith, e)) more)

pub none-resolved : (all : List CorePred) (steps : List Step) → steps ≡ [] → AreResolved all steps
none-resolved all steps e i s at = absurd (cc (at, ap (λ r. slice_get r i) e))

-- other parts of tables count for nothing here
same-tables : {M : Type 0} (v : StoreView M) (c d : Code) → d.core ≡ c.core → d.steps ≡ c.steps → d.operands ≡ c.operands → d.parts ≡ c.parts → d.names ≡ c.names → d.tests ≡ c.tests → d.rules ≡ c.rules → d.predicates ≡ c.predicates → Adds v v c d
same-tables v c d core steps operands parts names tests rules predicates =
    record {
      stays = record { keeps = keeps_none v; state = refl };
      core = core;
      steps = longer-same c.steps.items d.steps.items (ap (λ r. r.items) steps);
      operands = longer-same c.operands.items d.operands.items (ap (λ r. r.items) operands);
      parts = longer-same c.parts.items d.parts.items (ap (λ r. r.items) parts);
      names = longer-same c.names.items d.names.items (ap (λ r. r.items) names);
      tests = longer-same c.tests.items d.tests.items (ap (λ r. r.items) tests);
      rules = longer-same c.rules.items d.rules.items (ap (λ r. r.items) rules);
      predicates = longer-same c.predicates.items d.predicates.items (ap (λ r. r.items) predicates);
    }

abbrev pub with_callables : Code → Callables → FactKeys → Code
with_callables d m k = record { core = d.core; helpers = d.helpers; steps = d.steps; operands = d.operands; parts = d.parts; names = d.names; tests = d.tests; rules = d.rules; predicates = d.predicates; callables = m; keys = k }

-- tables that were filled with a program's predicates, a query's own, its goal, and the goals by which names are called, and with the keys by which facts are found
pub filled-all : {M : Type 0} (numbers : Numbers) (u v w x y : StoreView M) (b c d e f : Code) (m : Callables) (k : FactKeys) (ps qs : List CorePred) (g : GoalTree) (slots place : ℕ) → IsNumbering numbers (ps ++ qs) → IsAcyclic (bindings u.now.state) → b.predicates.items ≡ [] → b.steps.items ≡ [] →
    Adds u v b c → length c.predicates.items ≡ length b.predicates.items + length ps →
    ((all : List CorePred) → IsNumbering numbers all → IsAcyclic (bindings u.now.state) → PredicatesAt (in_tables all (tables_for all v.now.terms c) v.names c) (length b.predicates.items) (map pred_tree ps)) →
    ((all : List CorePred) → IsNumbering numbers all → AreResolved all b.steps.items → AreResolved all c.steps.items) → Adds v w c d →
    ((all : List CorePred) → IsNumbering numbers all → IsAcyclic (bindings v.now.state) → PredicatesAt (in_tables all (tables_for all w.now.terms d) w.names d) (length c.predicates.items) (map pred_tree qs)) →
    ((all : List CorePred) → IsNumbering numbers all → AreResolved all c.steps.items → AreResolved all d.steps.items) → AddsSteps w x d e →
    ((all : List CorePred) → IsNumbering numbers all → IsLaid (layout all (tables_for all x.now.terms e) e.steps.items 0 slots) place g false) →
    ((all : List CorePred) → IsNumbering numbers all → AreResolved all d.steps.items → AreResolved all e.steps.items) → AddsSteps x y e f →
    ((all : List CorePred) → IsNumbering numbers all → AreResolved all e.steps.items → AreResolved all f.steps.items) →
    (AllPairs IsAnother (map pred_tree (ps ++ qs)) → AreCallable (ps ++ qs) (tables_for (ps ++ qs) y.now.terms f) y.names f.steps.items m) → AreKeyed f.predicates.items f.rules.items f.tests.items k →
    IsFilled (in_tables (ps ++ qs) (tables_for (ps ++ qs) y.now.terms f) y.names (with_callables f m k)) g slots place
filled-all numbers u v w x y b c d e f m k ps qs g slots place numbered acyclic none empty first long preds resolved second own own_resolved third laid goal_resolved fourth named_resolved callable keyed =
    let all : List CorePred = ps ++ qs in
    let filled : Code = with_callables f m k in
    let named : Adds x y e filled = adds-then x y y e f filled fourth.adds (same-tables y f filled refl refl refl refl refl refl refl refl) in
    let own_on : Adds w y d filled = adds-then w x y d e filled third.adds named in
    let on : Adds v y c filled = adds-then v w y c d filled second own_on in
    let start : length b.predicates.items ≡ 0 = ap length none in
    record {
      predicates = subst (PredicatesAt (in_tables all (tables_for all y.now.terms filled) y.names filled) 0) (sym (map-append pred_tree ps qs))
          (both-filled all (tables_for all y.now.terms filled) y.names filled 0 (length c.predicates.items) (map pred_tree ps) (map pred_tree qs)
          (subst (λ n. PredicatesAt (in_tables all (tables_for all y.now.terms filled) y.names filled) n (map pred_tree ps)) start (predicates-wider all v y c filled (length b.predicates.items) (map pred_tree ps) on (preds all numbered acyclic)))
          (omega (arith, long, start, length-map ps pred_tree))
          (predicates-wider all w y d filled (length c.predicates.items) (map pred_tree qs) own_on (own all numbered (acyclic-stays u v first.stays acyclic))));
      goal_is = laid-then all x y e filled 0 slots place g false named (laid all numbered);
      resolved = named_resolved all numbered (goal_resolved all numbered (own_resolved all numbered (resolved all numbered (none-resolved all b.steps.items empty))));
      callables = callable;
      keyed = keyed;
    }

abbrev with_helpers : Code → Code → Code
with_helpers d e = record { core = d.core; helpers = e.helpers; steps = d.steps; operands = d.operands; parts = d.parts; names = d.names; tests = d.tests; rules = d.rules; predicates = d.predicates; callables = d.callables; keys = d.keys }

-- the query's own predicates are kept beside them
pub filled-with : {M : Type 0} (v : StoreView M) (d e : Code) (all : List CorePred) (g : GoalTree) (slots place : ℕ) → IsFilled (in_tables all (tables_for all v.now.terms d) v.names d) g slots place →
    IsFilled (in_tables all (tables_for all v.now.terms (with_helpers d e)) v.names (with_helpers d e)) g slots place
filled-with v d e all g slots place filled =
    let same : Adds v v d (with_helpers d e) = same-tables v d (with_helpers d e) refl refl refl refl refl refl refl refl in
    record {
      predicates = predicates-wider all v v d (with_helpers d e) 0 (map pred_tree all) same filled.predicates;
      goal_is = laid-then all v v d (with_helpers d e) 0 slots place g false same filled.goal_is;
      resolved = filled.resolved;
      callables = filled.callables;
      keyed = filled.keyed;
    }
