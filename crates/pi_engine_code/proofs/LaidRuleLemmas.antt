-- Rules and predicates in tables that get longer, and those that are added.
use Rattle.std.proofs.Common.{◌≡◌, ℕ, suc, ◌+◌, ◌<◌, ◌≤◌, Bool, false, List, [], ◌∷◌, ◌++◌, Option, Some, None, length, take, map, get_or, refl, sym, ◌∙◌, ap, subst, arith, length-append, is_none}
use Rattle.std.specs.Prelude.{slice_get}
use Rattle.std.proofs.lemmas.List.{take_more, take_all, map-append, length-map}
use Rattle.pi_terms.specs.Tree.{Tree}
use Rattle.pi_constraints.specs.State.{bindings}
use Rattle.pi_constraints.specs.Value.{IsAcyclic}
use Rattle.pi_constraints.specs.Store.{StoreView}
use Rattle.pi_core.specs.GoalTree.{GoalTree, nodes}
use Rattle.pi_core.specs.CoreTree.{ClauseTree, PredTree, pred_tree, clause_tree, leaves_others}
use Rattle.pi_core.specs.declared.core_program.CorePred.{CorePred}
use Rattle.pi_core.specs.declared.core_program.CoreClause.{CoreClause}
use Rattle.pi_terms.proofs.GetLemmas.{get_append_last}
use Rattle.pi_unify.proofs.KeepsLemmas.{keeps_none}
use Rattle.pi_engine_code.specs.declared.code.Step.{Step}
use Rattle.pi_engine_code.specs.declared.code.Rule.{Rule}
use Rattle.pi_engine_code.specs.declared.code.Predicate.{Predicate}
use Rattle.pi_engine_code.specs.declared.code.Code.{Code}
use Rattle.pi_engine_code.specs.declared.build.numbers.Numbers.{Numbers}
use Rattle.pi_engine_code.specs.Code.{Tables}
use Rattle.pi_engine_code.specs.Numbers.{IsNumbering}
use Rattle.pi_engine_code.specs.Laid.{Longer, Adds, AddsSteps, tables_for, IsLaid, IsValueLaid, AreResolved, layout}
use Rattle.pi_engine_code.specs.LaidRules.{AddsRule, AddsRules, TestsAt, IsGuardLaid, IsBodyEnd, IsRuleLaid, RulesAt, IsPredicateLaid, PredicatesAt, in_tables}
use Rattle.pi_engine_code.proofs.LaidTables.{adds-none, adds-then, longer-pushed}
use Rattle.pi_engine_code.proofs.LaidTerms.{Wider, wider-added, operand-wider}
use Rattle.pi_engine_code.proofs.LaidGoals.{laid-wider}
use Rattle.pi_engine_code.proofs.LaidTests.{tests-wider, acyclic-stays}
use Rattle.pi_terms.proofs.ListLemmas.{length-taken}

-- ---- longer tables

pub guard-wider : (all : List CorePred) (t u : Tables) (ss rs : List Step) (first slots : ℕ) (place : Option ℕ) (g : GoalTree) → Wider t u → Longer ss rs → IsGuardLaid (layout all t ss first slots) place g → IsGuardLaid (layout all u rs first slots) place g
guard-wider all t u ss rs first slots None g wider longer is = is
guard-wider all t u ss rs first slots (Some at) g wider longer is = (is.0, laid-wider all t u ss rs first slots at g false wider longer is.1)

pub value-wider : (t u : Tables) (ss rs : List Step) (first slots at : ℕ) (v : Tree) → Wider t u → Longer ss rs → IsValueLaid t ss first slots at v → IsValueLaid u rs first slots at v
value-wider t u ss rs first slots at v wider longer is =
    record { step = is.step; operand = is.operand; stands = longer at is.step is.stands; node = is.node; is_value = operand-wider t u v is.operand wider is.is_value; first_is = is.first_is; slots_is = is.slots_is }

pub end-wider : (all : List CorePred) (t u : Tables) (ss rs : List Step) (first slots at goals : ℕ) (v : Option Tree) → Wider t u → Longer ss rs → IsBodyEnd (layout all t ss first slots) at goals v → IsBodyEnd (layout all u rs first slots) at goals v
end-wider all t u ss rs first slots at goals None wider longer is = is
end-wider all t u ss rs first slots at goals (Some v) wider longer is = (is.0, value-wider t u ss rs first slots at v wider longer is.1)

pub laid-then : {M : Type 0} (all : List CorePred) (v w : StoreView M) (c d : Code) (first slots at : ℕ) (g : GoalTree) (last : Bool) → Adds v w c d → IsLaid (layout all (tables_for all v.now.terms c) c.steps.items first slots) at g last → IsLaid (layout all (tables_for all w.now.terms d) d.steps.items first slots) at g last
laid-then all v w c d first slots at g last adds is = laid-wider all (tables_for all v.now.terms c) (tables_for all w.now.terms d) c.steps.items d.steps.items first slots at g last (wider-added all v w c d adds) adds.steps is

pub rule-wider : {M : Type 0} (all : List CorePred) (v w : StoreView M) (c d : Code) (pred : PredTree) (k : ClauseTree) (r : Rule) → Adds v w c d →
    IsRuleLaid (in_tables all (tables_for all v.now.terms c) v.names c) pred k r → IsRuleLaid (in_tables all (tables_for all w.now.terms d) w.names d) pred k r
rule-wider all v w c d pred k r adds is =
    let wider : Wider (tables_for all v.now.terms c) (tables_for all w.now.terms d) = wider-added all v w c d adds in
    record {
      slots = is.slots;
      leaves_others_is = is.leaves_others_is;
      tests_are = tests-wider v.names w.names c.tests.items d.tests.items r.is_deep r.tests k.head adds.stays.keeps.names adds.tests is.tests_are;
      guard = guard-wider all _ _ c.steps.items d.steps.items pred.arity k.slots r.guard k.guard wider adds.steps is.guard;
      body = laid-wider all _ _ c.steps.items d.steps.items pred.arity k.slots r.body k.body (is_none k.value) wider adds.steps is.body;
      end = end-wider all _ _ c.steps.items d.steps.items pred.arity k.slots (r.body + nodes k.body) r.goals k.value wider adds.steps is.end;
    }

pub rules-wider : {M : Type 0} (all : List CorePred) (v w : StoreView M) (c d : Code) (pred : PredTree) (at : ℕ) (ks : List ClauseTree) → Adds v w c d → RulesAt (in_tables all (tables_for all v.now.terms c) v.names c) pred at ks → RulesAt (in_tables all (tables_for all w.now.terms d) w.names d) pred at ks
unfolding RulesAt
rules-wider all v w c d pred at [] adds are = are
rules-wider all v w c d pred at (k ∷ ks) adds (first, rest) =
    ((first.0, adds.rules at first.0 first.1, rule-wider all v w c d pred k first.0 adds first.2), rules-wider all v w c d pred (suc at) ks adds rest)

pub predicate-wider : {M : Type 0} (all : List CorePred) (v w : StoreView M) (c d : Code) (pred : PredTree) (p : Predicate) → Adds v w c d → IsPredicateLaid (in_tables all (tables_for all v.now.terms c) v.names c) pred p → IsPredicateLaid (in_tables all (tables_for all w.now.terms d) w.names d) pred p
predicate-wider all v w c d pred p adds is = record { arity = is.arity; quiet = is.quiet; facts = is.facts; rules = is.rules; each = rules-wider all v w c d pred p.first pred.clauses adds is.each }

pub predicates-wider : {M : Type 0} (all : List CorePred) (v w : StoreView M) (c d : Code) (at : ℕ) (ps : List PredTree) → Adds v w c d → PredicatesAt (in_tables all (tables_for all v.now.terms c) v.names c) at ps → PredicatesAt (in_tables all (tables_for all w.now.terms d) w.names d) at ps
unfolding PredicatesAt
predicates-wider all v w c d at [] adds are = are
predicates-wider all v w c d at (p ∷ ps) adds (first, rest) =
    ((first.0, adds.predicates at first.0 first.1, predicate-wider all v w c d p first.0 adds first.2), predicates-wider all v w c d (suc at) ps adds rest)

-- ---- rules that are added

-- a rule whose tests, condition and body were added one after the other
pub rule-laid : {M : Type 0} (numbers : Numbers) (all : List CorePred) (u v w x : StoreView M) (b c d e : Code) (pred : PredTree) (k : ClauseTree) (r : Rule) → r.slots ≡ k.slots → r.leaves_others ≡ leaves_others pred.function k →
    TestsAt v.names c.tests.items r.is_deep r.tests k.head → AddsSteps v w c d → IsGuardLaid (layout all (tables_for all w.now.terms d) d.steps.items pred.arity k.slots) r.guard k.guard → AddsSteps w x d e →
    IsLaid (layout all (tables_for all x.now.terms e) e.steps.items pred.arity k.slots) r.body k.body (is_none k.value) → IsBodyEnd (layout all (tables_for all x.now.terms e) e.steps.items pred.arity k.slots) (r.body + nodes k.body) r.goals k.value →
    IsRuleLaid (in_tables all (tables_for all x.now.terms e) x.names e) pred k r
rule-laid numbers all u v w x b c d e pred k r slots others tests guarding guard bodying body end =
    let on : Adds v x c e = adds-then v w x c d e guarding.adds bodying.adds in
    record {
      slots = slots;
      leaves_others_is = others;
      tests_are = tests-wider v.names x.names c.tests.items e.tests.items r.is_deep r.tests k.head on.stays.keeps.names on.tests tests;
      guard = guard-wider all _ _ d.steps.items e.steps.items pred.arity k.slots r.guard k.guard (wider-added all w x d e bodying.adds) bodying.adds.steps guard;
      body = body;
      end = end;
    }

pub rules-more : (all : List CorePred) (t : Tables) (ns : List (List ℕ)) (code : Code) (pred : PredTree) (at : ℕ) (ks : List ClauseTree) (k : ClauseTree) (r : Rule) → RulesAt (in_tables all t ns code) pred at ks → slice_get code.rules.items (at + length ks) ≡ Some r →
    IsRuleLaid (in_tables all t ns code) pred k r → RulesAt (in_tables all t ns code) pred at (ks ++ k ∷ [])
unfolding RulesAt
rules-more all t ns code pred at [] k r are here is = ((r, ap (slice_get code.rules.items) (omega arith) ∙ here, is), tt)
rules-more all t ns code pred at (j ∷ ks) k r (first, rest) here is = (first, rules-more all t ns code pred (suc at) ks k r rest (ap (slice_get code.rules.items) (omega arith) ∙ here) is)

-- so many rules were added
pub record RulesAdded {M : Type 0} (numbers : Numbers) (v w : StoreView M) (c d : Code) (pred : PredTree) (clauses : List CoreClause) (i : ℕ) : Type 0 where
  pub adds : AddsRules v w c d
  pub long : length d.rules.items ≡ length c.rules.items + i
  pub are : (all : List CorePred) → IsNumbering numbers all → IsAcyclic (bindings v.now.state) → RulesAt (in_tables all (tables_for all w.now.terms d) w.names d) pred (length c.rules.items) (map clause_tree (take i clauses))
  pub resolved : (all : List CorePred) → IsNumbering numbers all → AreResolved all c.steps.items → AreResolved all d.steps.items

pub no-rules-added : {M : Type 0} (numbers : Numbers) (v : StoreView M) (c : Code) (pred : PredTree) (clauses : List CoreClause) → RulesAdded numbers v v c c pred clauses 0
unfolding RulesAt
no-rules-added numbers v c pred clauses =
    record { adds = record { adds = adds-none v c; predicates = refl }; long = omega arith; are = λ all numbered acyclic. tt; resolved = λ all numbered are. are }

abbrev with_rules : Code → Code → Code
with_rules d e = record { core = d.core; helpers = d.helpers; steps = d.steps; operands = d.operands; parts = d.parts; names = d.names; tests = d.tests; rules = e.rules; predicates = d.predicates; callables = d.callables; keys = d.keys }

pub rule-added : {M : Type 0} (numbers : Numbers) (v w x : StoreView M) (c d f e : Code) (pred : PredTree) (clauses : List CoreClause) (i : ℕ) (k : CoreClause) (r : Rule) → RulesAdded numbers v w c d pred clauses i → i < length clauses → k ≡ get_or clauses i k →
    AddsRule w x d f → ((all : List CorePred) → IsNumbering numbers all → IsAcyclic (bindings w.now.state) → IsRuleLaid (in_tables all (tables_for all x.now.terms f) x.names f) pred (clause_tree k) r) →
    ((all : List CorePred) → IsNumbering numbers all → AreResolved all d.steps.items → AreResolved all f.steps.items) → e.rules.items ≡ f.rules.items ++ r ∷ [] → RulesAdded numbers v x c (with_rules f e) pred clauses (i + 1)
rule-added numbers v w x c d f e pred clauses i k r before within item adds laid resolved pushed =
    let after : Code = with_rules f e in
    let push : Adds x x f after =
    record {
      stays = record { keeps = keeps_none x; state = refl };
      core = refl;
      steps = λ i x at. at;
      operands = λ i x at. at;
      parts = λ i x at. at;
      names = λ i x at. at;
      tests = λ i x at. at;
      rules = longer-pushed f.rules.items e.rules.items r pushed;
      predicates = λ i x at. at;
    } in
    let more : Adds w x d after = adds-then w x x d f after adds.adds push in
    let count : length (map clause_tree (take i clauses)) ≡ i = length-map (take i clauses) clause_tree ∙ length-taken clauses i (omega (arith, within)) in
    let place : length c.rules.items + length (map clause_tree (take i clauses)) ≡ length f.rules.items =
    ap (λ n. length c.rules.items + n) count ∙ sym before.long ∙ ap (λ q. length q.items) (sym adds.rules) in
    record {
      adds = record { adds = adds-then v w x c d after before.adds.adds more; predicates = adds.predicates ∙ before.adds.predicates };
      long = ap length pushed ∙ length-append f.rules.items (r ∷ []) ∙ omega (arith, before.long, ap (λ q. length q.items) adds.rules);
      are = λ all numbered acyclic.
          subst (λ ks. RulesAt (in_tables all (tables_for all x.now.terms after) x.names after) pred (length c.rules.items) ks)
          (sym (ap (map clause_tree) (take_more clauses i k within ∙ ap (λ y. take i clauses ++ y ∷ []) (sym item)) ∙ map-append clause_tree (take i clauses) (k ∷ [])))
          (rules-more all (tables_for all x.now.terms after) x.names after pred (length c.rules.items) (map clause_tree (take i clauses)) (clause_tree k) r
          (rules-wider all w x d after pred (length c.rules.items) (map clause_tree (take i clauses)) more (before.are all numbered acyclic))
          (ap (slice_get e.rules.items) place ∙ ap (λ q. slice_get q (length f.rules.items)) pushed ∙ get_append_last f.rules.items r)
          (rule-wider all x x f after pred (clause_tree k) r push (laid all numbered (acyclic-stays v w before.adds.adds.stays acyclic))));
      resolved = λ all numbered are. resolved all numbered (before.resolved all numbered are);
    }

pub all-rules-added : {M : Type 0} (numbers : Numbers) (v w : StoreView M) (c d : Code) (pred : PredTree) (clauses : List CoreClause) (i : ℕ) → RulesAdded numbers v w c d pred clauses i → length clauses ≤ i → pred.clauses ≡ map clause_tree clauses →
    (all : List CorePred) → IsNumbering numbers all → IsAcyclic (bindings v.now.state) → RulesAt (in_tables all (tables_for all w.now.terms d) w.names d) pred (length c.rules.items) pred.clauses
all-rules-added numbers v w c d pred clauses i added whole same all numbered acyclic =
    subst (RulesAt (in_tables all (tables_for all w.now.terms d) w.names d) pred (length c.rules.items)) (ap (map clause_tree) (take_all i clauses whole) ∙ sym same) (added.are all numbered acyclic)

-- ---- predicates that are added

pub predicates-more : (all : List CorePred) (t : Tables) (ns : List (List ℕ)) (code : Code) (at : ℕ) (ps : List PredTree) (pred : PredTree) (p : Predicate) → PredicatesAt (in_tables all t ns code) at ps → slice_get code.predicates.items (at + length ps) ≡ Some p →
    IsPredicateLaid (in_tables all t ns code) pred p → PredicatesAt (in_tables all t ns code) at (ps ++ pred ∷ [])
unfolding PredicatesAt
predicates-more all t ns code at [] pred p are here is = ((p, ap (slice_get code.predicates.items) (omega arith) ∙ here, is), tt)
predicates-more all t ns code at (q ∷ ps) pred p (first, rest) here is = (first, predicates-more all t ns code (suc at) ps pred p rest (ap (slice_get code.predicates.items) (omega arith) ∙ here) is)

pub record PredicatesAdded {M : Type 0} (numbers : Numbers) (v w : StoreView M) (c d : Code) (preds : List CorePred) (i : ℕ) : Type 0 where
  pub adds : Adds v w c d
  pub long : length d.predicates.items ≡ length c.predicates.items + i
  pub are : (all : List CorePred) → IsNumbering numbers all → IsAcyclic (bindings v.now.state) → PredicatesAt (in_tables all (tables_for all w.now.terms d) w.names d) (length c.predicates.items) (map pred_tree (take i preds))
  pub resolved : (all : List CorePred) → IsNumbering numbers all → AreResolved all c.steps.items → AreResolved all d.steps.items

pub no-predicates-added : {M : Type 0} (numbers : Numbers) (v : StoreView M) (c : Code) (preds : List CorePred) → PredicatesAdded numbers v v c c preds 0
unfolding PredicatesAt
no-predicates-added numbers v c preds = record { adds = adds-none v c; long = omega arith; are = λ all numbered acyclic. tt; resolved = λ all numbered are. are }

abbrev with_predicates : Code → Code → Code
with_predicates d e = record { core = d.core; helpers = d.helpers; steps = d.steps; operands = d.operands; parts = d.parts; names = d.names; tests = d.tests; rules = d.rules; predicates = e.predicates; callables = d.callables; keys = d.keys }

pub predicate-added : {M : Type 0} (numbers : Numbers) (v w x : StoreView M) (c d f e : Code) (preds : List CorePred) (i : ℕ) (q : CorePred) (p : Predicate) → PredicatesAdded numbers v w c d preds i → i < length preds → q ≡ get_or preds i q →
    AddsRules w x d f → ((all : List CorePred) → IsNumbering numbers all → IsAcyclic (bindings w.now.state) → IsPredicateLaid (in_tables all (tables_for all x.now.terms f) x.names f) (pred_tree q) p) →
    ((all : List CorePred) → IsNumbering numbers all → AreResolved all d.steps.items → AreResolved all f.steps.items) → e.predicates.items ≡ f.predicates.items ++ p ∷ [] → PredicatesAdded numbers v x c (with_predicates f e) preds (i + 1)
predicate-added numbers v w x c d f e preds i q p before within item adds laid resolved pushed =
    let after : Code = with_predicates f e in
    let push : Adds x x f after =
    record {
      stays = record { keeps = keeps_none x; state = refl };
      core = refl;
      steps = λ i x at. at;
      operands = λ i x at. at;
      parts = λ i x at. at;
      names = λ i x at. at;
      tests = λ i x at. at;
      rules = λ i x at. at;
      predicates = longer-pushed f.predicates.items e.predicates.items p pushed;
    } in
    let more : Adds w x d after = adds-then w x x d f after adds.adds push in
    let count : length (map pred_tree (take i preds)) ≡ i = length-map (take i preds) pred_tree ∙ length-taken preds i (omega (arith, within)) in
    let place : length c.predicates.items + length (map pred_tree (take i preds)) ≡ length f.predicates.items =
    ap (λ n. length c.predicates.items + n) count ∙ sym before.long ∙ ap (λ r. length r.items) (sym adds.predicates) in
    record {
      adds = adds-then v w x c d after before.adds more;
      long = ap length pushed ∙ length-append f.predicates.items (p ∷ []) ∙ omega (arith, before.long, ap (λ r. length r.items) adds.predicates);
      are = λ all numbered acyclic.
          subst (λ ps. PredicatesAt (in_tables all (tables_for all x.now.terms after) x.names after) (length c.predicates.items) ps)
          (sym (ap (map pred_tree) (take_more preds i q within ∙ ap (λ y. take i preds ++ y ∷ []) (sym item)) ∙ map-append pred_tree (take i preds) (q ∷ [])))
          (predicates-more all (tables_for all x.now.terms after) x.names after (length c.predicates.items) (map pred_tree (take i preds)) (pred_tree q) p
          (predicates-wider all w x d after (length c.predicates.items) (map pred_tree (take i preds)) more (before.are all numbered acyclic))
          (ap (slice_get e.predicates.items) place ∙ ap (λ r. slice_get r (length f.predicates.items)) pushed ∙ get_append_last f.predicates.items p)
          (predicate-wider all x x f after (pred_tree q) p push (laid all numbered (acyclic-stays v w before.adds.stays acyclic))));
      resolved = λ all numbered are. resolved all numbered (before.resolved all numbered are);
    }

pub all-predicates-added : {M : Type 0} (numbers : Numbers) (v w : StoreView M) (c d : Code) (preds : List CorePred) (i : ℕ) → PredicatesAdded numbers v w c d preds i → length preds ≤ i →
    (all : List CorePred) → IsNumbering numbers all → IsAcyclic (bindings v.now.state) → PredicatesAt (in_tables all (tables_for all w.now.terms d) w.names d) (length c.predicates.items) (map pred_tree preds)
all-predicates-added numbers v w c d preds i added whole all numbered acyclic =
    subst (PredicatesAt (in_tables all (tables_for all w.now.terms d) w.names d) (length c.predicates.items)) (ap (map pred_tree) (take_all i preds whole)) (added.are all numbered acyclic)
