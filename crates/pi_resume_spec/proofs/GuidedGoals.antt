-- Goals of the core language, calls of a program and queries are guided, where what later stages give is.
use Rattle.std.specs.Prelude.{ℕ, zero, suc, ◌+◌, Bool, true, false, cond, List, [], ◌∷◌, ◌++◌, length, map, replicate, Option, Some, None, option_map, option_and_then, pos, nat_lt, codes}
use Rattle.std.specs.List.{list_any}
use Rattle.std.proofs.Common.{sym, subst}
use Rattle.pi_terms.specs.Tree.{Tree, int, comp, Trees, trees_of, tree_count, cells, most_cells}
use Rattle.pi_terms.specs.Places.{Places}
use Rattle.pi_constraints.specs.State.{State, bindings}
use Rattle.pi_constraints.specs.Evaluation.{Evaluated, evaluated, EvaluatedAll, evaluated_all}
use Rattle.pi_constraints.specs.HeadMatch.{matched_all_in}
use Rattle.pi_core.specs.GoalTree.{GoalTree, truth, fail, tick, call, apply, seq, alternatives as any_of, if_else, not, once, collect, count, catch, GoalTrees, no_goals, goal}
use Rattle.pi_core.specs.CoreTree.{backtracks, find_pred, ClauseTree, PredTree, QueryTree}
use Rattle.pi_core.specs.declared.core_program.SlotWatch.{SlotWatch}
use Rattle.pi_core.specs.declared.core_program.NameSlot.{NameSlot}
use Rattle.pi_syntax.specs.declared.program.Mode.{Mode}
use Rattle.pi_traces.specs.Trace.{Trace, end, Raise, Deep, Done, done, one, then, first, answers}
use Rattle.pi_traces.specs.Control.{negated, collected, counted}
use Rattle.pi_settling.specs.Settled.{loaded}
use Rattle.pi_settling.specs.Settle.{answer_with}
use Rattle.pi_meaning.specs.Shared.Settle.{settlement, settled, settled_from}
use Rattle.pi_meaning.specs.Shared.Drain.{drained}
use Rattle.pi_meaning.specs.Shared.Raise.{raised_with}
use Rattle.pi_meaning.specs.Shared.Level.{Level, Applied, or_applied}
use Rattle.pi_meaning.specs.CoreMeaning.Builtins.{function_by}
use Rattle.pi_meaning.specs.CoreMeaning.Meaning.{slot_value, copyable}
use Rattle.pi_meaning.specs.CoreMeaning.Facts.{fact_terms, unified_with, fits_modes}
use Rattle.pi_meaning.specs.CoreMeaning.Rules as core
use Rattle.pi_meaning.specs.CoreMeaning.Rules.{rules_by, rules, value_run, function_run, application_run}
use Rattle.pi_meaning.specs.CoreMeaning.Run.{Solution, told}
use Rattle.pi_traces.proofs.AnswerLemmas.{EachAnswer, each-one, each-first, each-negated, each-collected, each-counted, each-then}
use Rattle.pi_resume_spec.specs.Resumed.{Search, simple, alternatives, chosen_search, RuleSearch}
use Rattle.pi_resume_spec.specs.Searches.{Searches, SearchLevel, bottom, above, level_with, searches_at, below, plain_level, Spot, Tries, only, ticked_at, in_state, draining, strictly}
use Rattle.pi_resume_spec.specs.ByName.{Offers, or_searched, handled_in, handling}
use Rattle.pi_resume_spec.specs.Goals.{with_slot, after_arguments, after_term, succeeding, failing, ticking, predicate_by, calling, applying, with_list, strict, collecting, counting, catching, search, search_all, search_any}
use Rattle.pi_resume_spec.specs.Rules.{guarded, applies_from, searched_by, rule_searches, rules_of, quiet_search, by_rules, body_or_agent, fact_search, pred_search, entered, call_search, searches_of, quiet_level, search_level}
use Rattle.pi_resume_spec.specs.Queries.{solution, answered_with, query_start, query_search}
use Rattle.pi_resume_spec.specs.LanguageLaws.{OneAtMost, IsGuided, AreGuided, IsGuidedLevel}
use Rattle.pi_resume_spec.proofs.PlainGoals.{calls-plain}
use Rattle.pi_resume_spec.proofs.GuidedLemmas.{Guided, each-plain, one-renamed, one-first, one-negated, one-collected, one-counted, one-chosen, one-one, one-end, simple-guided, guided-simple, guided-only, guided-end, guided-sequence, AllGuided, guided-choice, guided-catch, guided-ticked, guided-chosen, RulesGuided, guided-rules}

-- ---- what is asked of names

abbrev pub OptionGuided : Option (Search State) → Type 0
OptionGuided None = Unit {0}
OptionGuided (Some s) = IsGuided s

abbrev pub OptionOne : Option (Trace Applied) → Type 0
OptionOne None = Unit {0}
OptionOne (Some t) = OneAtMost t

pub record AreOffered (b : Offers) : Type 0 where
  pub predicates : (l : SearchLevel) → IsGuidedLevel l → (name : List ℕ) (ts : Trees) (s : State) → OptionGuided (b.predicate l name ts s)
  pub functions : (l : Level) (name : List ℕ) (ts : Trees) (s : State) → OptionOne (b.plain.function l name ts s)

-- ---- levels

abbrev pub Fine : Spot → Type 0
Fine q = IsGuidedLevel q.level

abbrev pub Any : State → Type 0
Any s = Unit {0}

each-any : {A : Type 0} (P : A → Type 0) → ((x : A) → P x) → (t : Trace A) → EachAnswer P t
unfolding EachAnswer
each-any P all (end e) = tt
each-any P all (Rattle.pi_traces.specs.Trace.note n t) = each-any P all t
each-any P all (Rattle.pi_traces.specs.Trace.ans x t) = (all x, each-any P all t)

pub any-guided : (s : Search State) → IsGuided s → Guided Any s
any-guided s g = record { guided = g; each = each-any (λ w. Unit {0}) (λ w. tt) s.ways }

pub guided-at : (l : SearchLevel) → IsGuidedLevel l → AreGuided (searches_at l)
unfolding IsGuidedLevel
guided-at (bottom c) h = h
guided-at (above c l) h = h.0

abbrev pub FineOption : Option SearchLevel → Type 0
FineOption None = Unit {0}
FineOption (Some l) = IsGuidedLevel l

fine-below : (l : SearchLevel) → IsGuidedLevel l → FineOption (below l)
unfolding IsGuidedLevel
fine-below (bottom c) h = tt
fine-below (above c l) h = h.1

-- ---- goals

abbrev pub FineTries : Tries → Type 0
FineTries act = (p : Spot) → Fine p → Guided Fine (act p)

pub fine-draining : (act : Tries) → FineTries act → FineTries (draining act)
unfolding draining
fine-draining act all p h =
    guided-sequence Any Fine ((searches_at p.level).drained p.state) (λ s. act (in_state p s)) (any-guided ((searches_at p.level).drained p.state) ((guided-at p.level h).drained p.state)) (λ s a. all (in_state p s) h)

fine-only : FineTries (λ q. only q)
fine-only q h = guided-only Fine q h

pub fine-strictly : (act : Tries) → FineTries act → FineTries (strictly act)
unfolding strictly
fine-strictly act all p h = guided-sequence Fine Fine (act p) (draining (λ q. only q)) (all p h) (fine-draining (λ q. only q) fine-only)

pub each-strict : (act : Tries) → FineTries act → (p : Spot) → Fine p → EachAnswer Fine (strict act p)
each-strict act all p h = each-plain Fine (strictly act p) (fine-strictly act all p h)

fine-failing : FineTries failing
fine-failing p h = guided-end Fine Done

fine-ticked : (p : Spot) (l : Option SearchLevel) → FineOption l → Guided Fine (ticked_at l (λ k. only (record { level = k; slots = p.slots; state = p.state })))
fine-ticked p None h = guided-end Fine Deep
fine-ticked p (Some l) h = guided-ticked Fine (only (record { level = l; slots = p.slots; state = p.state })) (guided-only Fine (record { level = l; slots = p.slots; state = p.state }) h)

fine-ticking : FineTries ticking
fine-ticking p h = fine-ticked p (below p.level) (fine-below p.level h)

pub or-guided : (o : Option (Search State)) (l : SearchLevel) → IsGuidedLevel l → (name : List ℕ) (ts : Trees) (s : State) → OptionGuided o → IsGuided (or_searched o l name ts s)
or-guided None l h name ts s g = (guided-at l h).called name ts s
or-guided (Some t) l h name ts s g = g

fine-calling : (b : Offers) → AreOffered b → (name : List ℕ) (args : List Tree) → FineTries (calling b name args)
unfolding calling
fine-calling b offered name args p h =
    let all : EvaluatedAll = evaluated_all (trees_of args) p.slots p.state in
    let t = predicate_by b p.level name all.trees all.state in
    guided-sequence Any Fine t (λ s. only (in_state (after_arguments p all) s))
    (any-guided t (or-guided (b.predicate p.level name all.trees all.state) p.level h name all.trees all.state (offered.predicates p.level h name all.trees all.state)))
    (λ s a. guided-only Fine (in_state (after_arguments p all) s) h)

or-one : (o : Option (Trace Applied)) (l : SearchLevel) → IsGuidedLevel l → (name : List ℕ) (ts : Trees) (s : State) → OptionOne o → OneAtMost (or_applied o (plain_level l) name ts s)
or-one None l h name ts s one_at_most = subst (λ c. OneAtMost (c.applied name ts s)) (sym (calls-plain l)) ((guided-at l h).applied name ts s)
or-one (Some t) l h name ts s one_at_most = one_at_most

fine-applying : (b : Offers) → AreOffered b → (name : List ℕ) (args : List Tree) (into : ℕ) → FineTries (applying b name args into)
unfolding applying
fine-applying b offered name args into p h =
    let all : EvaluatedAll = evaluated_all (trees_of args) p.slots p.state in
    let t = function_by b.plain (plain_level p.level) name all.trees all.state in
    let into_slot : Applied → Spot = λ a. with_slot (in_state (after_arguments p all) a.state) into a.value in
    guided-simple Fine (then t (λ a. one (into_slot a)))
    (one-renamed t into_slot (or-one (b.plain.function (plain_level p.level) name all.trees all.state) p.level h name all.trees all.state (offered.functions (plain_level p.level) name all.trees all.state)))
    (each-then (λ a. Unit {0}) Fine t (λ a. one (into_slot a)) (each-any (λ a. Unit {0}) (λ a. tt) t) (λ a u. each-one Fine (into_slot a) h))

fine-collecting : (act : Tries) (k into : ℕ) → FineTries (collecting act k into)
unfolding collecting
fine-collecting act k into p h =
    let values : Trace Tree = then (strict act p) (λ q. copyable (slot_value k q.slots q.state)) in
    guided-simple Fine (collected values (λ t. t) (λ ts. one (with_list p into ts)))
    (one-collected values (λ t. t) (λ ts. one (with_list p into ts)) (λ ts. one-one (with_list p into ts)))
    (each-collected Fine values (λ t. t) (λ ts. one (with_list p into ts)) (λ ts. each-one Fine (with_list p into ts) h))

fine-counting : (act : Tries) (into : ℕ) → FineTries (counting act into)
unfolding counting
fine-counting act into p h =
    guided-simple Fine (counted (strict act p) (λ n. one (with_slot p into (int (pos n)))))
    (one-counted (strict act p) (λ n. one (with_slot p into (int (pos n)))) (λ n. one-one (with_slot p into (int (pos n)))))
    (each-counted Fine (strict act p) (λ n. one (with_slot p into (int (pos n)))) (λ n. each-one Fine (with_slot p into (int (pos n))) h))

one-loaded : (n : ℕ) (t : Trace State) → OneAtMost t → OneAtMost (loaded n t)
unfolding loaded answers
one-loaded zero t h = h
one-loaded (suc n) t h = h

one-left : (o : Option State) → OneAtMost (answer_with o)
one-left None = one-end State Done
one-left (Some r) = one-one r

pub one-settled : (s r : State) → OneAtMost (settled s r)
unfolding settled
one-settled s r = one-loaded (settlement s r).load (answer_with (settlement s r).left) (one-left (settlement s r).left)

pub guided-settled : (s r : State) → Guided Any (simple (settled s r))
guided-settled s r = any-guided (simple (settled s r)) (simple-guided (settled s r) (one-settled s r))

pub guided-handled : {A : Type 0} (P : A → Type 0) (s : State) (ball : Tree) (f : State → Search A) → ((r : State) → Guided P (f r)) → (o : Option State) → Guided P (handled_in s ball f o)
guided-handled P s ball f all None = guided-end P (Raise ball)
guided-handled P s ball f all (Some r) = guided-sequence Any P (simple (settled s r)) f (guided-settled s r) (λ x u. all x)

fine-catching : (act handler : Tries) → FineTries act → FineTries handler → (ball : Tree) → FineTries (catching act ball handler)
unfolding catching
fine-catching act handler all later ball p h =
    let e : Evaluated = evaluated ball p.slots p.state in
    let f : State → Search Spot = λ s. handler (in_state (after_term p e) s) in
    guided-catch Fine (strictly act (after_term p e)) (handling e.state e.tree f) (fine-strictly act all (after_term p e) h)
    (λ t. guided-handled Fine e.state t f (λ r. later (in_state (after_term p e) r) h)
    (Rattle.pi_constraints.specs.Unify.unified (Rattle.pi_constraints.specs.Evaluation.with_new_variables (Rattle.pi_terms.specs.Copy.new_variables t) e.state) e.tree (Rattle.pi_terms.specs.Copy.copy (Rattle.pi_constraints.specs.State.next e.state) t)))

mutual
  unfolding search AllGuided

  pub goal-guided : (b : Offers) → AreOffered b → (g : GoalTree) → FineTries (search b g)
  goal-guided b offered truth = fine-draining succeeding fine-only
  goal-guided b offered fail = fine-draining failing fine-failing
  goal-guided b offered tick = fine-draining ticking fine-ticking
  goal-guided b offered (call name args) = fine-draining (calling b name args) (fine-calling b offered name args)
  goal-guided b offered (apply name args slot) = fine-draining (applying b name args slot) (fine-applying b offered name args slot)
  goal-guided b offered (seq gs) = fine-draining (search_all b gs) (all-guided b offered gs)
  goal-guided b offered (any_of gs) = fine-draining (λ p. alternatives (search_any b gs p)) (λ p h. guided-choice Fine (search_any b gs p) (any-of-guided b offered gs p h))
  goal-guided b offered (if_else test then_goal other) =
      fine-draining (λ p. chosen_search (strict (search b test) p) (search b then_goal) (search b other p))
      (λ p h. guided-chosen Fine Fine (strict (search b test) p) (search b then_goal) (search b other p) (each-strict (search b test) (goal-guided b offered test) p h) (goal-guided b offered then_goal)
      (goal-guided b offered other p h))
  goal-guided b offered (not g) =
      fine-draining (λ p. simple (negated (strict (search b g) p) p)) (λ p h. guided-simple Fine (negated (strict (search b g) p) p) (one-negated (strict (search b g) p) p) (each-negated Fine (strict (search b g) p) p h))
  goal-guided b offered (once g) =
      fine-draining (λ p. simple (first (strict (search b g) p)))
      (λ p h. guided-simple Fine (first (strict (search b g) p)) (one-first (strict (search b g) p)) (each-first Fine (strict (search b g) p) (each-strict (search b g) (goal-guided b offered g) p h)))
  goal-guided b offered (collect g k into) = fine-draining (collecting (search b g) k into) (fine-collecting (search b g) k into)
  goal-guided b offered (count g into) = fine-draining (counting (search b g) into) (fine-counting (search b g) into)
  goal-guided b offered (catch g ball handler) =
      fine-draining (catching (search b g) ball (search b handler)) (fine-catching (search b g) (search b handler) (goal-guided b offered g) (goal-guided b offered handler) ball)

  all-guided : (b : Offers) → AreOffered b → (gs : GoalTrees) → FineTries (search_all b gs)
  all-guided b offered no_goals p h = fine-only p h
  all-guided b offered (goal g gs) p h = guided-sequence Fine Fine (search b g p) (search_all b gs) (goal-guided b offered g p h) (all-guided b offered gs)

  any-of-guided : (b : Offers) → AreOffered b → (gs : GoalTrees) (p : Spot) → Fine p → AllGuided Fine (search_any b gs p)
  any-of-guided b offered no_goals p h = tt
  any-of-guided b offered (goal g gs) p h = (goal-guided b offered g p h, any-of-guided b offered gs p h)

-- ---- rules

each-guard : (b : Offers) → AreOffered b → (g : GoalTree) (p : Spot) → Fine p → EachAnswer Fine (guarded b g p)
each-guard b offered truth p h = each-one Fine p h
each-guard b offered fail p h = each-strict (search b fail) (goal-guided b offered fail) p h
each-guard b offered tick p h = each-strict (search b tick) (goal-guided b offered tick) p h
each-guard b offered (call name args) p h = each-strict (search b (call name args)) (goal-guided b offered (call name args)) p h
each-guard b offered (apply name args k) p h = each-strict (search b (apply name args k)) (goal-guided b offered (apply name args k)) p h
each-guard b offered (seq gs) p h = each-strict (search b (seq gs)) (goal-guided b offered (seq gs)) p h
each-guard b offered (any_of gs) p h = each-strict (search b (any_of gs)) (goal-guided b offered (any_of gs)) p h
each-guard b offered (if_else c g k) p h = each-strict (search b (if_else c g k)) (goal-guided b offered (if_else c g k)) p h
each-guard b offered (not g) p h = each-strict (search b (not g)) (goal-guided b offered (not g)) p h
each-guard b offered (once g) p h = each-strict (search b (once g)) (goal-guided b offered (once g)) p h
each-guard b offered (collect g k into) p h = each-strict (search b (collect g k into)) (goal-guided b offered (collect g k into)) p h
each-guard b offered (count g into) p h = each-strict (search b (count g into)) (goal-guided b offered (count g into)) p h
each-guard b offered (catch g t k) p h = each-strict (search b (catch g t k)) (goal-guided b offered (catch g t k)) p h

each-applies : (b : Offers) → AreOffered b → (l : SearchLevel) → IsGuidedLevel l → (c : ClauseTree) (s : State) (o : Option Places) → EachAnswer Fine (applies_from b l c s o)
unfolding EachAnswer
each-applies b offered l h c s None = tt
each-applies b offered l h c s (Some e) = each-guard b offered c.guard (record { level = l; slots = e; state = s }) h

rules-guided : (b : Offers) → AreOffered b → (l : SearchLevel) → IsGuidedLevel l → (back : ClauseTree → Bool) (body : ℕ → ClauseTree → Spot → Search State) →
    ((i : ℕ) (c : ClauseTree) (p : Spot) → Fine p → Guided Any (body i c p)) → (i : ℕ) (cs : List ClauseTree) (ts : Trees) (s : State) → RulesGuided Fine Any (rule_searches (searched_by b l back body) i cs ts s)
unfolding rule_searches RulesGuided
rules-guided b offered l h back body all i [] ts s = tt
rules-guided b offered l h back body all i (c ∷ cs) ts s =
    ((each-applies b offered l h c s (matched_all_in (bindings s) c.head ts (replicate c.slots None)), all i c), rules-guided b offered l h back body all (suc i) cs ts s)

quiet-guided : (rs : List (RuleSearch Spot State)) → RulesGuided Fine Any rs → Guided Any (quiet_search rs)
unfolding quiet_search RulesGuided
quiet-guided [] h = guided-end Any Done
quiet-guided (r ∷ rs) h = guided-chosen Fine Any r.applies r.body (quiet_search rs) h.0.0 h.0.1 (quiet-guided rs h.1)

by-guided : (quiet : Bool) (rs : List (RuleSearch Spot State)) → RulesGuided Fine Any rs → Guided Any (by_rules quiet rs)
by-guided true rs h = quiet-guided rs h
by-guided false rs h = guided-rules Fine Any rs h

body-guided : (b : Offers) → AreOffered b → (the_call : Tree) (i : ℕ) (c : ClauseTree) (ws : List SlotWatch) (p : Spot) → Fine p → Guided Any (body_or_agent b the_call i c ws p)
body-guided b offered the_call i c [] p h = guided-sequence Fine Any (search b c.body p) (λ q. only q.state) (goal-guided b offered c.body p h) (λ q u. guided-only Any q.state tt)
body-guided b offered the_call i c (w ∷ ws) p h = guided-only Any (core.suspended the_call i (w ∷ ws) p.slots p.state) tt

one-settled-from : (s : State) (o : Option State) → OneAtMost (settled_from s o)
one-settled-from s None = one-end State Done
one-settled-from s (Some r) = one-settled s r

facts-guided : (ts : Trees) (s : State) (cs : List ClauseTree) → AllGuided Any (map (fact_search ts s) cs)
unfolding AllGuided
facts-guided ts s [] = tt
facts-guided ts s (c ∷ cs) =
    let t = settled_from s (option_and_then (unified_with ts) (fact_terms c.head (replicate c.slots None) s)) in
    (any-guided (simple t) (simple-guided t (one-settled-from s (option_and_then (unified_with ts) (fact_terms c.head (replicate c.slots None) s)))), facts-guided ts s cs)

if-guided : (test : Bool) (t u : Search State) → Guided Any t → Guided Any u → Guided Any (cond test t u)
if-guided true t u a b = a
if-guided false t u a b = b

pred-guided : (b : Offers) → AreOffered b → (l : SearchLevel) → IsGuidedLevel l → (pred : PredTree) (index : Option (List (List Mode))) (ts : Trees) (s : State) → Guided Any (pred_search b l pred index ts s)
unfolding pred_search
pred-guided b offered l h pred None ts s =
    by-guided pred.quiet (rule_searches (rules_of b l pred.name ts) 0 pred.clauses ts s)
    (rules-guided b offered l h (λ c. backtracks c.back c.watches) (λ i c p. body_or_agent b (comp pred.name ts) i c c.watches p) (λ i c p q. body-guided b offered (comp pred.name ts) i c c.watches p q) 0 pred.clauses ts s)
pred-guided b offered l h pred (Some lists) ts s =
    if-guided (list_any (λ modes. fits_modes (bindings s) modes ts) lists) (alternatives (map (fact_search ts s) pred.clauses)) (simple done)
    (guided-choice Any (map (fact_search ts s) pred.clauses) (facts-guided ts s pred.clauses)) (guided-end Any Done)

entered-guided : (quiet : Bool) (inner below : Option SearchLevel) → FineOption inner → FineOption below → (f : SearchLevel → Search State) → ((l : SearchLevel) → IsGuidedLevel l → Guided Any (f l)) → Guided Any (entered quiet inner below f)
entered-guided true None below i b f all = guided-end Any Deep
entered-guided true (Some l) below i b f all = all l i
entered-guided false inner None i b f all = guided-end Any Deep
entered-guided false inner (Some l) i b f all = guided-ticked Any (f l) (all l b)

call-guided : (b : Offers) → AreOffered b → (inner below : Option SearchLevel) → FineOption inner → FineOption below → (o : Option PredTree) (ts : Trees) (s : State) → Guided Any (call_search b inner below o ts s)
call-guided b offered inner below i k None ts s = guided-end Any Done
call-guided b offered inner below i k (Some pred) ts s =
    entered-guided pred.quiet inner below i k (λ l. pred_search b l pred pred.index ts s) (λ l h. pred-guided b offered l h pred pred.index ts s)

-- the call of a function has one answer at most
one-function : (b : Offers) (l : Level) (pred : PredTree) (ts : Trees) (s : State) → OneAtMost (function_run b.plain l pred ts s)
unfolding function_run raised_with
one-function b l pred ts s =
    one-chosen (rules (rules_by b.plain l (λ c. false) (λ i c p. value_run b.plain c p)) 0 pred.clauses ts s) (λ a. one a) (raised_with (codes "unresolved_function_call") (comp pred.name ts) s)
    (λ a. one-one a) (one-end Applied (Raise (Rattle.pi_effects.specs.Exception.exception_with (codes "unresolved_function_call") (comp pred.name ts) s)))

one-noted : {A : Type 0} (n : Rattle.pi_traces.specs.Trace.Note) (t : Trace A) → OneAtMost t → OneAtMost (Rattle.pi_traces.specs.Trace.note n t)
unfolding Rattle.pi_traces.specs.Trace.answers
one-noted n t h = h

one-entered : (quiet : Bool) (inner below : Option Level) (f : Level → Trace Applied) → ((l : Level) → OneAtMost (f l)) → OneAtMost (core.entered quiet inner below f)
one-entered true None below f all = one-end Applied Deep
one-entered true (Some l) below f all = all l
one-entered false inner None f all = one-end Applied Deep
one-entered false inner (Some l) f all = one-noted Rattle.pi_traces.specs.Trace.Tick (f l) (all l)

one-application : (b : Offers) (inner below : Option Level) (o : Option PredTree) (ts : Trees) (s : State) → OneAtMost (application_run b.plain inner below o ts s)
one-application b inner below None ts s = one-end Applied Done
one-application b inner below (Some pred) ts s = one-entered pred.quiet inner below (λ l. function_run b.plain l pred ts s) (λ l. one-function b l pred ts s)

one-drained : (s : State) → OneAtMost (drained s)
unfolding drained
one-drained s = one-one s

calls-guided : (b : Offers) → AreOffered b → (preds : List PredTree) (inner below : Option SearchLevel) → FineOption inner → FineOption below → AreGuided (searches_of b preds inner below)
unfolding searches_of
calls-guided b offered preds inner below i k = record {
  called = λ name ts s. (call-guided b offered inner below i k (find_pred false name (tree_count ts) preds) ts s).guided;
  applied = λ name ts s. one-application b (option_map plain_level inner) (option_map plain_level below) (find_pred true name (tree_count ts) preds) ts s;
  drained = λ s. simple-guided (drained s) (one-drained s);
}

-- ---- levels

with-guided : (c : Searches) (l : Option SearchLevel) → AreGuided c → FineOption l → IsGuidedLevel (level_with c l)
unfolding IsGuidedLevel
with-guided c None g h = g
with-guided c (Some l) g h = (g, h)

quiet-level-guided : (b : Offers) → AreOffered b → (preds : List PredTree) (l : Option SearchLevel) → FineOption l → (k : ℕ) → IsGuidedLevel (quiet_level b preds l k)
unfolding quiet_level
quiet-level-guided b offered preds l h zero = with-guided (searches_of b preds None l) l (calls-guided b offered preds None l tt h) h
quiet-level-guided b offered preds l h (suc k) =
    with-guided (searches_of b preds (Some (quiet_level b preds l k)) l) l (calls-guided b offered preds (Some (quiet_level b preds l k)) l (quiet-level-guided b offered preds l h k) h) h

pub level-guided : (b : Offers) → AreOffered b → (preds : List PredTree) (d : ℕ) → IsGuidedLevel (search_level b preds d)
unfolding search_level
level-guided b offered preds zero = quiet-level-guided b offered preds None tt (length preds)
level-guided b offered preds (suc d) = quiet-level-guided b offered preds (Some (search_level b preds d)) (level-guided b offered preds d) (suc (length preds + d))

-- ---- queries

if-one : {A : Type 0} (test : Bool) (t u : Trace A) → OneAtMost t → OneAtMost u → OneAtMost (cond test t u)
if-one true t u a b = a
if-one false t u a b = b

one-told : (names : List NameSlot) (x : Solution) (t : Trace Solution) → OneAtMost t → OneAtMost (told names x t)
unfolding told
one-told [] x t h = h
one-told (n ∷ names) x t h =
    if-one (nat_lt most_cells (cells (slot_value n.slot x.slots x.state))) (end Rattle.pi_meaning.specs.Shared.Raise.too_large) (told names x t)
    (one-end Solution Rattle.pi_meaning.specs.Shared.Raise.too_large) (one-told names x t h)

told-guided : (names : List NameSlot) (p : Spot) → Guided (λ x. Unit {0}) (answered_with names p)
told-guided names p =
    let t = told names (solution p) (one (solution p)) in
    guided-simple (λ x. Unit {0}) t (one-told names (solution p) (one (solution p)) (one-one (solution p))) (each-any (λ x. Unit {0}) (λ x. tt) t)

pub query-guided : (b : Offers) → AreOffered b → (program : List PredTree) (q : QueryTree) (d : ℕ) → IsGuided (query_search b program q d)
unfolding query_search
query-guided b offered program q d =
    let start = query_start (search_level b (program ++ q.helpers) d) q in
    (guided-sequence Fine (λ x. Unit {0}) (strictly (search b q.goal) start) (answered_with q.names)
    (fine-strictly (search b q.goal) (goal-guided b offered q.goal) start (level-guided b offered (program ++ q.helpers) d)) (λ p h. told-guided q.names p)).guided
