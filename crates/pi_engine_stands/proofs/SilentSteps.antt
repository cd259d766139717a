-- Goals whose step counts no Tick, by their nodes.
use Rattle.std.proofs.Common.{◌≡◌, ℕ, List, [], ◌∷◌, true, refl, sym, ◌∙◌, ap, subst}
use Rattle.std.specs.Prelude.{slice_index_or, codes}
use Rattle.pi_terms.specs.Tree.{Tree, trees_of}
use Rattle.pi_constraints.specs.Evaluation.{evaluated_all}
use Rattle.pi_terms.specs.Places.{Places}
use Rattle.pi_constraints.specs.State.{State}
use Rattle.pi_settling.specs.SolveCalls.{is_solve}
use Rattle.pi_meaning.specs.Shared.View.{View}
use Rattle.pi_core.specs.CoreTree.{PredTree}
use Rattle.pi_core.specs.GoalTree.{GoalTree, GoalTrees, truth, fail, tick, call, apply, seq, alternatives, if_else, not, once, collect, count, catch}
use Rattle.pi_core.specs.GoalCells.{kind_of}
use Rattle.pi_core.specs.declared.goal_node.GoalKind.{GoalKind}
use Rattle.pi_engine_code.specs.declared.code.Node.{Node}
use Rattle.pi_engine_code.specs.Code.{Tables, node_kind, operand_tree, operand_trees}
use Rattle.pi_meaning.specs.Machine.Configuration.{Frame, Config, Entry as EntryData}
use Rattle.pi_meaning.specs.Machine.Step.{silently, goal_step, with_rest}
use Rattle.pi_meaning.proofs.Machine.CallFound.{effect-comes-to, value-comes-to, solve-comes-to}
use Rattle.pi_engine_stands.specs.Here.{Block, NodeIsReadable}
use Rattle.pi_engine_stands.specs.Goes.{IsSilent}
use Rattle.pi_engine_stands.proofs.CallLemmas.{equal-comes-to, throw-comes-to}
use Rattle.pi_engine_stands.proofs.CallRuns.{args-count}
use Rattle.pi_engine_stands.proofs.ConstraintNames.{built-effect, built-value, domain-known}
use Rattle.pi_engine_stands.proofs.BuiltInStands.{effect-there, value-there, goal-there, domain-there, all-many}

no-silent : (t : Tables) (n : Node) (k : GoalKind) (X : Type 0) → IsSilent n → node_kind t n ≡ k → (k ≡ GoalKind.Tick) → X
unfolding node_kind
no-silent t Node.True k X silent kind is = absurd cc
no-silent t Node.Fail k X silent kind is = absurd cc
no-silent t Node.Tick k X silent kind is = absurd silent
no-silent t (Node.Seq n) k X silent kind is = absurd cc
no-silent t (Node.Alt n) k X silent kind is = absurd cc
no-silent t Node.If k X silent kind is = absurd cc
no-silent t Node.Not k X silent kind is = absurd cc
no-silent t Node.Once k X silent kind is = absurd cc
no-silent t (Node.Collect value into) k X silent kind is = absurd cc
no-silent t (Node.Count into) k X silent kind is = absurd cc
no-silent t (Node.Catch ball) k X silent kind is = absurd cc
no-silent t (Node.Unify left right) k X silent kind is = absurd cc
no-silent t (Node.Throw ball) k X silent kind is = absurd cc
no-silent t (Node.BuiltIn built n first arity) k X silent kind is = absurd cc
no-silent t (Node.BuiltInValue built n first arity slot) k X silent kind is = absurd cc
no-silent t (Node.Constrain c n first arity) k X silent kind is = absurd cc
no-silent t (Node.DomainValue f n first arity slot) k X silent kind is = absurd cc
no-silent t (Node.Solve n first arity) k X silent kind is = absurd cc
no-silent t (Node.Call p first) k X silent kind is = absurd silent
no-silent t (Node.Apply p first into) k X silent kind is = absurd silent
no-silent t (Node.Value operand) k X silent kind is = absurd silent
no-silent t (Node.CallTerm first arity) k X silent kind is = absurd silent

-- a step comes to a configuration without a Tick
abbrev StepsSilently : View → List PredTree → GoalTree → GoalTrees → Places → State → List Frame → List EntryData → Type 0
StepsSilently v preds g gs e s k es = (d : Config) × (goal_step v preds g e s (with_rest gs k es) ≡ silently d)

call-silent : (v : View) (preds : List PredTree) (t : Tables) (b : Block) (n : Node) (name : List ℕ) (args : List Tree) (gs : GoalTrees) (e : Places) (s : State) (k : List Frame) (es : List EntryData) → IsSilent n → NodeIsReadable t b n → node_kind t n ≡ GoalKind.Call name args →
    StepsSilently v preds (call name args) gs e s k es
unfolding node_kind
call-silent v preds t b Node.True name args gs e s k es silent reads kind = absurd cc
call-silent v preds t b Node.Fail name args gs e s k es silent reads kind = absurd cc
call-silent v preds t b Node.Tick name args gs e s k es silent reads kind = absurd silent
call-silent v preds t b (Node.Seq n) name args gs e s k es silent reads kind = absurd cc
call-silent v preds t b (Node.Alt n) name args gs e s k es silent reads kind = absurd cc
call-silent v preds t b Node.If name args gs e s k es silent reads kind = absurd cc
call-silent v preds t b Node.Not name args gs e s k es silent reads kind = absurd cc
call-silent v preds t b Node.Once name args gs e s k es silent reads kind = absurd cc
call-silent v preds t b (Node.Collect value into) name args gs e s k es silent reads kind = absurd cc
call-silent v preds t b (Node.Count into) name args gs e s k es silent reads kind = absurd cc
call-silent v preds t b (Node.Catch ball) name args gs e s k es silent reads kind = absurd cc
call-silent v preds t b (Node.Unify left right) name args gs e s k es silent reads kind =
    let it : call (codes "=") (operand_tree t left ∷ operand_tree t right ∷ []) ≡ call name args = cc in
    (_, sym (ap (λ g. goal_step v preds g e s (with_rest gs k es)) it) ∙ equal-comes-to v preds (operand_tree t left) (operand_tree t right) gs e s k es)
call-silent v preds t b (Node.Throw ball) name args gs e s k es silent reads kind =
    let it : call (codes "throw") (operand_tree t ball ∷ []) ≡ call name args = cc in
    (_, sym (ap (λ g. goal_step v preds g e s (with_rest gs k es)) it) ∙ throw-comes-to v preds (operand_tree t ball) gs e s k es)
call-silent v preds t b (Node.Call p first) name args gs e s k es silent reads kind = absurd silent
call-silent v preds t b (Node.Apply p first x) name args gs e s k es silent reads kind = absurd silent
call-silent v preds t b (Node.Value operand) name args gs e s k es silent reads kind = absurd silent
call-silent v preds t b (Node.CallTerm first arity) name args gs e s k es silent reads kind = absurd silent
call-silent v preds t b (Node.BuiltIn built n first arity) name args gs e s k es silent reads kind =
    let it : call (slice_index_or t.names n []) (operand_trees t first arity) ≡ call name args = cc in
    let does = effect-there (slice_index_or t.names n []) arity built (operand_trees t first arity) e s (args-count t first arity reads.0.0) reads.1 in
    (_, sym (ap (λ g. goal_step v preds g e s (with_rest gs k es)) it) ∙ effect-comes-to v preds (slice_index_or t.names n []) (operand_trees t first arity) does.0 gs e s k es (built-effect (slice_index_or t.names n []) (evaluated_all (trees_of (operand_trees t first arity)) e s).trees (evaluated_all (trees_of (operand_trees t first arity)) e s).state does.0 does.1))
call-silent v preds t b (Node.BuiltInValue built n first arity slot) name args gs e s k es silent reads kind = absurd cc
call-silent v preds t b (Node.Constrain c n first arity) name args gs e s k es silent reads kind =
    let it : call (slice_index_or t.names n []) (operand_trees t first arity) ≡ call name args = cc in
    let does = goal-there (slice_index_or t.names n []) arity (operand_trees t first arity) e s (args-count t first arity reads.0.0) reads.1.known in
    (_, sym (ap (λ g. goal_step v preds g e s (with_rest gs k es)) it) ∙ effect-comes-to v preds (slice_index_or t.names n []) (operand_trees t first arity) does.0 gs e s k es does.1)
call-silent v preds t b (Node.DomainValue f n first arity slot) name args gs e s k es silent reads kind = absurd cc
call-silent v preds t b (Node.Solve n first arity) name args gs e s k es silent reads kind =
    let it : call (slice_index_or t.names n []) (operand_trees t first arity) ≡ call name args = cc in
    let many = all-many (operand_trees t first arity) e s arity (args-count t first arity reads.0.0) in
    let labels = subst (λ m. is_solve (slice_index_or t.names n []) m ≡ true) (sym many) reads.1 in
    (_, sym (ap (λ g. goal_step v preds g e s (with_rest gs k es)) it) ∙ solve-comes-to v preds (slice_index_or t.names n []) (operand_trees t first arity) gs e s k es labels)

apply-silent : (v : View) (preds : List PredTree) (t : Tables) (b : Block) (n : Node) (name : List ℕ) (args : List Tree) (into : ℕ) (gs : GoalTrees) (e : Places) (s : State) (k : List Frame) (es : List EntryData) → IsSilent n → NodeIsReadable t b n → node_kind t n ≡ GoalKind.Apply name args into →
    StepsSilently v preds (apply name args into) gs e s k es
unfolding node_kind
apply-silent v preds t b Node.True name args into gs e s k es silent reads kind = absurd cc
apply-silent v preds t b Node.Fail name args into gs e s k es silent reads kind = absurd cc
apply-silent v preds t b Node.Tick name args into gs e s k es silent reads kind = absurd silent
apply-silent v preds t b (Node.Seq n) name args into gs e s k es silent reads kind = absurd cc
apply-silent v preds t b (Node.Alt n) name args into gs e s k es silent reads kind = absurd cc
apply-silent v preds t b Node.If name args into gs e s k es silent reads kind = absurd cc
apply-silent v preds t b Node.Not name args into gs e s k es silent reads kind = absurd cc
apply-silent v preds t b Node.Once name args into gs e s k es silent reads kind = absurd cc
apply-silent v preds t b (Node.Collect value x) name args into gs e s k es silent reads kind = absurd cc
apply-silent v preds t b (Node.Count x) name args into gs e s k es silent reads kind = absurd cc
apply-silent v preds t b (Node.Catch ball) name args into gs e s k es silent reads kind = absurd cc
apply-silent v preds t b (Node.Unify left right) name args into gs e s k es silent reads kind = absurd cc
apply-silent v preds t b (Node.Throw ball) name args into gs e s k es silent reads kind = absurd cc
apply-silent v preds t b (Node.Call p first) name args into gs e s k es silent reads kind = absurd silent
apply-silent v preds t b (Node.Apply p first x) name args into gs e s k es silent reads kind = absurd silent
apply-silent v preds t b (Node.Value operand) name args into gs e s k es silent reads kind = absurd silent
apply-silent v preds t b (Node.CallTerm first arity) name args into gs e s k es silent reads kind = absurd silent
apply-silent v preds t b (Node.BuiltIn built n first arity) name args into gs e s k es silent reads kind = absurd cc
apply-silent v preds t b (Node.BuiltInValue built n first arity slot) name args into gs e s k es silent reads kind =
    let it : apply (slice_index_or t.names n []) (operand_trees t first arity) slot ≡ apply name args into = cc in
    let does = value-there (slice_index_or t.names n []) arity built (operand_trees t first arity) e s (args-count t first arity reads.0.0) reads.1 in
    (_, sym (ap (λ g. goal_step v preds g e s (with_rest gs k es)) it) ∙ value-comes-to v preds (slice_index_or t.names n []) (operand_trees t first arity) slot does.0 gs e s k es (built-value (slice_index_or t.names n []) (evaluated_all (trees_of (operand_trees t first arity)) e s).trees (evaluated_all (trees_of (operand_trees t first arity)) e s).state does.0 does.1))
apply-silent v preds t b (Node.Constrain c n first arity) name args into gs e s k es silent reads kind = absurd cc
apply-silent v preds t b (Node.Solve n first arity) name args into gs e s k es silent reads kind = absurd cc
apply-silent v preds t b (Node.DomainValue f n first arity slot) name args into gs e s k es silent reads kind =
    let it : apply (slice_index_or t.names n []) (operand_trees t first arity) slot ≡ apply name args into = cc in
    let does = domain-there (slice_index_or t.names n []) arity (operand_trees t first arity) e s (args-count t first arity reads.0.0) (domain-known (slice_index_or t.names n []) arity f reads.1) in
    (_, sym (ap (λ g. goal_step v preds g e s (with_rest gs k es)) it) ∙ value-comes-to v preds (slice_index_or t.names n []) (operand_trees t first arity) slot does.0 gs e s k es does.1)

pub silent-step : (v : View) (preds : List PredTree) (t : Tables) (b : Block) (n : Node) (g : GoalTree) (gs : GoalTrees) (e : Places) (s : State) (k : List Frame) (es : List EntryData) → IsSilent n → NodeIsReadable t b n → node_kind t n ≡ kind_of g → StepsSilently v preds g gs e s k es
unfolding kind_of goal_step
silent-step v preds t b n truth gs e s k es silent reads kind = (_, refl)
silent-step v preds t b n fail gs e s k es silent reads kind = (_, refl)
silent-step v preds t b n tick gs e s k es silent reads kind = no-silent t n GoalKind.Tick _ silent kind refl
silent-step v preds t b n (call name args) gs e s k es silent reads kind = call-silent v preds t b n name args gs e s k es silent reads kind
silent-step v preds t b n (apply name args into) gs e s k es silent reads kind = apply-silent v preds t b n name args into gs e s k es silent reads kind
silent-step v preds t b n (seq hs) gs e s k es silent reads kind = (_, refl)
silent-step v preds t b n (alternatives hs) gs e s k es silent reads kind = (_, refl)
silent-step v preds t b n (if_else test g other) gs e s k es silent reads kind = (_, refl)
silent-step v preds t b n (not g) gs e s k es silent reads kind = (_, refl)
silent-step v preds t b n (once g) gs e s k es silent reads kind = (_, refl)
silent-step v preds t b n (collect g value into) gs e s k es silent reads kind = (_, refl)
silent-step v preds t b n (count g into) gs e s k es silent reads kind = (_, refl)
silent-step v preds t b n (catch g ball handler) gs e s k es silent reads kind = (_, refl)
