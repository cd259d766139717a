use Rattle.std.proofs.Common.{◌≡◌, ◌∙◌, true, Some, sym, ap, subst}
use Rattle.std.specs.Prelude.{slice_index_or}
use Rattle.std.proofs.lemmas.Result.{IfOk-weaker}
use Rattle.pi_terms.specs.Tree.{trees_of, tree_count}
use Rattle.pi_constraints.specs.Evaluation.{evaluated_all}
use Rattle.pi_constraints.specs.Store.{AreTerms}
use Rattle.pi_settling.specs.Asked.{labels, raises}
use Rattle.pi_settling.specs.SolveCalls.{is_solve}
use Rattle.pi_lib_solve.specs.Asks.{ShowsAsked}
use Rattle.pi_engine_code.specs.declared.code.Node.{Node}
use Rattle.pi_engine_code.specs.Code.{tables_of, operand_trees}
use Rattle.pi_engine_arenas.specs.Arenas.{view_of, between}
use Rattle.pi_engine_arenas.specs.Frames.{slot_number}
use Rattle.pi_engine_stands.specs.Here.{AreReadable}
use Rattle.pi_engine_stands.specs.Rests.{Rests}
use Rattle.pi_engine_stands.specs.Stands.{tables_in, world}
use Rattle.pi_engine_stands.specs.Evaluates.{EvaluatesAll}
use Rattle.pi_engine_stands.proofs.CallRuns.{all-count}
use Rattle.pi_engine_stands.proofs.EqualStands.{first-slot-of, node-readable}
use Rattle.pi_engine_stands.proofs.FramesStand.{going-of}
use Rattle.pi_engine_stands.proofs.RestLemmas.{evaluated-all-rests}
use Rattle.pi_engine_stands.proofs.SolveFilled.{operands-filled}
use Rattle.pi_engine_stands.proofs.SolveStands.{evaluated-stands, solve-runs, raises-here}
use Rattle.pi_engine_stands.proofs.ValuesStand.{slots-of}
use Rattle.pi_engine_steps.proofs.SolveAsked.{IsAnswered, answered-so, raises-so}
use Rattle.pi_engine_steps.proofs.SolveRuns.{asked-two}
use Rattle.pi_engine_steps.proofs.solve.solve.Goals as goal

pub returns-in-Ok : goal.returns-in-Ok
returns-in-Ok g c = IfOk-weaker c.label.result _ _ (λ _ so name node l is_code view goal gs e k es at stands.
    let v = g.S.StateStore.seen c.args.run.now.store in
    let v1 = g.S.StateStore.seen c.take_arguments.new.run.store in
    let a = view_of c.args.run.now.arenas in
    let a1 = view_of c.take_arguments.new.run.arenas in
    let order = g.S.StateStore.order in
    let w = world l v order a in
    let after = world l (g.S.StateStore.seen c.label.new.run.store) order (view_of c.label.new.run.arenas) in
    let p = c.args.point in
    let s = c.args.step in
    let T = tables_in l in
    let is = going-of w p _ e v.now.state k stands.runs in
    let b = is.block in
    let first = c.args.operands in
    let count = c.args.count in
    let args = operand_trees T first count in
    let all = evaluated_all (trees_of args) e v.now.state in
    let word = slice_index_or T.names name _ in
    let rs = c.take_arguments.new.run.terms.items in
    let tables : T ≡ tables_of l.terms c.args.code.now = ap (tables_of l.terms) is_code in
    let readable = node-readable w p s goal gs e k (Node.Solve name first count) at is node in
    let begins : c.first_slot.result ≡ slot_number b.base b.first = first-slot-of w p s goal gs e k c.first_slot.result at is c.first_slot.ensures in
    let evaluates : EvaluatesAll b (between v v1 a a1) all rs =
    subst (λ t. EvaluatesAll b (between v v1 a a1) (evaluated_all (trees_of (operand_trees t first count)) e v.now.state) rs) (sym tables)
    (c.in_ok-take_arguments.ensures.ok l.terms b e begins (subst (λ t. AreReadable t b first count) tables readable.0) stands.entries.tables is.behind.slots) in
    let rests : Rests v1.now.state = subst Rests (sym evaluates.writes.state) (evaluated-all-rests (trees_of args) e v.now.state stands.entries.state) in
    let solves : is_solve word (tree_count all.trees) ≡ true = ap (is_solve word) (all-count T first count e v.now.state readable.0.0) ∙ readable.1 in
    let asked : IsAnswered v1 word all.trees c.ask.result =
    answered-so v1 word c.deref.result.now all.trees c.ask.result solves (subst (λ qs. AreTerms v1 qs all.trees) (sym c.deref.ensures.value) evaluates.terms)
    (λ vars. c.ask.ensures.plainly vars rests.calm.state.acyclic) (λ words vars. c.ask.ensures.by_options words vars rests.calm.state.acyclic) in
    let found = subst (λ r. ShowsAsked v1 r asked.asks) c.in-Ok.is asked.shows in
    let there = evaluated-stands w v1 a1 p s name first count rs goal gs e k es node at stands evaluates rests in
    let filled = operands-filled T b first count e v.now.state readable.0 (slots-of v.now.terms a.blocks.slots b e is.behind.slots) in
    solve-runs w after v1 c.label.new.run.now p s name first count (labels found.0 found.1) view goal gs e k es node at stands solves evaluates.writes.state (asked.is ∙ ap (λ x. Some x) found.2)
    (so l is_code found.0 found.1 word args all.trees gs all.slots k es at found.3 found.4 evaluates.terms
    (asked-two word all.trees v1.now.state found.0 found.1 rests.calm.state.acyclic solves (asked.is ∙ ap (λ x. Some x) found.2)) filled there)) c.label.ensures

pub returns-in_ok-ball-in-Err : goal.returns-in_ok-ball-in-Err
returns-in_ok-ball-in-Err g c = λ name node l is_code view goal gs e k es at stands.
    let v = g.S.StateStore.seen c.args.run.now.store in
    let v1 = g.S.StateStore.seen c.take_arguments.new.run.store in
    let a = view_of c.args.run.now.arenas in
    let a1 = view_of c.take_arguments.new.run.arenas in
    let order = g.S.StateStore.order in
    let w = world l v order a in
    let after = world l v1 order a1 in
    let p = c.args.point in
    let s = c.args.step in
    let T = tables_in l in
    let is = going-of w p _ e v.now.state k stands.runs in
    let b = is.block in
    let first = c.args.operands in
    let count = c.args.count in
    let args = operand_trees T first count in
    let all = evaluated_all (trees_of args) e v.now.state in
    let word = slice_index_or T.names name _ in
    let rs = c.take_arguments.new.run.terms.items in
    let ball = c.in_ok-ball-in-Err.ball in
    let tables : T ≡ tables_of l.terms c.args.code.now = ap (tables_of l.terms) is_code in
    let readable = node-readable w p s goal gs e k (Node.Solve name first count) at is node in
    let begins : c.first_slot.result ≡ slot_number b.base b.first = first-slot-of w p s goal gs e k c.first_slot.result at is c.first_slot.ensures in
    let evaluates : EvaluatesAll b (between v v1 a a1) all rs =
    subst (λ t. EvaluatesAll b (between v v1 a a1) (evaluated_all (trees_of (operand_trees t first count)) e v.now.state) rs) (sym tables)
    (c.in_ok-take_arguments.ensures.ok l.terms b e begins (subst (λ t. AreReadable t b first count) tables readable.0) stands.entries.tables is.behind.slots) in
    let rests : Rests v1.now.state = subst Rests (sym evaluates.writes.state) (evaluated-all-rests (trees_of args) e v.now.state stands.entries.state) in
    let solves : is_solve word (tree_count all.trees) ≡ true = ap (is_solve word) (all-count T first count e v.now.state readable.0.0) ∙ readable.1 in
    let asked : IsAnswered v1 word all.trees c.ask.result =
    answered-so v1 word c.deref.result.now all.trees c.ask.result solves (subst (λ qs. AreTerms v1 qs all.trees) (sym c.deref.ensures.value) evaluates.terms)
    (λ vars. c.ask.ensures.plainly vars rests.calm.state.acyclic) (λ words vars. c.ask.ensures.by_options words vars rests.calm.state.acyclic) in
    let raises_it = raises-so v1 c.in-Err.stop asked.asks ball rests.calm.state.acyclic (subst (λ r. ShowsAsked v1 r asked.asks) c.in-Err.is asked.shows) c.in_ok-ball-in-Err.ensures in
    let there = evaluated-stands w v1 a1 p s name first count rs goal gs e k es node at stands evaluates rests in
    solve-runs w after v1 _ p s name first count (raises ball) view goal gs e k es node at stands solves evaluates.writes.state (asked.is ∙ ap (λ x. Some x) raises_it)
    (raises-here after p ball _ all.slots k es there)
