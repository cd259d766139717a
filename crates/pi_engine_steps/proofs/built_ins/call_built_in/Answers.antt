use Rattle.std.proofs.Common.{◌≡◌, ◌∙◌, ◌^◌, ◌+◌, ◌<◌, sym, ap, subst, length, arith}
use Rattle.std.specs.Prelude.{slice_index_or}
use Rattle.pi_terms.specs.Tree.{trees_of}
use Rattle.pi_constraints.specs.Evaluation.{evaluated_all}
use Rattle.pi_engine_stands.specs.Rests.{Rests}
use Rattle.pi_constraints.specs.Store.{AreTerms, Stays}
use Rattle.pi_effects.specs.BuiltIns.{built_in_predicate}
use Rattle.pi_lib_builtin.specs.Names.{takes, predicate_name}
use Rattle.pi_engine_code.specs.declared.code.Node.{Node}
use Rattle.pi_engine_code.specs.Code.{tables_of, operand_trees}
use Rattle.pi_engine_arenas.specs.Arenas.{view_of, between}
use Rattle.pi_engine_arenas.specs.Frames.{slot_number}
use Rattle.pi_engine_stands.specs.Here.{AreReadable}
use Rattle.pi_engine_stands.specs.Stands.{tables_in, world}
use Rattle.pi_engine_stands.specs.Evaluates.{EvaluatesAll}
use Rattle.pi_engine_stands.specs.Does.{ComesNext}
use Rattle.pi_engine_stands.proofs.FramesStand.{going-of, going-size}
use Rattle.pi_engine_stands.proofs.CallRuns.{args-count}
use Rattle.pi_engine_stands.proofs.EqualStands.{first-slot-of, node-readable}
use Rattle.pi_engine_stands.proofs.BuiltInStands.{all-many, effect-there, effect-step}
use Rattle.pi_lib.proofs.RunLemmas.{terms-count}
use Rattle.pi_engine_steps.proofs.built_ins.call_built_in.Goals as goal
use Rattle.pi_engine_stands.proofs.RestLemmas.{evaluated-all-rests}

pub returns : goal.returns
returns g c = λ name node l is_code view fits goal gs e k es at stands.
    let v = g.S.StateStore.seen c.args.run.now.store in
    let v1 = g.S.StateStore.seen c.take_arguments.new.run.store in
    let v2 = g.S.StateStore.seen c.call_predicate-outcome.new.s in
    let a = view_of c.args.run.now.arenas in
    let a1 = view_of c.take_arguments.new.run.arenas in
    let w = world l v g.S.StateStore.order a in
    let p = c.args.point in
    let s = c.args.step in
    let T = tables_in l in
    let is = going-of w p _ e v.now.state k stands.runs in
    let b = is.block in
    let first = c.args.operands in
    let count = c.args.count in
    let args = operand_trees T first count in
    let all = evaluated_all (trees_of args) e v.now.state in
    let word = slice_index_or T.names name _ in
    let rs = c.take_arguments.new.run.terms.items in
    let tables : T ≡ tables_of l.terms c.args.code.now = ap (tables_of l.terms) is_code in
    let readable = node-readable w p s goal gs e k (Node.BuiltIn c.args.predicate name first count) at is node in
    let begins : c.first_slot.result ≡ slot_number b.base b.first = first-slot-of w p s goal gs e k c.first_slot.result at is c.first_slot.ensures in
    let evaluates : EvaluatesAll b (between v v1 a a1) all rs =
    subst (λ t. EvaluatesAll b (between v v1 a a1) (evaluated_all (trees_of (operand_trees t first count)) e v.now.state) rs) (sym tables)
    (c.in_ok-take_arguments.ensures.ok l.terms b e begins (subst (λ t. AreReadable t b first count) tables readable.0) stands.entries.tables is.behind.slots) in
    let state : Rests v1.now.state = subst Rests (sym evaluates.writes.state) (evaluated-all-rests (trees_of args) e v.now.state stands.entries.state) in
    let many : length args ≡ count = args-count T first count readable.0.0 in
    let does = effect-there word count c.args.predicate args e v.now.state many readable.1 in
    let terms : AreTerms v1 c.deref.result.now all.trees = subst (λ qs. AreTerms v1 qs all.trees) (sym c.deref.ensures.value) evaluates.terms in
    let long : length c.deref.result.now ≡ count = ap length c.deref.ensures.value ∙ terms-count v1 rs all.trees evaluates.terms ∙ all-many args e v.now.state count many in
    let done : built_in_predicate (predicate_name c.args.predicate) all.trees v1.now.state ≡ _ =
    ap (λ x. built_in_predicate (predicate_name c.args.predicate) all.trees x) evaluates.writes.state ∙ sym (readable.1.0.same all.trees all.state (all-many args e v.now.state count many)) ∙ does.1 in
    let stays : Stays v1 v2 = c.call_predicate-outcome.ensures.stays readable.1.1 in
    let shows = c.call_predicate-outcome.ensures.shows all.trees does.0 state.calm.state terms (ap (takes c.args.predicate) long ∙ readable.1.0.takes) done in
    let size = going-size w p s goal gs e k at is in
    let fit : p.place + s.size < 2 ^ 32 = omega (arith, size.0, size.1) in
    let next = subst (λ q. ComesNext c.args.mode q does.0 v2.now.state c.in_ok-next.next) (c.behind.ensures fit) (c.in_ok-next.ensures v1 does.0 state.calm.state shows) in
    effect-step w v1 v2 a1 p s c.args.predicate name first count rs does.0 c.args.mode c.in_ok-next.next view goal gs e k es node at stands fits evaluates stays does.1 next
