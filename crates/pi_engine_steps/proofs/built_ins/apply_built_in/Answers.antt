use Rattle.std.proofs.Common.{◌≡◌, ◌∙◌, ◌^◌, ◌+◌, ◌<◌, Some, Ok, Err, refl, sym, ap, subst, length, arith}
use Rattle.pi_effects.specs.Effect.{Gives}
use Rattle.pi_effects.proofs.BuiltInLemmas.{functions-make}
use Rattle.pi_engine_stands.proofs.ConstraintNames.{built-value}
use Rattle.std.specs.Prelude.{slice_index_or}
use Rattle.pi_terms.specs.Tree.{trees_of}
use Rattle.pi_constraints.specs.Evaluation.{evaluated_all}
use Rattle.pi_engine_stands.specs.Rests.{Rests}
use Rattle.pi_constraints.specs.Store.{AreTerms}
use Rattle.pi_effects.specs.BuiltIns.{built_in_function}
use Rattle.pi_effects.specs.Results.{ShowsEffect}
use Rattle.pi_lib_builtin.specs.Names.{function_name, function_arity}
use Rattle.pi_engine_code.specs.declared.code.Node.{Node}
use Rattle.pi_engine_code.specs.Code.{tables_of, operand_trees, node_kind}
use Rattle.pi_engine_arenas.specs.Arenas.{view_of, between}
use Rattle.pi_engine_arenas.specs.Frames.{slot_number}
use Rattle.pi_engine_stands.specs.Here.{AreReadable}
use Rattle.pi_engine_stands.specs.Stands.{tables_in, world}
use Rattle.pi_engine_stands.specs.Evaluates.{EvaluatesAll}
use Rattle.pi_engine_stands.proofs.FramesStand.{going-of, going-size}
use Rattle.pi_engine_stands.proofs.CallRuns.{args-count}
use Rattle.pi_engine_stands.proofs.EqualStands.{first-slot-of, node-readable}
use Rattle.pi_engine_stands.proofs.BuiltInStands.{all-many, value-there, value-step, refusal-step}
use Rattle.pi_lib.proofs.RunLemmas.{terms-count, value-raised}
use Rattle.pi_engine_steps.proofs.built_ins.apply_built_in.Goals as goal
use Rattle.pi_engine_stands.proofs.RestLemmas.{evaluated-all-rests}

pub returns-in_ok-set-in-Ok : goal.returns-in_ok-set-in-Ok
unfolding node_kind
returns-in_ok-set-in-Ok g c = λ name node l is_code view goal gs e k es at stands.
    let v = g.S.StateStore.seen c.args.run.now.store in
    let v1 = g.S.StateStore.seen c.take_arguments.new.run.store in
    let v2 = g.S.StateStore.seen c.call_function.new.s in
    let a = view_of c.args.run.now.arenas in
    let a1 = view_of c.take_arguments.new.run.arenas in
    let w = world l v g.S.StateStore.order a in
    let p = c.args.point in
    let s = c.args.step in
    let f = c.args.function in
    let T = tables_in l in
    let is = going-of w p _ e v.now.state k stands.runs in
    let b = is.block in
    let first = c.args.operands in
    let count = c.args.count in
    let args = operand_trees T first count in
    let all = evaluated_all (trees_of args) e v.now.state in
    let word = slice_index_or T.names name _ in
    let rs = c.take_arguments.new.run.terms.items in
    let tables : T ≡ tables_of l.terms c.args.code.now = ap (tables_of l.terms) is_code in
    let readable = node-readable w p s goal gs e k (Node.BuiltInValue f name first count c.args.into) at is node in
    let begins : c.first_slot-first.result ≡ slot_number b.base b.first = first-slot-of w p s goal gs e k c.first_slot-first.result at is c.first_slot-first.ensures in
    let evaluates : EvaluatesAll b (between v v1 a a1) all rs =
    subst (λ t. EvaluatesAll b (between v v1 a a1) (evaluated_all (trees_of (operand_trees t first count)) e v.now.state) rs) (sym tables)
    (c.in_ok-take_arguments.ensures.ok l.terms b e begins (subst (λ t. AreReadable t b first count) tables readable.0) stands.entries.tables is.behind.slots) in
    let state : Rests v1.now.state = subst Rests (sym evaluates.writes.state) (evaluated-all-rests (trees_of args) e v.now.state stands.entries.state) in
    let many : length args ≡ count = args-count T first count readable.0.0 in
    let does = value-there word count f args e v.now.state many readable.1 in
    let terms : AreTerms v1 c.deref.result.now all.trees = subst (λ qs. AreTerms v1 qs all.trees) (sym c.deref.ensures.value) evaluates.terms in
    let long : length c.deref.result.now ≡ function_arity f = ap length c.deref.ensures.value ∙ terms-count v1 rs all.trees evaluates.terms ∙ all-many args e v.now.state count many ∙ sym readable.1.takes in
    let done : built_in_function (function_name f) all.trees v1.now.state ≡ Some does.0 =
    ap (λ x. built_in_function (function_name f) all.trees x) evaluates.writes.state ∙ sym (readable.1.same all.trees all.state (all-many args e v.now.state count many)) ∙ does.1 in
    let shows : ShowsEffect v1 v2 (Ok c.in-Ok.made) does.0 = subst (λ r. ShowsEffect v1 v2 r does.0) c.in-Ok.is (c.call_function.ensures.shows all.trees does.0 state.calm.state.acyclic terms long done) in
    let size = going-size w p s goal gs e k at is in
    let fit : p.place + s.size < 2 ^ 32 = omega (arith, size.0, size.1) in
    value-step w v1 v2 a1 c.set.new.self p c.behind.result s (Node.BuiltInValue f name first count c.args.into) name first count c.args.into c.first_slot-first.result c.slot_at.result rs c.in-Ok.made shows.0 shows.1 view goal gs e k es node refl at stands evaluates (built-value word all.trees all.state (Gives shows.0 shows.1) (does.1 ∙ ap Some shows.2)) (functions-make word all.trees all.state (Gives shows.0 shows.1) (does.1 ∙ ap Some shows.2)) shows.3 readable.2 begins
    c.slot_at.ensures c.in_ok-set-in-Ok.ensures.ok c.in_ok-set-in-Ok.ensures.kept c.in_ok-set-in-Ok.ensures.keeps c.in_ok-set-in-Ok.ensures.most (c.behind.ensures fit)

pub returns-in_ok-ball-in-Err : goal.returns-in_ok-ball-in-Err
unfolding node_kind
returns-in_ok-ball-in-Err g c = λ name node l is_code view goal gs e k es at stands.
    let v = g.S.StateStore.seen c.args.run.now.store in
    let v1 = g.S.StateStore.seen c.take_arguments.new.run.store in
    let v2 = g.S.StateStore.seen c.call_function.new.s in
    let a = view_of c.args.run.now.arenas in
    let a1 = view_of c.take_arguments.new.run.arenas in
    let w = world l v g.S.StateStore.order a in
    let p = c.args.point in
    let s = c.args.step in
    let f = c.args.function in
    let T = tables_in l in
    let is = going-of w p _ e v.now.state k stands.runs in
    let b = is.block in
    let first = c.args.operands in
    let count = c.args.count in
    let args = operand_trees T first count in
    let all = evaluated_all (trees_of args) e v.now.state in
    let word = slice_index_or T.names name _ in
    let rs = c.take_arguments.new.run.terms.items in
    let tables : T ≡ tables_of l.terms c.args.code.now = ap (tables_of l.terms) is_code in
    let readable = node-readable w p s goal gs e k (Node.BuiltInValue f name first count c.args.into) at is node in
    let begins : c.first_slot-first.result ≡ slot_number b.base b.first = first-slot-of w p s goal gs e k c.first_slot-first.result at is c.first_slot-first.ensures in
    let evaluates : EvaluatesAll b (between v v1 a a1) all rs =
    subst (λ t. EvaluatesAll b (between v v1 a a1) (evaluated_all (trees_of (operand_trees t first count)) e v.now.state) rs) (sym tables)
    (c.in_ok-take_arguments.ensures.ok l.terms b e begins (subst (λ t. AreReadable t b first count) tables readable.0) stands.entries.tables is.behind.slots) in
    let state : Rests v1.now.state = subst Rests (sym evaluates.writes.state) (evaluated-all-rests (trees_of args) e v.now.state stands.entries.state) in
    let many : length args ≡ count = args-count T first count readable.0.0 in
    let does = value-there word count f args e v.now.state many readable.1 in
    let terms : AreTerms v1 c.deref.result.now all.trees = subst (λ qs. AreTerms v1 qs all.trees) (sym c.deref.ensures.value) evaluates.terms in
    let long : length c.deref.result.now ≡ function_arity f = ap length c.deref.ensures.value ∙ terms-count v1 rs all.trees evaluates.terms ∙ all-many args e v.now.state count many ∙ sym readable.1.takes in
    let done : built_in_function (function_name f) all.trees v1.now.state ≡ Some does.0 =
    ap (λ x. built_in_function (function_name f) all.trees x) evaluates.writes.state ∙ sym (readable.1.same all.trees all.state (all-many args e v.now.state count many)) ∙ does.1 in
    let shows : ShowsEffect v1 v2 (Err c.in-Err.stop) does.0 = subst (λ r. ShowsEffect v1 v2 r does.0) c.in-Err.is (c.call_function.ensures.shows all.trees does.0 state.calm.state.acyclic terms long done) in
    let told = value-raised v1 v2 c.in-Err.stop does.0 c.in_ok-ball-in-Err.ball state.calm.state.acyclic shows c.in_ok-ball-in-Err.ensures in
    refusal-step w v1 v2 a1 p s (Node.BuiltInValue f name first count c.args.into) name first count c.args.into rs c.in_ok-ball-in-Err.ball view goal gs e k es node refl at stands evaluates told.1 (built-value word all.trees all.state _ (does.1 ∙ ap Some told.0))
