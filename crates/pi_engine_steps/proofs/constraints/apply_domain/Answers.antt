use Rattle.std.proofs.Common.{◌≡◌, ◌∙◌, ◌^◌, ◌+◌, ◌<◌, true, Some, Ok, Err, refl, sym, ap, subst, length, arith}
use Rattle.std.specs.Prelude.{slice_index_or}
use Rattle.pi_terms.specs.Tree.{trees_of, tree_count, tree, no_trees}
use Rattle.pi_constraints.specs.Evaluation.{evaluated_all}
use Rattle.pi_constraints.specs.Store.{AreTerms}
use Rattle.pi_effects.specs.Effect.{Gives}
use Rattle.pi_effects.specs.Results.{ShowsEffect}
use Rattle.pi_settling.specs.DomainValues.{domain_function, is_domain_function}
use Rattle.pi_lib.proofs.RunLemmas.{value-raised, terms-count}
use Rattle.pi_lib_constraints.specs.Functions.{function_name}
use Rattle.pi_engine_code.specs.declared.code.Node.{Node}
use Rattle.pi_engine_code.specs.Code.{tables_of, operand_trees, node_kind}
use Rattle.pi_engine_arenas.specs.Arenas.{view_of, between}
use Rattle.pi_engine_arenas.specs.Frames.{slot_number}
use Rattle.pi_engine_stands.specs.Here.{AreReadable}
use Rattle.pi_engine_stands.specs.Rests.{Rests}
use Rattle.pi_engine_stands.specs.Stands.{tables_in, world}
use Rattle.pi_engine_stands.specs.Evaluates.{EvaluatesAll}
use Rattle.pi_engine_stands.proofs.FramesStand.{going-of, going-size}
use Rattle.pi_engine_stands.proofs.CallRuns.{args-count}
use Rattle.pi_engine_stands.proofs.EqualStands.{first-slot-of, node-readable}
use Rattle.pi_engine_stands.proofs.RestLemmas.{evaluated-all-rests}
use Rattle.pi_engine_stands.proofs.ConstraintNames.{domain-known, domain-effect, domains-make}
use Rattle.pi_engine_stands.proofs.BuiltInStands.{all-many, domain-there, value-step, refusal-step}
use Rattle.pi_engine_steps.proofs.GoalsLeave.{OneTerm, one-term}
use Rattle.pi_engine_steps.proofs.constraints.apply_domain.Goals as goal

pub returns-in_ok-set-in-Ok : goal.returns-in_ok-set-in-Ok
unfolding node_kind
returns-in_ok-set-in-Ok g c = λ name node l is_code view goal gs e k es at stands.
    let v = g.S.StateStore.seen c.args.run.now.store in
    let v1 = g.S.StateStore.seen c.take_arguments.new.run.store in
    let v2 = g.S.StateStore.seen c.call_domain_function.new.s in
    let a = view_of c.args.run.now.arenas in
    let a1 = view_of c.take_arguments.new.run.arenas in
    let w = world l v g.S.StateStore.order a in
    let p = c.args.point in
    let s = c.args.step in
    let f = c.args.function in
    let T = tables_in l in
    let is = going-of w p _ e v.now.state k stands.runs in
    let b = is.block in
    let first = c.args.operands in
    let count = c.args.count in
    let args = operand_trees T first count in
    let all = evaluated_all (trees_of args) e v.now.state in
    let word = slice_index_or T.names name _ in
    let rs = c.take_arguments.new.run.terms.items in
    let node_is = Node.DomainValue f name first count c.args.into in
    let tables : T ≡ tables_of l.terms c.args.code.now = ap (tables_of l.terms) is_code in
    let readable = node-readable w p s goal gs e k node_is at is node in
    let begins : c.first_slot-first.result ≡ slot_number b.base b.first = first-slot-of w p s goal gs e k c.first_slot-first.result at is c.first_slot-first.ensures in
    let evaluates : EvaluatesAll b (between v v1 a a1) all rs =
    subst (λ t. EvaluatesAll b (between v v1 a a1) (evaluated_all (trees_of (operand_trees t first count)) e v.now.state) rs) (sym tables)
    (c.in_ok-take_arguments.ensures.ok l.terms b e begins (subst (λ t. AreReadable t b first count) tables readable.0) stands.entries.tables is.behind.slots) in
    let state : Rests v1.now.state = subst Rests (sym evaluates.writes.state) (evaluated-all-rests (trees_of args) e v.now.state stands.entries.state) in
    let many : length args ≡ count = args-count T first count readable.0.0 in
    let trees : tree_count all.trees ≡ count = all-many args e v.now.state count many in
    let named = domain-known word count f readable.1 in
    let does = domain-there word count args e v.now.state many named in
    let by_name = domain-effect word all.trees all.state (subst (λ n. is_domain_function word n ≡ true) (sym trees) named) in
    let only : OneTerm v1 c.in-Some.arg all.trees = one-term v1 c.in-Some.arg all.trees (subst (λ qs. AreTerms v1 qs all.trees) (sym c.deref.ensures.value ∙ c.in-Some.ensures.some) evaluates.terms) in
    let done : domain_function (function_name f) (tree only.term no_trees) v1.now.state ≡ Some does.0 =
    ap (domain_function (function_name f) (tree only.term no_trees)) evaluates.writes.state ∙ ap (λ ts. domain_function (function_name f) ts all.state) (sym only.is) ∙ ap (λ n. domain_function n all.trees all.state) (sym readable.1.0) ∙ sym by_name ∙ does.1 in
    let shows : ShowsEffect v1 v2 (Ok c.in-Ok.made) does.0 = subst (λ r. ShowsEffect v1 v2 r does.0) c.in-Ok.is (c.call_domain_function.ensures.shows only.term does.0 state.calm.state only.at done) in
    let gives = does.1 ∙ ap Some shows.2 in
    let size = going-size w p s goal gs e k at is in
    let fit : p.place + s.size < 2 ^ 32 = omega (arith, size.0, size.1) in
    value-step w v1 v2 a1 c.set.new.self p c.behind.result s node_is name first count c.args.into c.first_slot-first.result c.slot_at.result rs c.in-Ok.made shows.0 shows.1 view goal gs e k es node refl at stands evaluates gives
    (domains-make word all.trees all.state (Gives shows.0 shows.1) (sym by_name ∙ gives)) shows.3 readable.2 begins
    c.slot_at.ensures c.in_ok-set-in-Ok.ensures.ok c.in_ok-set-in-Ok.ensures.kept c.in_ok-set-in-Ok.ensures.keeps c.in_ok-set-in-Ok.ensures.most (c.behind.ensures fit)

pub returns-in_ok-ball-in-Err : goal.returns-in_ok-ball-in-Err
unfolding node_kind
returns-in_ok-ball-in-Err g c = λ name node l is_code view goal gs e k es at stands.
    let v = g.S.StateStore.seen c.args.run.now.store in
    let v1 = g.S.StateStore.seen c.take_arguments.new.run.store in
    let v2 = g.S.StateStore.seen c.call_domain_function.new.s in
    let a = view_of c.args.run.now.arenas in
    let a1 = view_of c.take_arguments.new.run.arenas in
    let w = world l v g.S.StateStore.order a in
    let p = c.args.point in
    let s = c.args.step in
    let f = c.args.function in
    let T = tables_in l in
    let is = going-of w p _ e v.now.state k stands.runs in
    let b = is.block in
    let first = c.args.operands in
    let count = c.args.count in
    let args = operand_trees T first count in
    let all = evaluated_all (trees_of args) e v.now.state in
    let word = slice_index_or T.names name _ in
    let rs = c.take_arguments.new.run.terms.items in
    let node_is = Node.DomainValue f name first count c.args.into in
    let tables : T ≡ tables_of l.terms c.args.code.now = ap (tables_of l.terms) is_code in
    let readable = node-readable w p s goal gs e k node_is at is node in
    let begins : c.first_slot-first.result ≡ slot_number b.base b.first = first-slot-of w p s goal gs e k c.first_slot-first.result at is c.first_slot-first.ensures in
    let evaluates : EvaluatesAll b (between v v1 a a1) all rs =
    subst (λ t. EvaluatesAll b (between v v1 a a1) (evaluated_all (trees_of (operand_trees t first count)) e v.now.state) rs) (sym tables)
    (c.in_ok-take_arguments.ensures.ok l.terms b e begins (subst (λ t. AreReadable t b first count) tables readable.0) stands.entries.tables is.behind.slots) in
    let state : Rests v1.now.state = subst Rests (sym evaluates.writes.state) (evaluated-all-rests (trees_of args) e v.now.state stands.entries.state) in
    let many : length args ≡ count = args-count T first count readable.0.0 in
    let trees : tree_count all.trees ≡ count = all-many args e v.now.state count many in
    let named = domain-known word count f readable.1 in
    let does = domain-there word count args e v.now.state many named in
    let by_name = domain-effect word all.trees all.state (subst (λ n. is_domain_function word n ≡ true) (sym trees) named) in
    let only : OneTerm v1 c.in-Some.arg all.trees = one-term v1 c.in-Some.arg all.trees (subst (λ qs. AreTerms v1 qs all.trees) (sym c.deref.ensures.value ∙ c.in-Some.ensures.some) evaluates.terms) in
    let done : domain_function (function_name f) (tree only.term no_trees) v1.now.state ≡ Some does.0 =
    ap (domain_function (function_name f) (tree only.term no_trees)) evaluates.writes.state ∙ ap (λ ts. domain_function (function_name f) ts all.state) (sym only.is) ∙ ap (λ n. domain_function n all.trees all.state) (sym readable.1.0) ∙ sym by_name ∙ does.1 in
    let shows : ShowsEffect v1 v2 (Err c.in-Err.stop) does.0 = subst (λ r. ShowsEffect v1 v2 r does.0) c.in-Err.is (c.call_domain_function.ensures.shows only.term does.0 state.calm.state only.at done) in
    let told = value-raised v1 v2 c.in-Err.stop does.0 c.in_ok-ball-in-Err.ball state.calm.state.acyclic shows c.in_ok-ball-in-Err.ensures in
    refusal-step w v1 v2 a1 p s node_is name first count c.args.into rs c.in_ok-ball-in-Err.ball view goal gs e k es node refl at stands evaluates told.1 (does.1 ∙ ap Some told.0)

-- there is just one argument
pub returns-in_default : goal.returns-in_default
returns-in_default g c = λ name node l is_code view goal gs e k es at stands.
    let v = g.S.StateStore.seen c.args.run.now.store in
    let v1 = g.S.StateStore.seen c.take_arguments.new.run.store in
    let a = view_of c.args.run.now.arenas in
    let a1 = view_of c.take_arguments.new.run.arenas in
    let w = world l v g.S.StateStore.order a in
    let p = c.args.point in
    let s = c.args.step in
    let T = tables_in l in
    let is = going-of w p _ e v.now.state k stands.runs in
    let b = is.block in
    let first = c.args.operands in
    let count = c.args.count in
    let args = operand_trees T first count in
    let all = evaluated_all (trees_of args) e v.now.state in
    let rs = c.take_arguments.new.run.terms.items in
    let tables : T ≡ tables_of l.terms c.args.code.now = ap (tables_of l.terms) is_code in
    let readable = node-readable w p s goal gs e k (Node.DomainValue c.args.function name first count c.args.into) at is node in
    let begins : c.first_slot-first.result ≡ slot_number b.base b.first = first-slot-of w p s goal gs e k c.first_slot-first.result at is c.first_slot-first.ensures in
    let evaluates : EvaluatesAll b (between v v1 a a1) all rs =
    subst (λ t. EvaluatesAll b (between v v1 a a1) (evaluated_all (trees_of (operand_trees t first count)) e v.now.state) rs) (sym tables)
    (c.in_ok-take_arguments.ensures.ok l.terms b e begins (subst (λ t. AreReadable t b first count) tables readable.0) stands.entries.tables is.behind.slots) in
    let trees : tree_count all.trees ≡ count = all-many args e v.now.state count (args-count T first count readable.0.0) in
    absurd (c.in_default.ensures.none (ap length c.deref.ensures.value ∙ terms-count v1 rs all.trees evaluates.terms ∙ trees ∙ readable.1.1))
