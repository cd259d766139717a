use Rattle.std.proofs.Common.{sym, []}
use Rattle.pi_terms.specs.Tree.{args}
use Rattle.pi_constraints.specs.State.{bindings, IsState}
use Rattle.pi_unify.specs.Refs.{IsRef, term_of, root_of}
use Rattle.pi_unify.specs.Ahead.{term_and, args_on, AreArgs}
use Rattle.pi_unify.specs.Answers.{TakesArg, LooksFor}
use Rattle.pi_unify.proofs.RootLemmas.{shown_other}
use Rattle.pi_unify.proofs.BindLemmas.{if_ok}
use Rattle.pi_unify.proofs.OccursLemmas.{ground_holds_none, variable_found, variable_not_found, looked_past, looked_inside, constant_holds_none, compound_root, args_put, no_args_shown}
use Rattle.pi_unify.proofs.occurs.look_for.Goals as goal

pub returns-then-is_ground : goal.returns-then-is_ground
returns-then-is_ground g c =
    let v = g.S.StateStore.seen c.args.s.now in
    let fs = c.args.ahead.now.items in
    let gs = c.next_arg.new.ahead.items in
    let r = c.args.at in
    if_ok c.next_arg.result (λ look. IsState v.now.state → AreArgs v fs → TakesArg v fs look gs) (λ look. IsState v.now.state → IsRef v r → AreArgs v fs → LooksFor v c.args.v (term_and v r fs) look gs) c.next_arg.ensures
    (λ look takes is ref all.
    let ground = (c.is_ground.ensures (term_of v r) ref.is).0 c.if-is_ground.true in
    looked_past v c.args.v r fs gs look (ground_holds_none (bindings v.now.state) c.args.v (term_of v r) ground) (takes is all))

pub returns-then-n-v : goal.returns-then-n-v
returns-then-n-v g c = λ is ref all.
    let v = g.S.StateStore.seen c.args.s.now in
    let r = c.args.at in
    let root = c.in-Var.ensures.shows (term_of v r) ref.is is.acyclic in
    variable_found v r c.in-Var.n c.args.v (args_on v c.args.ahead.now.items []) is ref root c.if-n-v.true

pub returns-else-n-v : goal.returns-else-n-v
returns-else-n-v g c =
    let v = g.S.StateStore.seen c.args.s.now in
    let r = c.args.at in
    let fs = c.args.ahead.now.items in
    let gs = c.next_arg-in-Var.new.ahead.items in
    if_ok c.next_arg-in-Var.result (λ look. IsState v.now.state → AreArgs v fs → TakesArg v fs look gs) (λ look. IsState v.now.state → IsRef v r → AreArgs v fs → LooksFor v c.args.v (term_and v r fs) look gs) c.next_arg-in-Var.ensures
    (λ look takes is ref all.
    let root = c.in-Var.ensures.shows (term_of v r) ref.is is.acyclic in
    looked_past v c.args.v r fs gs look (variable_not_found v r c.in-Var.n c.args.v is ref root c.if-n-v.false) (takes is all))

pub returns-in_ok-leave_all-in-Comp : goal.returns-in_ok-leave_all-in-Comp
returns-in_ok-leave_all-in-Comp g c =
    let v = g.S.StateStore.seen c.args.s.now in
    let r = c.args.at in
    let fs = c.args.ahead.now.items in
    let hs = c.leave_all.new.rests.items in
    let gs = c.next_arg-in-Comp.new.ahead.items in
    if_ok c.next_arg-in-Comp.result (λ look. IsState v.now.state → AreArgs v hs → TakesArg v hs look gs) (λ look. IsState v.now.state → IsRef v r → AreArgs v fs → LooksFor v c.args.v (term_and v r fs) look gs) c.next_arg-in-Comp.ensures
    (λ look takes is ref all.
    let root = c.in-Comp.ensures.shows (term_of v r) ref.is is.acyclic in
    let here = args_put v r c.in-Comp.count fs hs ref (sym root.3) all c.in_ok-leave_all-in-Comp.ensures in
    looked_inside v c.args.v r fs hs gs look is (compound_root (root_of v r) root.0 (args (root_of v r)) root.2) here.1 (takes is here.0))

pub returns-in_default : goal.returns-in_default
returns-in_default g c =
    let v = g.S.StateStore.seen c.args.s.now in
    let r = c.args.at in
    let fs = c.args.ahead.now.items in
    let gs = c.next_arg-in_default.new.ahead.items in
    if_ok c.next_arg-in_default.result (λ look. IsState v.now.state → AreArgs v fs → TakesArg v fs look gs) (λ look. IsState v.now.state → IsRef v r → AreArgs v fs → LooksFor v c.args.v (term_and v r fs) look gs) c.next_arg-in_default.ensures
    (λ look takes is ref all.
    let shows = c.look.ensures.shows (term_of v r) ref.is is.acyclic in
    let other = shown_other v (root_of v r) c.look.result c.in_default.not-Var shows in
    let none = no_args_shown v (root_of v r) c.look.result c.in_default.not-Var c.in_default.not-Comp shows in
    looked_past v c.args.v r fs gs look (constant_holds_none v c.args.v r is other none) (takes is all))
