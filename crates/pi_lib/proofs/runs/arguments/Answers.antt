use Rattle.std.proofs.Common.{◌<◌, suc, sym, subst, add-one, arith}
use Rattle.pi_terms.specs.Tree.{args, tree_count}
use Rattle.pi_terms.specs.TermCells.{take_trees}
use Rattle.pi_terms.proofs.TermLemmas.{TreeAt, tree_at-below}
use Rattle.pi_constraints.specs.State.{bindings, followed}
use Rattle.pi_constraints.specs.Store.{AreTerms}
use Rattle.pi_lib.proofs.RunLemmas.{terms-none, terms-more, terms-all}
use Rattle.pi_lib.proofs.runs.arguments.Goals as goal

pub loop-i-init : goal.loop-i-init
loop-i-init g c = λ t a is many.
    let v = g.S.StateStore.seen c.args.s.now in
    terms-none v (args (followed (bindings v.now.state) t)) c.new-found.result.items c.new-found.ensures.items

pub loop-i-preserved : goal.loop-i-preserved
loop-i-preserved g c = λ t a is many.
    let v = g.S.StateStore.seen c.args.s.now in
    let ts = args (followed (bindings v.now.state) t) in
    let within : c.loop-i.i < tree_count ts = omega (arith, c.loop-i-test.true, many) in
    let at : TreeAt ts c.loop-i.i = tree_at-below ts c.loop-i.i within in
    let more = terms-more v c.loop-i.i ts c.loop-i.found.items c.arg.result at.it at.is (c.arg.ensures t at.it is a at.is) (c.loop-i.invariant t a is many) in
    subst (λ n. AreTerms v c.push.new.self.items (take_trees n ts)) (sym (add-one c.loop-i.i)) (subst (λ rs. AreTerms v rs (take_trees (suc c.loop-i.i) ts)) (sym c.in_ok-push.ensures.items) more)

pub returns : goal.returns
returns g c = λ t a is many.
    let v = g.S.StateStore.seen c.args.s.now in
    let ts = args (followed (bindings v.now.state) t) in
    terms-all v c.loop-i.i ts c.loop-i.found.items (omega (arith, many, c.loop-i-test.false, c.loop-i.auto)) (c.loop-i.invariant t a is many)
