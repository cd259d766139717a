use Rattle.std.proofs.Common.{◌∙◌, sym}
use Rattle.pi_constraints.specs.State.{bindings}
use Rattle.pi_engine_facts.proofs.ModeLemmas.{fits-none, fits-more, fits-not, fits-all}
use Rattle.pi_engine_facts.proofs.modes.fits.Goals as goal

pub loop-i-init : goal.loop-i-init
loop-i-init g c = λ ts acyclic are. fits-none (bindings (g.S.StateStore.seen c.args.s.now).now.state) c.args.modes.now ts

pub returns-then-not-branch : goal.returns-then-not-branch
returns-then-not-branch g c = λ ts acyclic are.
    fits-not (bindings (g.S.StateStore.seen c.args.s.now).now.state) c.args.modes.now ts c.loop-i.i c.loop-i-test.true (λ m at. sym c.if-not-branch.true ∙ c.in_ok-fits_at.ensures ts m acyclic are at) (c.loop-i.invariant ts acyclic are)

pub loop-i-preserved : goal.loop-i-preserved
loop-i-preserved g c = λ ts acyclic are.
    fits-more (bindings (g.S.StateStore.seen c.args.s.now).now.state) c.args.modes.now ts c.loop-i.i c.loop-i-test.true (λ m at. sym c.if-not-branch.false ∙ c.in_ok-fits_at.ensures ts m acyclic are at) (c.loop-i.invariant ts acyclic are)

pub returns : goal.returns
returns g c = λ ts acyclic are. fits-all (bindings (g.S.StateStore.seen c.args.s.now).now.state) c.args.modes.now ts c.loop-i.i c.loop-i-test.false (c.loop-i.invariant ts acyclic are)
