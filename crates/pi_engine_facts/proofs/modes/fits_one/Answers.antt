use Rattle.std.proofs.Common.{◌∙◌, sym, ap, rules}
use Rattle.pi_constraints.specs.State.{bindings}
use Rattle.pi_meaning.specs.CoreMeaning.Facts.{fits_modes}
use Rattle.pi_engine_facts.proofs.ModeLemmas.{no-list, list-fits, list-not, no-list_fits}
use Rattle.pi_engine_facts.proofs.modes.fits_one.Goals as goal

pub loop-i-init : goal.loop-i-init
loop-i-init g c = λ ts acyclic are. no-list (λ modes. fits_modes (bindings (g.S.StateStore.seen c.args.s.now).now.state) modes ts) c.args.lists.now

pub returns-then-branch : goal.returns-then-branch
returns-then-branch g c = λ ts acyclic are.
    let b = bindings (g.S.StateStore.seen c.args.s.now).now.state in
    list-fits (λ modes. fits_modes b modes ts) c.args.lists.now c.loop-i.i c.index-lists-i.result c.loop-i-test.true c.index-lists-i.is
    (sym c.if-branch.true ∙ c.in_ok-fits.ensures ts acyclic are ∙ ap (λ ms. fits_modes b ms ts) (search rules)) (c.loop-i.invariant ts acyclic are)

pub loop-i-preserved : goal.loop-i-preserved
loop-i-preserved g c = λ ts acyclic are.
    let b = bindings (g.S.StateStore.seen c.args.s.now).now.state in
    list-not (λ modes. fits_modes b modes ts) c.args.lists.now c.loop-i.i c.index-lists-i.result c.loop-i-test.true c.index-lists-i.is
    (sym c.if-branch.false ∙ c.in_ok-fits.ensures ts acyclic are ∙ ap (λ ms. fits_modes b ms ts) (search rules)) (c.loop-i.invariant ts acyclic are)

pub returns : goal.returns
returns g c = λ ts acyclic are. no-list_fits (λ modes. fits_modes (bindings (g.S.StateStore.seen c.args.s.now).now.state) modes ts) c.args.lists.now c.loop-i.i c.loop-i-test.false (c.loop-i.invariant ts acyclic are)
