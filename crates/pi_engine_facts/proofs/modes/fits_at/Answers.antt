use Rattle.std.proofs.Common.{◌∙◌, sym}
use Rattle.pi_constraints.specs.State.{bindings}
use Rattle.pi_terms.specs.Tree.{drop_trees}
use Rattle.pi_engine_facts.proofs.ModeLemmas.{place-past, place-none, place-any, place-closed, ok-same}
use Rattle.pi_engine_facts.proofs.modes.fits_at.Goals as goal

pub returns-in_default : goal.returns-in_default
returns-in_default g c = λ ts m acyclic are at.
    let v = g.S.StateStore.seen c.args.s.now in
    place-past v (bindings v.now.state) m c.args.args.now ts c.args.place are (sym c.arg_at.ensures ∙ c.in_default.is)

pub returns-in_default-mode_at : goal.returns-in_default-mode_at
returns-in_default-mode_at g c = λ ts m acyclic are at. place-none c.args.modes.now c.args.place m (sym c.mode_at.ensures ∙ c.in_default-mode_at.is) at

pub returns-in-Minus : goal.returns-in-Minus
returns-in-Minus g c = λ ts m acyclic are at.
    let v = g.S.StateStore.seen c.args.s.now in
    place-any (bindings v.now.state) c.args.modes.now c.args.place m c.in-Some-mode_at.mode (drop_trees c.args.place ts) (sym c.mode_at.ensures ∙ c.in-Some-mode_at.is) c.in-Minus.is at

pub returns-in-Ok : goal.returns-in-Ok
returns-in-Ok g c = λ ts m acyclic are at.
    let v = g.S.StateStore.seen c.args.s.now in
    place-closed v (bindings v.now.state) c.args.modes.now m c.in-Some-mode_at.mode c.args.args.now ts c.args.place c.in-Some.arg c.in-Ok.closed (sym c.mode_at.ensures ∙ c.in-Some-mode_at.is) c.in-Plus.is at are (sym c.arg_at.ensures ∙ c.in-Some.is)
    (λ t is. ok-same _ _ (c.in-Ok.ensures t acyclic is))
