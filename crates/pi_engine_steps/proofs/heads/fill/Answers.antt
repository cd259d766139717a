use Rattle.pi_engine_stands.proofs.HeadsMatch.{filled-past, filled-empty, filled-held}
use Rattle.std.proofs.Common.{◌≡◌, Some, sym, ◌∙◌, ap}
use Rattle.std.specs.Prelude.{slice_get}
use Rattle.pi_engine_steps.proofs.heads.fill.Goals as goal

pub returns-in-None : goal.returns-in-None
returns-in-None g c = λ b k t e at slots term.
    filled-past (g.S.StateStore.seen c.args.store.now) c.args.blocks.now b e k c.args.slot t slots at (sym c.held.ensures.is ∙ c.in-None.is)

pub returns-in_ok-set-in-Some-None : goal.returns-in_ok-set-in-Some-None
returns-in_ok-set-in-Some-None g c = λ b k t e at slots term.
    let empty : slice_get c.args.blocks.now.slots c.args.slot ≡ Some _ = sym c.held.ensures.is ∙ c.in-Some-None.is in
    filled-empty (g.S.StateStore.seen c.args.store.now) c.args.blocks.now c.set.new.self b e k c.args.slot c.args.term t slots at c.held.ensures.most
    (empty ∙ ap Some c.in-Some-None.field-0-is) term c.in_ok-set-in-Some-None.ensures.ok c.set.ensures.keeps c.set.ensures.kept

pub returns-in_ok-compare-in-Some-Some : goal.returns-in_ok-compare-in-Some-Some
returns-in_ok-compare-in-Some-Some g c = λ b k t e at slots term.
    let held : slice_get c.args.blocks.now.slots c.args.slot ≡ Some _ = sym c.held.ensures.is ∙ c.in-Some-Some.is in
    filled-held (g.S.StateStore.seen c.args.store.now) c.args.blocks.now b e k c.args.slot c.in-Some-Some.held t c.is_eq.result c.in_ok-compare-in-Some-Some.field-0 slots at c.held.ensures.most
    (held ∙ ap Some c.in-Some-Some.field-0-is) c.is_eq.ensures (λ u is. c.in_ok-compare-in-Some-Some.ensures u t is term slots.state.acyclic)
