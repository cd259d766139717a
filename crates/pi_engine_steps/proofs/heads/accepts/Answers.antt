use Rattle.pi_engine_stands.proofs.HeadsMatch.{asks-int, asks-atom, asks-slot}
use Rattle.std.proofs.Common.{rules, ◌≡◌, ◌∙◌, ap, subst}
use Rattle.pi_unify.specs.Matching.{is_int_in}
use Rattle.pi_unify.proofs.MatchingLemmas.{if_ok}
use Rattle.pi_engine_arenas.specs.Frames.{slot_number}
use Rattle.pi_engine_code.specs.LaidRules.{IsTestOf}
use Rattle.pi_engine_steps.proofs.heads.accepts.Goals as goal

pub returns-in-Int : goal.returns-in-Int
returns-in-Int g c = λ b p t e at slots test deep term.
    let v = g.S.StateStore.seen c.args.store.now in
    let asked : c.is_int.result ≡ is_int_in c.in-Int.n c.look.result = search rules in
    asks-int v c.args.blocks.now b p t e c.in-Int.n c.look.result c.is_int.result slots (subst (IsTestOf v.names p) c.in-Int.is test) asked (c.look.ensures.shows t term slots.state.acyclic)

pub returns-in-Atom : goal.returns-in-Atom
returns-in-Atom g c = λ b p t e at slots test deep term.
    let v = g.S.StateStore.seen c.args.store.now in
    asks-atom v c.args.blocks.now b p t e c.in-Atom.k c.look-in-Atom.result c.is_atom.result slots (subst (IsTestOf v.names p) c.in-Atom.is test) c.is_atom.ensures c.look-in-Atom.ensures.distinct (c.look-in-Atom.ensures.shows t term slots.state.acyclic)

pub returns-in-Slot : goal.returns-in-Slot
returns-in-Slot g c =
    let v = g.S.StateStore.seen c.args.store.now in
    if_ok c.fill.result _ _
    (λ found told. λ b p t e at slots test deep term.
    asks-slot v c.args.blocks.now c.fill.new.blocks b p t e c.in-Slot.k found (subst (IsTestOf v.names p) c.in-Slot.is test)
    (told b c.in-Slot.k t e (c.slot_at.ensures ∙ ap (λ n. slot_number n c.in-Slot.k) at) slots term))
    c.fill.ensures
