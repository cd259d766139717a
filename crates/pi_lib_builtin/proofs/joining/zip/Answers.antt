use Rattle.std.proofs.Common.{Ok, map, sym, ◌∙◌, subst}
use Rattle.std.specs.Prelude.{zip}
use Rattle.pi_effects.specs.Items.{list_of}
use Rattle.pi_effects.specs.Collections.{list_then, pair}
use Rattle.pi_lib_builtin.specs.Items.{AreItems}
use Rattle.pi_lib_builtin.proofs.CollectionLemmas.{list-is}
use Rattle.pi_lib_builtin.proofs.joining.zip.Goals as goal

pub returns-clause-shows : goal.returns-clause-shows
returns-clause-shows g c = λ t u a one two.
    let v = g.S.StateStore.seen c.args.s.now in
    let items = c.in_ok-items.ensures t a one in
    let others = c.in_ok-others.ensures u a two in
    let ts = items.0 in
    let us = others.0 in (
      list_of (map pair (zip ts us)),
      list-is v t (λ xs. list_then v.now.state u (λ ys. Ok (list_of (map pair (zip xs ys))))) ts items.1 ∙ list-is v u (λ ys. Ok (list_of (map pair (zip ts ys)))) us others.1,
      c.in_ok-made.ensures.ok ts us (subst (λ rs. AreItems v rs ts) (sym c.deref.ensures.value) items.2) (subst (λ rs. AreItems v rs us) (sym c.deref-2.ensures.value) others.2),
    )
