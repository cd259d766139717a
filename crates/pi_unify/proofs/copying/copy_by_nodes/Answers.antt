use Rattle.std.proofs.Common.{◌≡◌, Ok, ap, sym, ◌∙◌, subst, true, rules}
use Rattle.pi_terms.specs.Tree.{Tree, tree, no_trees}
use Rattle.pi_terms.specs.Copy.{renamed}
use Rattle.pi_constraints.specs.Store.{IsTerm}
use Rattle.pi_unify.specs.Terms.{value_of}
use Rattle.pi_unify.specs.Copying.{ListsNodes, ShowsNodes, ShowsCopy, Makes, AreListed, values_of, forest, renumbered}
use Rattle.pi_unify.proofs.TermValues.{term_given, value_is}
use Rattle.pi_unify.proofs.KeepsLemmas.{makes_none, some_made}
use Rattle.pi_unify.proofs.CopyLemmas.{Ready, ready_to_copy, copied}
use Rattle.pi_unify.proofs.copying.copy_by_nodes.Goals as goal

pub returns-in_default-clause-makes : goal.returns-in_default-clause-makes
returns-in_default-clause-makes g c = (0, makes_none (g.S.StateStore.seen c.args.s.now))

pub returns-in_default-clause-copies : goal.returns-in_default-clause-copies
returns-in_default-clause-copies g c = λ t none is a. (0, makes_none (g.S.StateStore.seen c.args.s.now))

pub returns-then-not-are_listed-clause-makes : goal.returns-then-not-are_listed-clause-makes
returns-then-not-are_listed-clause-makes g c = (0, makes_none (g.S.StateStore.seen c.args.s.now))

pub returns-in-Ok-put_copies-clause-makes : goal.returns-in-Ok-put_copies-clause-makes
returns-in-Ok-put_copies-clause-makes g c =
    some_made (g.S.StateStore.seen c.args.s.now) (g.S.StateStore.seen c.make_variables.new.s) (g.S.StateStore.seen c.put_copies.new.s) c.len.result c.in-Ok-make_variables.ensures.ok c.put_copies.ensures.stays

pub returns-in-Err-clause-makes : goal.returns-in-Err-clause-makes
returns-in-Err-clause-makes g c =
    some_made (g.S.StateStore.seen c.args.s.now) (g.S.StateStore.seen c.make_variables.new.s) (g.S.StateStore.seen c.put_copies.new.s) c.len.result c.in-Ok-make_variables.ensures.ok c.put_copies.ensures.stays

pub returns-in-Err-clause-copies : goal.returns-in-Err-clause-copies
returns-in-Err-clause-copies g c = λ t none is a.
    some_made (g.S.StateStore.seen c.args.s.now) (g.S.StateStore.seen c.make_variables.new.s) (g.S.StateStore.seen c.put_copies.new.s) c.len.result c.in-Ok-make_variables.ensures.ok c.put_copies.ensures.stays

pub returns-in-Ok-put_copies-clause-copies : goal.returns-in-Ok-put_copies-clause-copies
returns-in-Ok-put_copies-clause-copies g c = λ t none is a.
    let v = g.S.StateStore.seen c.args.s.now in
    let w = g.S.StateStore.seen c.make_variables.new.s in
    let x = g.S.StateStore.seen c.put_copies.new.s in
    let u = value_of v c.args.r in
    let nodes = c.list_nodes.new.nodes in
    let refs = nodes.refs.items in
    let made = c.in-Ok-put_copies.made in
    let all : c.in-Ok.are_listed ≡ true = search rules in
    let lists : ListsNodes v u nodes = subst (ShowsNodes v u nodes) all (c.in-Ok.ensures.shows none (term_given v c.args.r t is) a) in
    let makes : Makes v w c.len.result = c.in-Ok-make_variables.ensures.ok in
    let ready : Ready w refs nodes.numbers u = ready_to_copy v w c.len.result u nodes a makes c.len.ensures lists in
    let listed : AreListed w nodes.numbers c.deref.result.now = subst (AreListed w nodes.numbers) (sym c.deref.ensures.value) ready.listed in
    let term : (s : Tree) → forest (values_of w refs) ≡ tree s no_trees → IsTerm x made (renamed (renumbered w.now.state nodes.numbers) s) =
    λ s e. c.in-Ok-put_copies.ensures.ok s listed (ap (λ rs. forest (values_of w rs)) c.deref.ensures.value ∙ e) in
    let whole : ShowsCopy v x u (Ok made) = copied v w x c.len.result u nodes made a makes c.len.ensures lists c.put_copies.ensures.stays term in
    subst (λ (b : Tree). ShowsCopy v x b (Ok made)) (value_is v c.args.r t is) whole
