use Rattle.std.proofs.Common.{arith, ◌+◌, ℕ, List, get_or, sym, subst, nat_eq}
use Rattle.std.specs.HashMap.{get}
use Rattle.std.proofs.lemmas.Option.{slice_get-get_or}
use Rattle.pi_constraints.specs.declared.constraint.Item.{Item}
use Rattle.pi_prop_filters.specs.Variables.{AreRoots}
use Rattle.pi_prop_filters.proofs.RootLemmas.{RootsSoFar, roots_more, roots_found}
use Rattle.pi_prop_filters.proofs.variables.roots_of.Goals as goal

pub loop-k-preserved : goal.loop-k-preserved
loop-k-preserved c =
    let items = c.args.items.now in
    let k = c.loop-k.k in
    let known = get nat_eq c.loop-k.by_variable in
    let after = get nat_eq c.root_of.new.by_variable in
    subst (λ (x : List ℕ). RootsSoFar items (k + 1) x after) (sym c.in_ok-push.ensures.items)
    (roots_more items k c.in_ok-root.root (get_or items k (Item.Var 0)) c.loop-k.roots.items known after (slice_get-get_or items k (Item.Var 0) c.loop-k-test.true) c.in_ok-root.ensures c.loop-k.invariant)

pub returns : goal.returns
returns c =
    subst (λ (n : ℕ). AreRoots c.args.items.now n c.loop-k.roots.items) (omega (arith, c.loop-k-test.false, c.loop-k.auto.k-end))
    (roots_found c.args.items.now c.loop-k.k c.loop-k.roots.items (get nat_eq c.loop-k.by_variable) c.loop-k.invariant)
