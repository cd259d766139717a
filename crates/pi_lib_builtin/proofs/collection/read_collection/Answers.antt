use Rattle.std.proofs.Common.{subst}
use Rattle.pi_effects.specs.Results.{Shows}
use Rattle.pi_lib_builtin.specs.Items.{HasItems}
use Rattle.pi_lib_builtin.proofs.CollectionLemmas.{array-given, no-array}
use Rattle.pi_lib_builtin.proofs.collection.read_collection.Goals as goal

pub returns-in-Some : goal.returns-in-Some
returns-in-Some g c = λ t a is. array-given (g.S.StateStore.seen c.args.s.now) c.args.term t c.in-Some.count is (c.in-Some.ensures t a is)

pub returns-in-None : goal.returns-in-None
returns-in-None g c = λ t a is.
    let v = g.S.StateStore.seen c.args.s.now in
    subst (Shows (HasItems v) v c.listed.result) (no-array v t (c.in-None.ensures t a is)) (c.listed.ensures t a is)
