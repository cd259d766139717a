use Rattle.pi_store.proofs.RefLemmas.{named_by}
use Rattle.pi_store.proofs.refs.is_named.Goals as goal

pub returns : goal.returns
returns c = named_by c.args.names.now c.args.len c.args.number c.is_given.result c.is_given.ensures.is c.is_given.ensures.known
