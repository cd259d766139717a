use Rattle.pi_lib_constraints.proofs.PostLemmas.{all-given}
use Rattle.pi_lib_constraints.proofs.defaults.default_domain.Goals as goal

pub new-requires : goal.new-requires
new-requires c = all-given _ _ c.in_ok-push.ensures.items c.new-spans.ensures.items
