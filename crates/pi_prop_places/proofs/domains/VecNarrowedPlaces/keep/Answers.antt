use Rattle.std.proofs.Common.{rules}
use Rattle.pi_constraints.specs.Domain.{has_value}
use Rattle.pi_prop_places.proofs.CutLemmas.{cut_past}
use Rattle.pi_prop_places.proofs.domains.VecNarrowedPlaces.keep.Goals as goal

pub returns-then-len-k : goal.returns-then-len-k
returns-then-len-k c = cut_past c.args.self.now.items c.args.k (λ m. has_value c.args.kept.now m) (search rules)
