use Rattle.std.proofs.Common.{rules}
use Rattle.std.specs.Prelude.{int_le}
use Rattle.pi_prop_places.proofs.CutLemmas.{cut_past}
use Rattle.pi_queue.proofs.held_places.HeldPlacesPlaces.cut_above.Goals as goal

pub returns-then-len-k : goal.returns-then-len-k
returns-then-len-k g c = cut_past c.args.self.now.held.items c.args.k (λ m. int_le m c.args.n) (search rules)
