use Rattle.std.proofs.Common.{rules}
use Rattle.std.specs.Prelude.{not}
use Rattle.std.specs.Ordering.{int_eq}
use Rattle.pi_prop_places.proofs.CutLemmas.{cut_past}
use Rattle.pi_queue.proofs.held_places.HeldPlacesPlaces.remove.Goals as goal

pub returns-then-len-k : goal.returns-then-len-k
returns-then-len-k g c = cut_past c.args.self.now.held.items c.args.k (λ m. not (int_eq m c.args.n)) (search rules)
