-- What the search knows states by: a state, with its rest where the search is by rests, and with 0 where it isn't.
use Rattle.std.specs.Prelude.{ℕ, Bool, cond}
use Rattle.std.specs.Ordering.{nat_cmp, ordering_then}
use Rattle.std.specs.declared.cmp.Ordering.{Ordering}
use Rattle.pi_terms.specs.Tree.{Tree}
use Rattle.pi_terms.specs.Order.{order}
use Rattle.std.specs.Cmp.{IsTotalOrder, then_total, on_total, nat_cmp_total}
use Rattle.pi_terms.proofs.OrderLemmas.{order_total}
use Rattle.pi_plan.specs.declared.place.Place.{Place}

abbrev pub place_order : Place → Place → Ordering
place_order p q = ordering_then (order p.state q.state) (nat_cmp p.rest q.rest)

abbrev pub place_of : Bool → Tree → ℕ → Place
place_of by_rest s r = record { state = s; rest = cond by_rest r 0 }

-- that is a total order
pub place_order_total : IsTotalOrder place_order
place_order_total = then_total (on_total (λ (p : Place). p.state) order_total) (on_total (λ (p : Place). p.rest) nat_cmp_total)
