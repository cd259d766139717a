-- Ways that are due, by their cost and then by their number, so that of equal costs the one that was put first is taken first.
use Rattle.std.specs.Ordering.{nat_cmp, ordering_then}
use Rattle.std.specs.Cmp.{IsTotalOrder, then_total, on_total, nat_cmp_total}
use Rattle.std.specs.declared.cmp.Ordering.{Ordering}
use Rattle.pi_plan.specs.declared.due.Due.{Due}

abbrev pub due_order : Due → Due → Ordering
due_order d e = ordering_then (nat_cmp d.cost e.cost) (nat_cmp d.way e.way)

-- that is a total order
pub due_order_total : IsTotalOrder due_order
due_order_total = then_total (on_total (λ (d : Due). d.cost) nat_cmp_total) (on_total (λ (d : Due). d.way) nat_cmp_total)
